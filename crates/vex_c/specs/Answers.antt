-- What a call answers: 0, or the number of an error; and what a place holds then.
use Rattle.std.specs.Prelude.{◌≡◌, ◌<◌, ◌≤◌, ◌+◌, ℕ, List, ◌∷◌, ◌++◌, length, drop, Result, Ok, Err}
use Rattle.vex_calls.specs.declared.call_error.CallError.{CallError}
use Rattle.vex_calls.specs.declared.call_error.CallError.TheVariants.{NoRoom}
use Rattle.vex_calls.specs.Errors.{error_number}

-- 0 is answered and the place holds the value, or the error's number is and the place is as it was
abbrev pub Fills : {A : Type 0} → Result A CallError → ℕ → A → A → Type 0
Fills (Ok value) answer old new = (answer ≡ 0) × (new ≡ value)
Fills (Err error) answer old new = (answer ≡ error_number error) × (new ≡ old)

-- a text is written with a 0 behind it where both fit, and else the room is as it was
pub record WritesText (text : List ℕ) (answer : ℕ) (old new : List ℕ) : Type 0 where
  pub fits : length text < length old → (answer ≡ 0) × (new ≡ text ++ 0 ∷ drop (length text + 1) old)
  pub full : length old ≤ length text → (answer ≡ error_number NoRoom) × (new ≡ old)
