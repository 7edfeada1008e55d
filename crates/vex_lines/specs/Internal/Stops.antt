-- Why a run stops in the midst of its answers, and what was written then.
use Rattle.std.specs.Prelude.{◌≡◌, ℕ, ◌⊎◌, List, Option, Result, Err, OnOk}
use Rattle.std.specs.Io.KnownBytes.{Appends}
use Rattle.vex_lines.specs.declared.status.Status.{Status}
use Rattle.vex_lines.specs.declared.status.Status.TheVariants as status
use Rattle.vex_lines.specs.declared.stop.Stop.{Stop}
use Rattle.vex_lines.specs.declared.stop.Stop.TheVariants.{WriteFault, NoMemory}
use Rattle.vex_lines.specs.Ends.{AppendsFront, RoseOrIsLast}

-- the status of a run that stops so
abbrev pub status_of_stop : Stop → Status
status_of_stop WriteFault = status.WriteFault
status_of_stop NoMemory = status.NoMemory

-- a text was written, all of it where the result is Ok, and a front of it where a write failed; where there was no
-- memory a text was written of which P holds
pub record Answers (P : List ℕ → Type 0) (result : Result (Unit {0}) Stop) (old new : Option (List ℕ))
    (before after : ℕ) (text : List ℕ) : Type 0 where
  pub appends : OnOk result (Appends old new text)
  pub quiet : OnOk result (after ≡ before)
  pub front : result ≡ Err WriteFault → AppendsFront old new text
  pub cause : result ≡ Err WriteFault → RoseOrIsLast before after
  pub lacked : result ≡ Err NoMemory → (written : List ℕ) × P written × Appends old new written
  pub lacked_quiet : result ≡ Err NoMemory → after ≡ before

-- a stop became another where what was held back was handed on, with this count of faults before and after: it stays,
-- and no call failed, or there was no memory and then that failed too
abbrev pub IsStopped : Stop → Stop → ℕ → ℕ → Type 0
IsStopped stop result before after =
    ((result ≡ stop) × (after ≡ before)) ⊎ ((stop ≡ NoMemory) × (result ≡ WriteFault) × RoseOrIsLast before after)
