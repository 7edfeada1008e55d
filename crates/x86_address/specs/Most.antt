-- How many bytes a step takes at most.
pub mod Lemmas
use Rattle.std.specs.Prelude.{ℕ, ◌≤◌, ◌+◌, List, length, Ok, Err}
use Rattle.x86_address.specs.Reading.{Reading}

-- the bytes that are left, after an error too
abbrev pub left_by : {A : Type 0} → Reading A → List ℕ
left_by (Ok read) = read.1
left_by (Err error) = error.1

-- the step takes at most so many bytes, whether it fails or not
pub record TakesAtMost {A : Type 0} (n : ℕ) (step : List ℕ → Reading A) : Type 0 where
  pub within : (bytes : List ℕ) → length bytes ≤ n + length (left_by (step bytes))
