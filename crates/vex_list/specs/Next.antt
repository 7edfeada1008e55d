-- The nearest of a set of byte strings. Private functions alone cite what stands here.
use Rattle.std.specs.Prelude.{◌⊎◌, ℕ, ◌≤◌, ◌<◌, List, Option}
use Rattle.x86_operand.specs.Meaning.{Meaning}
use Rattle.vex_decode.specs.Spelling.{Spells}
use Rattle.vex_list.specs.Order.{Before, AtMost, Later}

-- the nearest so far went from the one to the other over some strings
pub record Covers (m : Meaning) (previous : List ℕ) (over : List ℕ → Type 0) (old new : Option (List ℕ)) : Type 0 where
  pub later : Later m previous old → Later m previous new
  pub kept : (b : List ℕ) → AtMost old b → AtMost new b
  pub covers : (b : List ℕ) → over b → Spells b m → Before previous b → AtMost new b

-- the strings of one of two sets
abbrev pub Either : (List ℕ → Type 0) → (List ℕ → Type 0) → List ℕ → Type 0
Either over others b = over b ⊎ others b

-- the strings of the sets from one number on and below another
abbrev pub Between : ℕ → ℕ → (ℕ → List ℕ → Type 0) → List ℕ → Type 0
Between first end over b = (i : ℕ) × (first ≤ i) × (i < end) × over i b
