-- The order of byte strings, and the list of all spellings of a meaning in that order.
use Rattle.std.specs.Prelude.{◌≡◌, ℕ, Bool, true, false, List, [], ◌∷◌, Option, Some, None}
use Rattle.std.specs.Ordering.{nat_cmp, is_lt, is_gt}
use Rattle.std.specs.Cmp.Lexicographic.{slice_cmp}
use Rattle.x86_operand.specs.Meaning.{Meaning}
use Rattle.vex_rows.specs.Row.{Among}
use Rattle.vex_decode.specs.Spelling.{Spells}

-- whether one byte string comes before another: byte by byte from the front, a proper prefix first
abbrev pub is_before : List ℕ → List ℕ → Bool
is_before a b = is_lt (slice_cmp nat_cmp a b)

-- one byte string comes before another
abbrev pub Before : List ℕ → List ℕ → Type 0
Before a b = is_before a b ≡ true

-- one byte string doesn't come after another
abbrev pub UpTo : List ℕ → List ℕ → Type 0
UpTo a b = is_gt (slice_cmp nat_cmp a b) ≡ false

-- each string comes before all that stand behind it, so that none stands twice
abbrev pub Ascending : List (List ℕ) → Type 0
Ascending [] = Unit {0}
Ascending (b ∷ bs) = ((other : List ℕ) → Among other bs → Before b other) × Ascending bs

-- the list of all spellings of a meaning: it is ascending, each of its strings spells the meaning, and none is missing
pub record IsListOfAll (m : Meaning) (all : List (List ℕ)) : Type 0 where
  pub ascending : Ascending all
  pub spelled : (b : List ℕ) → Among b all → Spells b m
  pub complete : (b : List ℕ) → Spells b m → Among b all

-- what there is comes no later than a string
abbrev pub AtMost : Option (List ℕ) → List ℕ → Type 0
AtMost None b = ⊥
AtMost (Some c) b = UpTo c b

-- what there is spells the meaning, and comes after a string
abbrev pub Later : Meaning → List ℕ → Option (List ℕ) → Type 0
Later m previous None = Unit {0}
Later m previous (Some c) = Spells c m × Before previous c

-- the least spelling of a meaning that comes after a string, none exactly where there is none
pub record IsNext (m : Meaning) (previous : List ℕ) (next : Option (List ℕ)) : Type 0 where
  pub later : Later m previous next
  pub least : (b : List ℕ) → Spells b m → Before previous b → AtMost next b
