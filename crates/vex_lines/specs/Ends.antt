-- What the ends of a run, its source and its sink, tell of their bytes and of their faults.
pub mod Lemmas
use Rattle.std.specs.Prelude.{◌≡◌, ◌≢◌, ℕ, ◌+◌, ◌-◌, ◌^◌, ◌<◌, ◌⊎◌, min, List, ◌++◌, Option, Some, None, Result}
use Rattle.std.specs.Prelude.{OnOk, OnErr, ⊤}
use Rattle.std.specs.Io.KnownBytes.{Appends}

-- a count of faults that rose, or stands at the last value of a `u64`
abbrev pub RoseOrIsLast : ℕ → ℕ → Type 0
RoseOrIsLast before after = (before < after) ⊎ (after ≡ 2 ^ 64 - 1)

-- a number of bytes that n more were added to, which stops at the last value of a `u64`
abbrev pub counted : ℕ → ℕ → ℕ
counted before n = min (before + n) (2 ^ 64 - 1)

-- where bytes are told, they grow by a front of the text, which may be empty or whole
pub record AppendsFront (old new : Option (List ℕ)) (text : List ℕ) : Type 0 where
  pub front : List ℕ
  pub back : List ℕ
  pub split : text ≡ front ++ back
  pub appended : Appends old new front

-- a text was written to a sink that told old, with this count of faults before and after: all of it where
-- the result is Ok, and a front of it where it is Err
pub record Writes {T E : Type 0} (result : Result T E) (old new : Option (List ℕ)) (before after : ℕ) (text : List ℕ) :
    Type 0 where
  pub appends : OnOk result (Appends old new text)
  pub quiet : OnOk result (after ≡ before)
  pub front : OnErr result (AppendsFront old new text)
  pub cause : OnErr result (RoseOrIsLast before after)

-- where a source tells what is left, it still does, and P holds of the bytes that were taken
abbrev pub WhereTaken : Option (List ℕ) → Option (List ℕ) → (List ℕ → Type 0) → Type 0
WhereTaken None new P = ⊤
WhereTaken (Some before) None P = ⊥
WhereTaken (Some before) (Some after) P = (taken : List ℕ) × (before ≡ taken ++ after) × P taken

-- a count of faults that did not rise, and does not stand at the last value of a `u64`
abbrev pub IsQuiet : ℕ → ℕ → Type 0
IsQuiet before after = (after ≡ before) × (after ≢ 2 ^ 64 - 1)

-- a number of bytes given that rose by more than n, or stands at the last value of a `u64`
abbrev pub RoseByMoreThan : ℕ → ℕ → ℕ → Type 0
RoseByMoreThan n before after = (before + n < after) ⊎ (after ≡ 2 ^ 64 - 1)
