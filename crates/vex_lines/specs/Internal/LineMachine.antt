-- The line buffer as a machine over bytes: it keeps the bytes of the unfinished line, and none of them once
-- the line is too long. What a line gives is left open, as f.
use Rattle.std.specs.Prelude.{◌≡◌, ℕ, ◌==◌, nat_lt, List, [], ◌∷◌, ◌++◌, length, codes, Option, Some, None, IsSomeAnd}
use Rattle.std.specs.Prelude.{if◌then◌else◌}
use Rattle.vex_lines.specs.ErrorLine.{error_line}

-- what is kept of a line, one byte on
unfoldable pub pushed : Option (List ℕ) → ℕ → Option (List ℕ)
pushed None b = None
pushed (Some line) b = if nat_lt (length line) 8192 then Some (line ++ b ∷ []) else None

-- what is kept of a line, more bytes on
unfoldable pub appended : Option (List ℕ) → List ℕ → Option (List ℕ)
appended kept [] = kept
appended kept (b ∷ bs) = appended (pushed kept b) bs

-- what is kept of the unfinished line, one byte on
unfoldable pub stepped : Option (List ℕ) → ℕ → Option (List ℕ)
stepped kept b = if b == 10 then Some [] else pushed kept b

-- what is kept of the unfinished line after more bytes
unfoldable pub line_after : Option (List ℕ) → List ℕ → Option (List ℕ)
line_after kept [] = kept
line_after kept (b ∷ bs) = line_after (stepped kept b) bs

-- what a line gives that is too long
abbrev pub long_line : List ℕ
long_line = error_line (codes "LongLine")

-- what the kept line gives
abbrev pub kept_report : (List ℕ → List ℕ) → Option (List ℕ) → List ℕ
kept_report f None = long_line
kept_report f (Some line) = f line

-- what the line gives that this byte ends, if it ends one
unfoldable pub ended_at : (List ℕ → List ℕ) → Option (List ℕ) → ℕ → List ℕ
ended_at f kept b = if b == 10 then kept_report f kept else []

-- what the lines give that more bytes end
unfoldable pub ended : (List ℕ → List ℕ) → Option (List ℕ) → List ℕ → List ℕ
ended f kept [] = []
ended f kept (b ∷ bs) = ended_at f kept b ++ ended f (stepped kept b) bs

-- what the last line gives, which has no end: nothing where it is empty
unfoldable pub last : (List ℕ → List ℕ) → Option (List ℕ) → List ℕ
last f None = long_line
last f (Some []) = []
last f (Some (b ∷ bs)) = f (b ∷ bs)

-- of more bytes, those before one that ends a line of which P holds end lines that give this text
pub record EndedBefore (f : List ℕ → List ℕ) (P : List ℕ → Type 0) (kept : Option (List ℕ)) (bytes text : List ℕ) :
    Type 0 where
  pub front : List ℕ
  pub rest : List ℕ
  pub split : bytes ≡ front ++ 10 ∷ rest
  pub line : IsSomeAnd (line_after kept front) P
  pub gives : text ≡ ended f kept front
