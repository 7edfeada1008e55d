-- The lines of some bytes, and how many bytes are answered.
use Rattle.std.specs.Prelude.{◌≡◌, ℕ, ◌^◌, ◌==◌, List, [], ◌∷◌, ◌++◌, flat_map, Option, if◌then◌else◌}
use Rattle.std.specs.Io.KnownBytes.{Appends}

-- the most bytes of input that a run answers; it takes one more where there is one
abbrev pub input_limit : ℕ
input_limit = 2 ^ 26

-- the lines, with b before the first of them
abbrev pub onto_first : ℕ → List (List ℕ) → List (List ℕ)
onto_first b [] = (b ∷ []) ∷ []
onto_first b (l ∷ ls) = (b ∷ l) ∷ ls

-- the lines: each ends at a byte 10, and what comes after the last of these is one too, unless it is empty
unfoldable pub lines : List ℕ → List (List ℕ)
lines [] = []
lines (b ∷ bs) = if b == 10 then [] ∷ lines bs else onto_first b (lines bs)

-- b, and then bytes that end with a byte 10 or are none: b alone counts where it is a byte 10
abbrev pub onto_whole : ℕ → List ℕ → List ℕ
onto_whole b [] = if b == 10 then b ∷ [] else []
onto_whole b (c ∷ cs) = b ∷ c ∷ cs

-- the bytes up to and with the last byte 10, and none where there is no byte 10
unfoldable pub whole : List ℕ → List ℕ
whole [] = []
whole (b ∷ bs) = onto_whole b (whole bs)

-- what f gives of lines was written for the lines of these bytes that stand before one of which P holds
pub record AnsweredBefore (f : List ℕ → List ℕ) (P : List ℕ → Type 0) (bytes : List ℕ) (old new : Option (List ℕ)) :
    Type 0 where
  pub earlier : List (List ℕ)
  pub line : List ℕ
  pub later : List (List ℕ)
  pub split : lines bytes ≡ earlier ++ line ∷ later
  pub is : P line
  pub written : Appends old new (flat_map f earlier)
