-- The laws of the texts of meanings.
use Rattle.std.specs.Prelude.{◌≡◌, ◌↔◌, ℕ, List, Some}
use Rattle.x86_operand.specs.Meaning.{Meaning}
use Rattle.x86_operand.specs.Range.{IsMeaning}
use Rattle.vex_asm.specs.Text.{text, words}
use Rattle.vex_asm.specs.Line.{meaning_of}

-- a meaning in range that the words of a line are the text of
pub record IsTextOf (line : List ℕ) (m : Meaning) : Type 0 where
  pub in_range : IsMeaning m
  pub text : text m ≡ words line

-- the texts of different meanings differ
abbrev pub TextsDiffer : Type 0
TextsDiffer = (m n : Meaning) → IsMeaning m → IsMeaning n → text m ≡ text n → m ≡ n

-- the text of a meaning is a line with that text as its words
abbrev pub TextsAreWords : Type 0
TextsAreWords = (m : Meaning) → IsMeaning m → words (text m) ≡ text m

-- the meaning of a line is the one in range of which its words are the text
abbrev pub MeaningOfLine : Type 0
MeaningOfLine = (line : List ℕ) (m : Meaning) → meaning_of line ≡ Some m ↔ IsTextOf line m
