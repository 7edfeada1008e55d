-- The bytes of a line.
use Rattle.std.specs.Prelude.{◌≡◌, ℕ, Bool, List, Some, Result, Ok, Err}
use Rattle.x86_operand.specs.Meaning.{Meaning, Decoded}
use Rattle.vex_decode.specs.Laws.{Decodes}
use Rattle.vex_decode.specs.Spelling.{Spells}
use Rattle.vex_encode.specs.Canon.{canon}
use Rattle.vex_asm.specs.declared.error.AsmError.{AsmError}
use Rattle.vex_asm.specs.declared.error.AsmError.TheVariants.{BadText, NoSpelling}
use Rattle.vex_asm.specs.Laws.{IsTextOf}
use Rattle.vex_asm.specs.Text.{text, words}

-- a line writes a meaning, and these are its canonical bytes
pub record AssemblesTo (line bytes : List ℕ) : Type 0 where
  pub meaning : Meaning
  pub written : IsTextOf line meaning
  pub canonical : canon meaning ≡ Some bytes

-- a line writes a meaning that no bytes spell
pub record HasNoSpelling (line : List ℕ) : Type 0 where
  pub meaning : Meaning
  pub written : IsTextOf line meaning
  pub unspelled : (bytes : List ℕ) → Spells bytes meaning → ⊥

-- a line writes the meaning of an instruction, and these are its canonical bytes
pub record AssemblesAs (line : List ℕ) (read : Decoded) (bytes : List ℕ) : Type 0 where
  pub length : read.len ≡ 0
  pub written : IsTextOf line read.meaning
  pub canonical : canon read.meaning ≡ Some bytes

-- what is answered for a line: the instruction that it writes with its canonical bytes, or why there is none
abbrev pub Assembles : List ℕ → Result (Decoded × List ℕ) AsmError → Type 0
Assembles line (Ok found) = AssemblesAs line found.0 found.1
Assembles line (Err BadText) = (m : Meaning) → IsTextOf line m → ⊥
Assembles line (Err NoSpelling) = HasNoSpelling line

-- a line whose words are the text of the meaning that a decode of these bytes answers has its canonical bytes
abbrev pub TextAssembles : List Bool → List ℕ → Type 0
TextAssembles settings bytes =
    (m : Meaning) (n : ℕ) (line : List ℕ) → Decodes settings bytes m n → words line ≡ text m
    → (canonical : List ℕ) × (canon m ≡ Some canonical) × AssemblesTo line canonical
