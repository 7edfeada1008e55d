-- What an encoder and a lister of spellings answer.
use Rattle.std.specs.Prelude.{◌≡◌, ℕ, List, Option, Some, None}
use Rattle.x86_operand.specs.Meaning.{Meaning}
use Rattle.vex_decode.specs.Spelling.{Spells}
use Rattle.vex_encode.specs.Canon.{canon}
use Rattle.vex_list.specs.Order.{IsNext}
use Rattle.vex_calls.specs.declared.call_error.CallError.TheVariants.{BadEncoding, BadInstruction, NoSpelling}
use Rattle.vex_calls.specs.declared.flat_bytes.FlatBytes.{FlatBytes}
use Rattle.vex_calls.specs.declared.flat_instruction.FlatInstruction.{FlatInstruction}
use Rattle.vex_calls.specs.Encodings.{bytes_of, flat_bytes}
use Rattle.vex_calls.specs.Errors.{error_number}
use Rattle.vex_calls.specs.Instructions.{meaning_of}

-- the struct holds the canonical bytes of an instruction's meaning
pub record HoldsShortest (flat : FlatInstruction) (encoding : FlatBytes) : Type 0 where
  pub meaning : Meaning
  pub told : meaning_of flat ≡ Some meaning
  pub shortest : List ℕ
  pub held : encoding ≡ flat_bytes shortest
  pub canonical : canon meaning ≡ Some shortest
  pub spelled : Spells shortest meaning

-- why a struct has no bytes: it tells no meaning, or one that no bytes spell
abbrev pub AnswersNoBytes : Option Meaning → ℕ → Type 0
AnswersNoBytes None answer = answer ≡ error_number BadInstruction
AnswersNoBytes (Some meaning) answer =
    (answer ≡ error_number NoSpelling) × ((bytes : List ℕ) → Spells bytes meaning → ⊥)

-- the struct holds the least spelling of an instruction's meaning that comes after some bytes
pub record HoldsNext (flat : FlatInstruction) (after encoding : FlatBytes) : Type 0 where
  pub meaning : Meaning
  pub told : meaning_of flat ≡ Some meaning
  pub previous : List ℕ
  pub after_told : bytes_of after ≡ Some previous
  pub next : List ℕ
  pub held : encoding ≡ flat_bytes next
  pub is_next : IsNext meaning previous (Some next)

-- why a struct has no next spelling: it tells no meaning, or there are no bytes to come after, or no spelling does
abbrev pub AnswersNoNext : Option Meaning → Option (List ℕ) → ℕ → Type 0
AnswersNoNext None previous answer = answer ≡ error_number BadInstruction
AnswersNoNext (Some meaning) None answer = answer ≡ error_number BadEncoding
AnswersNoNext (Some meaning) (Some previous) answer = (answer ≡ error_number NoSpelling) × IsNext meaning previous None
