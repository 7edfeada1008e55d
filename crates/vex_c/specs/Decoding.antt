-- What a decode answers.
use Rattle.std.specs.Prelude.{◌≡◌, ◌≤◌, ℕ, Bool, true, List, length, take, Some, None}
use Rattle.x86_operand.specs.declared.error.DecodeError.{DecodeError}
use Rattle.x86_operand.specs.Meaning.{Decoded}
use Rattle.x86_permit.specs.Permission.{permits}
use Rattle.vex_decode.specs.Spelling.{Spells}
use Rattle.vex_decode.specs.Blocked.{blocked}
use Rattle.vex_encode.specs.Canon.{canon}
use Rattle.vex_calls.specs.declared.flat_bytes.FlatBytes.{FlatBytes}
use Rattle.vex_calls.specs.declared.flat_instruction.FlatInstruction.{FlatInstruction}
use Rattle.vex_calls.specs.Encodings.{flat_bytes}
use Rattle.vex_calls.specs.Errors.{decode_error, error_number}
use Rattle.vex_calls.specs.Instructions.{flat_instruction}

-- the struct holds an instruction that settings permit and whose bytes begin these
pub record HoldsFirst (settings : List Bool) (bytes : List ℕ) (flat : FlatInstruction) : Type 0 where
  pub decoded : Decoded
  pub held : flat ≡ flat_instruction decoded
  pub begun : blocked settings bytes ≡ None
  pub within : decoded.len ≤ length bytes
  pub spelled : Spells (take decoded.len bytes) decoded.meaning
  pub permitted : permits settings decoded.meaning.evex decoded.meaning.opcode ≡ true

-- the answer is the number of the error that blocks the bytes
pub record AnswersBlocked (settings : List Bool) (bytes : List ℕ) (answer : ℕ) : Type 0 where
  pub error : DecodeError
  pub taken : ℕ
  pub blocked : blocked settings bytes ≡ Some (error, taken)
  pub number : answer ≡ error_number (decode_error error)

-- the structs hold that instruction and its canonical bytes, which spell the same meaning and are accepted again
pub record HoldsFirstAndShortest (settings : List Bool) (bytes : List ℕ) (flat : FlatInstruction) (encoding : FlatBytes)
    : Type 0 where
  pub first : HoldsFirst settings bytes flat
  pub shortest : List ℕ
  pub held : encoding ≡ flat_bytes shortest
  pub canonical : canon first.decoded.meaning ≡ Some shortest
  pub same : Spells shortest first.decoded.meaning
  pub accepted : blocked settings shortest ≡ None
