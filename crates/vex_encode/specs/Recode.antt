-- What a recoding answers.
use Rattle.std.specs.Prelude.{◌≡◌, ◌≤◌, ℕ, length, Bool, true, List, [], take, Some, None, Result, Ok, Err, unwrap_or}
use Rattle.x86_operand.specs.declared.error.DecodeError.{DecodeError}
use Rattle.x86_operand.specs.Meaning.{Decoded}
use Rattle.x86_permit.specs.Permission.{permits}
use Rattle.vex_decode.specs.Spelling.{Spells}
use Rattle.vex_decode.specs.Blocked.{blocked}
use Rattle.vex_decode.specs.Decode.{decode}
use Rattle.vex_encode.specs.Canon.{canon}

-- what a decode answers, with the canonical bytes of its meaning
abbrev pub with_canonical : Result Decoded DecodeError → Result (Decoded × List ℕ) DecodeError
with_canonical (Ok decoded) = Ok (decoded, unwrap_or (canon decoded.meaning) [])
with_canonical (Err error) = Err error

-- a recoding of bytes under settings: the instruction that a decode answers and its canonical bytes, or the error
abbrev pub recoded : List Bool → List ℕ → Result (Decoded × List ℕ) DecodeError
recoded settings bytes = with_canonical (decode settings bytes)

-- *private*: an instruction and its canonical bytes, for the spelling that begins some bytes
pub record RecodesAs (settings : List Bool) (bytes : List ℕ) (decoded : Decoded) (spelling : List ℕ) : Type 0 where
  pub begun : blocked settings bytes ≡ None
  pub within : decoded.len ≤ length bytes
  pub spelled : Spells (take decoded.len bytes) decoded.meaning
  pub permitted : permits settings decoded.meaning.evex decoded.meaning.opcode ≡ true
  pub canonical : canon decoded.meaning ≡ Some spelling
  pub same : Spells spelling decoded.meaning
  pub accepted : blocked settings spelling ≡ None

-- *private*: what a recoding answers: that, or the error that blocks the bytes
abbrev pub Recodes : List Bool → List ℕ → Result (Decoded × List ℕ) DecodeError → Type 0
Recodes settings bytes (Ok recoded) = RecodesAs settings bytes recoded.0 recoded.1
Recodes settings bytes (Err error) = (n : ℕ) × (blocked settings bytes ≡ Some (error, n))
