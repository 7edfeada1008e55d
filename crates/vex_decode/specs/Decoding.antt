-- What a decode over a reader tells its caller.
use Rattle.std.specs.Prelude.{◌≡◌, ◌≤◌, ℕ, Bool, true, false, List, [], ◌∷◌, ◌++◌, length, Some, None, Result, IsOk}
use Rattle.x86_operand.specs.declared.error.DecodeError.{DecodeError}
use Rattle.x86_operand.specs.declared.note.FieldDescription.{FieldDescription}
use Rattle.x86_operand.specs.Meaning.{Meaning, Decoded}
use Rattle.x86_opcode.specs.declared.Opcode.TheVariants.{Invalid}
use Rattle.x86_permit.specs.Permission.{permits}
use Rattle.x86_reader.specs.Reader.{ReaderState, Takes, Passes, CountsRefusal}
use Rattle.x86_reader.specs.SliceReader.{SliceReader, slice_state}
use Rattle.x86_reader.specs.Sink.{SinkState, Records}
use Rattle.x86_address.specs.Follows.{Refused}
use Rattle.vex_forms.specs.FormWalk.{taken}
use Rattle.vex_decode.specs.Spelling.{Spells}
use Rattle.vex_decode.specs.Blocked.{fails, blocked}
use Rattle.vex_decode.specs.Decode.{decode}
use Rattle.vex_decode.specs.Notes.{notes}

-- the instruction after a refusal: no mark, the opcode `Invalid`, no operands, no size, length 0
abbrev pub no_instruction : Decoded
no_instruction = record { meaning = record { evex = false; opcode = Invalid; operands = []; size = None }; len = 0 }

-- the reader gave the bytes of a spelling of the instruction's meaning, as many as its length and at most 11, and the
-- settings permit its opcode
pub record TakesInstruction (settings : List Bool) (old new : ReaderState) (decoded : Decoded) : Type 0 where
  pub bytes : List ℕ
  pub takes : Takes old new bytes
  pub most : length bytes ≤ 11
  pub spells : Spells bytes decoded.meaning
  pub permitted : permits settings decoded.meaning.evex decoded.meaning.opcode ≡ true
  pub len : decoded.len ≡ length bytes

-- the reader gave at most 11 bytes, which are blocked by this error after all of them; it refused a byte exactly where
-- they are exhausted
pub record TakesBlocked (settings : List Bool) (old new : ReaderState) (error : DecodeError) : Type 0 where
  pub bytes : List ℕ
  pub passes : Passes old new bytes
  pub refused : Refused old new error
  pub most : length bytes ≤ 11
  pub blocked : blocked settings bytes ≡ Some (error, length bytes)

-- where the bytes that the reader tells begin with a spelling of a permitted meaning, and no refusal was counted, the
-- call succeeds
abbrev pub CompletesDecode : {B : Type 0} → List Bool → ReaderState → ReaderState → Result B DecodeError → Type 0
CompletesDecode settings old new result =
    (front rest : List ℕ) (m : Meaning) → old.left ≡ Some (front ++ rest) → Spells front m
    → permits settings m.evex m.opcode ≡ true
    → (CountsRefusal old new → ⊥) → IsOk result

-- over a `U8Reader` the error is the one that blocks the bytes that were left, after as many as were taken
abbrev pub BlocksSlice : List Bool → ReaderState → ReaderState → DecodeError → Type 0
BlocksSlice settings old new error =
    (before after : SliceReader) → old ≡ slice_state before → new ≡ slice_state after
    → blocked settings before.left ≡ Some (error, taken before.left after.left)

-- over a `U8Reader` the answer is that of a decode of the bytes that were left
abbrev pub AnswersDecode : List Bool → ReaderState → ReaderState → Result Decoded DecodeError → Type 0
AnswersDecode settings old new result =
    (before after : SliceReader) → old ≡ slice_state before → new ≡ slice_state after
    → result ≡ decode settings before.left

-- the reader gave some bytes, and the sink was given the notes on them, of which there are at most 11
pub record NotesTaken (old new : ReaderState) (sink_old sink_new : SinkState FieldDescription) : Type 0 where
  pub bytes : List ℕ
  pub passes : Passes old new bytes
  pub records : Records sink_old sink_new (notes bytes)
  pub few : length (notes bytes) ≤ 11

-- ---- after the first byte

-- after this first byte, the reader gave the other bytes of a spelling of the instruction's meaning, which has as many
-- as the length and at most 11
pub record TakesRest (first : ℕ) (old new : ReaderState) (decoded : Decoded) : Type 0 where
  pub bytes : List ℕ
  pub takes : Takes old new bytes
  pub most : length bytes ≤ 10
  pub spells : Spells (first ∷ bytes) decoded.meaning
  pub len : decoded.len ≡ length (first ∷ bytes)

-- after this first byte, the reader gave at most 10 bytes, and a step before the settings fails after all of them; it
-- refused a byte exactly where they are exhausted
pub record FailsRest (first : ℕ) (old new : ReaderState) (error : DecodeError) : Type 0 where
  pub bytes : List ℕ
  pub passes : Passes old new bytes
  pub refused : Refused old new error
  pub most : length bytes ≤ 10
  pub fails : fails (first ∷ bytes) ≡ Some (error, length (first ∷ bytes))

-- after this first byte, the reader gave some bytes, and the sink was given the notes on all, of which there are at
-- most 11
pub record NotesRest (first : ℕ) (old new : ReaderState) (sink_old sink_new : SinkState FieldDescription) : Type 0 where
  pub bytes : List ℕ
  pub passes : Passes old new bytes
  pub records : Records sink_old sink_new (notes (first ∷ bytes))
  pub few : length (notes (first ∷ bytes)) ≤ 11
