-- The laws of spellings.
use Rattle.std.specs.Prelude.{◌≡◌, ◌≢◌, ◌↔◌, ℕ, ◌≤◌, Bool, true, false, List, ◌∷◌, ◌++◌, length, take, Some, None}
use Rattle.std.specs.Prelude.{Result, Ok, Err, IfErr, OnOk, OnErr, IsTrue}
use Rattle.x86_opcode.specs.declared.Opcode.{Opcode}
use Rattle.x86_opcode.specs.Vex.{is_vex}
use Rattle.x86_operand.specs.declared.error.DecodeError.{DecodeError}
use Rattle.x86_operand.specs.declared.error.DecodeError.TheVariants.{ExhaustedInput, InvalidOpcode, Outside}
use Rattle.x86_operand.specs.Meaning.{Meaning, Decoded}
use Rattle.x86_permit.specs.Permission.{permits}
use Rattle.x86_settings.specs.Bits.{is_set}
use Rattle.x86_reader.specs.Reader.{marked, Passes}
use Rattle.x86_reader.specs.SliceReader.{SliceReader, slice_state}
use Rattle.x86_address.specs.Bytes.{IsBytes, Begins}
use Rattle.vex_rows.specs.Row.{Row, IsRow, opcode_of}
use Rattle.vex_decode.specs.Spelling.{Syntax, IsSyntax, bytes_of, Spells}
use Rattle.vex_decode.specs.Walk.{walk}
use Rattle.vex_decode.specs.Blocked.{fails, blocked}
use Rattle.vex_decode.specs.Decode.{decode}
use Rattle.vex_decode.specs.Decoding.{TakesInstruction, TakesBlocked, BlocksSlice, no_instruction}

-- of two spellings of which one begins the other, the one is the other
abbrev pub PrefixFree : Type 0
PrefixFree = (a b : List ℕ) (m n : Meaning) → Spells a m → Spells b n → Begins a b → a ≡ b

-- a spelling has at least 3 and at most 11 bytes
abbrev pub SpellingLength : Type 0
SpellingLength = (bytes : List ℕ) (m : Meaning) → Spells bytes m → (3 ≤ length bytes) × (length bytes ≤ 11)

-- each number of a spelling is a byte
abbrev pub SpellingBytes : Type 0
SpellingBytes = (bytes : List ℕ) (m : Meaning) → Spells bytes m → IsBytes bytes

-- bytes spell at most one meaning
abbrev pub OneMeaning : Type 0
OneMeaning = (bytes : List ℕ) (m n : Meaning) → Spells bytes m → Spells bytes n → m ≡ n

-- the bytes are those that a row writes for these parts of a spelling, and then the rest
pub record BeginsAs (bytes : List ℕ) (row : Row) (parts : Syntax) (rest : List ℕ) : Type 0 where
  pub is_row : IsRow row
  pub fits : IsSyntax row parts
  pub written : bytes ≡ bytes_of row parts ++ rest

-- the row and the parts that a decode takes out of bytes are exactly those of the spelling that begins them
abbrev pub ReadingIsSpelling : Type 0
ReadingIsSpelling =
    (bytes : List ℕ) (row : Row) (parts : Syntax) (rest : List ℕ) → IsBytes bytes
    → walk bytes ≡ Ok ((row, parts), rest) ↔ BeginsAs bytes row parts rest

-- where a spelling stands first, its row and its parts are what a decode takes, whatever numbers follow
abbrev pub SpellingIsRead : Type 0
SpellingIsRead =
    (bytes rest : List ℕ) (m : Meaning) (spells : Spells bytes m)
    → walk (bytes ++ rest) ≡ Ok ((spells.row, spells.by.parts), rest)

-- the bytes begin with a spelling of a meaning whose opcode the settings permit
pub record BeginsPermitted (settings : List Bool) (bytes : List ℕ) : Type 0 where
  pub front : List ℕ
  pub begins : Begins front bytes
  pub m : Meaning
  pub spells : Spells front m
  pub permitted : IsTrue (permits settings m.evex m.opcode)

-- bytes are not blocked exactly where they begin with a permitted spelling
abbrev pub BlockedOrBegun : Type 0
BlockedOrBegun = (settings : List Bool) (bytes : List ℕ) → IsBytes bytes
    → blocked settings bytes ≡ None ↔ BeginsPermitted settings bytes

-- more bytes change nothing, other than where the bytes were exhausted
abbrev pub MoreBytes : Type 0
MoreBytes =
    (settings : List Bool) (bytes more : List ℕ) → ((n : ℕ) → blocked settings bytes ≢ Some (ExhaustedInput, n))
    → blocked settings (bytes ++ more) ≡ blocked settings bytes

-- where the bytes are exhausted, all of them were taken
abbrev pub ExhaustedAtEnd : Type 0
ExhaustedAtEnd = (settings : List Bool) (bytes : List ℕ) (n : ℕ) → blocked settings bytes ≡ Some (ExhaustedInput, n)
    → n ≡ length bytes

-- each bit that is set in the settings is set in these
abbrev pub AreWithin : List Bool → List Bool → Type 0
AreWithin settings more = (i : ℕ) → IsTrue (is_set settings i) → IsTrue (is_set more i)

-- a decode under the settings answers a meaning and a length: no step fails, and so many bytes spell the meaning
pub record Decodes (settings : List Bool) (bytes : List ℕ) (m : Meaning) (n : ℕ) : Type 0 where
  pub not_blocked : blocked settings bytes ≡ None
  pub within : n ≤ length bytes
  pub spells : Spells (take n bytes) m

-- where a spelling that the settings permit stands first, a decode answers its meaning and its length, whatever numbers
-- follow
abbrev pub DecodeOfSpelling : Type 0
DecodeOfSpelling =
    (settings : List Bool) (front rest : List ℕ) (m : Meaning) → Spells front m
    → permits settings m.evex m.opcode ≡ true
    → decode settings (front ++ rest) ≡ Ok (record { meaning = m; len = length front })

-- a decode answers a meaning and a length exactly where no step fails and so many bytes spell the meaning
abbrev pub DecodeIsSpelling : Type 0
DecodeIsSpelling =
    (settings : List Bool) (bytes : List ℕ) (decoded : Decoded) → IsBytes bytes
    → decode settings bytes ≡ Ok decoded ↔ Decodes settings bytes decoded.meaning decoded.len

-- a decode answers an error exactly where this one blocks the bytes
abbrev pub DecodeIsBlocked : Type 0
DecodeIsBlocked =
    (settings : List Bool) (bytes : List ℕ) (error : DecodeError)
    → decode settings bytes ≡ Err error ↔ ((n : ℕ) × (blocked settings bytes ≡ Some (error, n)))

-- further bits never turn an answer into an error
abbrev pub MoreSettings : Type 0
MoreSettings =
    (settings more : List Bool) → AreWithin settings more
    → (bytes : List ℕ) → IsBytes bytes → blocked settings bytes ≡ None → blocked more bytes ≡ None

-- the meaning and the length that a decode answers don't depend on the settings
abbrev pub SameAnswer : Type 0
SameAnswer =
    (settings other : List Bool) (bytes : List ℕ) (m m' : Meaning) (n n' : ℕ)
    → Decodes settings bytes m n → Decodes other bytes m' n' → (m ≡ m') × (n ≡ n')

-- where bytes are blocked after n of them, those n alone are blocked by the same error, after all of them
abbrev pub FirstBytes : Type 0
FirstBytes =
    (settings : List Bool) (bytes : List ℕ) (error : DecodeError) (n : ℕ) → blocked settings bytes ≡ Some (error, n)
    → blocked settings (take n bytes) ≡ Some (error, n)

-- bytes are blocked after at most 11 of them
abbrev pub AtMostEleven : Type 0
AtMostEleven =
    (settings : List Bool) (bytes : List ℕ) (error : DecodeError) (n : ℕ) → blocked settings bytes ≡ Some (error, n)
    → (n ≤ length bytes) × (n ≤ 11)

-- the settings come last: where a step before them fails, its error blocks the bytes
abbrev pub SettingsLast : Type 0
SettingsLast = (settings : List Bool) (bytes : List ℕ) (error : DecodeError) (n : ℕ) → fails bytes ≡ Some (error, n)
    → blocked settings bytes ≡ Some (error, n)

-- the first byte is there and is neither C4 nor C5
pub record BeginsOutside (bytes : List ℕ) : Type 0 where
  pub first : ℕ
  pub rest : List ℕ
  pub is : bytes ≡ first ∷ rest
  pub not_two : first ≢ 0xC5
  pub not_three : first ≢ 0xC4

-- exactly such bytes are blocked by `Outside`, after one byte
abbrev pub OutsideExactly : Type 0
OutsideExactly = (settings : List Bool) (bytes : List ℕ) (n : ℕ)
    → blocked settings bytes ≡ Some (Outside, n) ↔ ((n ≡ 1) × BeginsOutside bytes)

-- the first n bytes spell a meaning whose opcode the settings don't permit
pub record BeginsRefused (settings : List Bool) (bytes : List ℕ) (n : ℕ) : Type 0 where
  pub front : List ℕ
  pub begins : Begins front bytes
  pub whole : length front ≡ n
  pub m : Meaning
  pub spells : Spells front m
  pub refused : permits settings m.evex m.opcode ≡ false

-- exactly on such bytes no step fails but the settings
abbrev pub SettingsAlone : Type 0
SettingsAlone =
    (settings : List Bool) (bytes : List ℕ) (n : ℕ) → IsBytes bytes
    → ((fails bytes ≡ None) × (blocked settings bytes ≡ Some (InvalidOpcode, n))) ↔ BeginsRefused settings bytes n

-- an opcode is a VEX opcode exactly where some row gives it
abbrev pub VexOpcodes : Type 0
VexOpcodes = (o : Opcode) → (is_vex o ≡ true) ↔ ((row : Row) × IsRow row × (opcode_of row ≡ o))

-- what the clauses of a decode into an instruction say of its answer, over a `U8Reader`, with and without notes
pub record Answers (settings : List Bool) (before after : SliceReader) (result : Result Unit DecodeError)
    (instruction : Decoded) : Type 0 where
  pub decoded : OnOk result (TakesInstruction settings (marked (slice_state before)) (slice_state after) instruction)
  pub refused : IfErr result (TakesBlocked settings (marked (slice_state before)) (slice_state after))
  pub fresh : OnErr result (instruction ≡ no_instruction)
  pub slice : IfErr result (BlocksSlice settings (marked (slice_state before)) (slice_state after))

-- two readers gave the same bytes
pub record TakeTheSame (before after before' after' : SliceReader) : Type 0 where
  pub bytes : List ℕ
  pub passes : Passes (marked (slice_state before)) (slice_state after) bytes
  pub other : Passes (marked (slice_state before')) (slice_state after') bytes

-- over the same bytes and settings, a decode with notes and one without give one answer and one instruction, and take
-- the same bytes
abbrev pub NotesChangeNothing : Type 0
NotesChangeNothing =
    (settings : List Bool) (before after before' after' : SliceReader) (result result' : Result Unit DecodeError)
    (instruction instruction' : Decoded)
    → before.left ≡ before'.left → Answers settings before after result instruction
    → Answers settings before' after' result' instruction'
    → (result ≡ result') × (instruction ≡ instruction') × TakeTheSame before after before' after'
