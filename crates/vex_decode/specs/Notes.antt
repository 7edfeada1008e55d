-- The notes on the bytes that a decode has taken: the first and the last bit, and what stands there. Bits are counted
-- from the first byte on; of each byte the lowest comes first. What a note says of a bit is of the bit as it stands in
-- the byte.
use Rattle.std.specs.Prelude.{ℕ, ◌+◌, ◌-◌, ◌/◌, ◌%◌, ◌^◌, Bool, ◌==◌, List, [], ◌∷◌, ◌++◌, Option, Some, None}
use Rattle.std.specs.Prelude.{if◌then◌else◌}
use Rattle.x86_reader.specs.Sink.{Triple}
use Rattle.x86_operand.specs.declared.note.Note.{Note}
use Rattle.x86_operand.specs.declared.note.Note.TheVariants.{P0, P1, P2, P3, M1, M2, M3, MOther, R0, R1, X0, X1, B0, B1}
use Rattle.x86_operand.specs.declared.note.Note.TheVariants.{L0, L1, W1, W0, PrefixEnd, OpcodeEnd}
use Rattle.x86_operand.specs.declared.note.InnerDescription.{InnerDescription}
use Rattle.x86_operand.specs.declared.note.InnerDescription.TheVariants.{Misc, RegisterNumber, Opcode, Boundary}
use Rattle.x86_operand.specs.declared.note.FieldDescription.{FieldDescription}
use Rattle.x86_operand.specs.declared.register.RegisterBank.TheVariants.{X}
use Rattle.vex_rows.specs.declared.entry.Entry.{Entry}
use Rattle.vex_rows.specs.declared.key.Map.{Map}
use Rattle.vex_forms.specs.Fields.{Fields}
use Rattle.vex_decode.specs.Fields.{PrefixForm, C4, C5}
use Rattle.vex_decode.specs.Walk.{map_of, fields_of_two, fields_of_three, key_of, entry_of}

-- a note: its first bit, its last bit, and what stands there with its number
abbrev pub NoteAt : Type 0
NoteAt = Triple FieldDescription

abbrev pub note_at : ℕ → ℕ → ℕ → InnerDescription → NoteAt
note_at start end id what = (start, end, record { desc = what; id = id })

-- whether a bit of a byte is set
abbrev pub bit_set : ℕ → ℕ → Bool
bit_set byte bit = (byte / 2 ^ bit) % 2 == 1

-- what is said of a bit that is set, and of one that isn't
abbrev pub by_bit : Bool → Note → Note → InnerDescription
by_bit set one zero = Misc (if set then one else zero)

-- what is said of the field pp
abbrev pub p_note : ℕ → Note
p_note pp = if pp == 0 then P0 else if pp == 1 then P1 else if pp == 2 then P2 else P3

-- what is said of the map number
abbrev pub m_note : ℕ → Note
m_note m = if m == 1 then M1 else if m == 2 then M2 else if m == 3 then M3 else MOther

-- what is said of the field vvvv of a byte: its value, inverted, as a register of bank X
abbrev pub vvvv_note : ℕ → InnerDescription
vvvv_note byte = RegisterNumber (15 - (byte / 8) % 16) (record { bank = X; num = 15 - (byte / 8) % 16 })

-- the notes on a two-byte prefix, once its second byte is there. Of r and w they speak by bits 2 and 7
abbrev pub two_byte_notes : ℕ → List NoteAt
two_byte_notes p =
    note_at 8 9 8 (Misc (p_note (p % 4)))
    ∷ note_at 11 14 10 (vvvv_note p)
    ∷ note_at 10 10 9 (by_bit (bit_set p 2) R1 R0)
    ∷ note_at 15 15 9 (by_bit (bit_set p 7) W1 W0)
    ∷ note_at 23 23 23 (Boundary PrefixEnd)
    ∷ []

-- the first notes on a three-byte prefix, once its three bytes are there
abbrev pub map_notes : ℕ → ℕ → List NoteAt
map_notes p q = note_at 16 17 8 (Misc (p_note (q % 4))) ∷ note_at 8 12 8 (Misc (m_note (p % 32))) ∷ []

-- those on the bits
abbrev pub bit_notes : ℕ → ℕ → List NoteAt
bit_notes p q =
    note_at 15 15 9 (by_bit (bit_set p 7) R1 R0)
    ∷ note_at 14 14 9 (by_bit (bit_set p 6) X1 X0)
    ∷ note_at 13 13 9 (by_bit (bit_set p 5) B1 B0)
    ∷ note_at 18 18 9 (by_bit (bit_set q 2) L1 L0)
    ∷ note_at 23 23 9 (by_bit (bit_set q 7) W1 W0)
    ∷ []

-- what else is said, where there is a map of that number
abbrev pub three_byte_notes : ℕ → ℕ → List NoteAt
three_byte_notes p q = note_at 19 22 10 (vvvv_note q) ∷ (bit_notes p q ++ note_at 31 31 31 (Boundary PrefixEnd) ∷ [])

-- the first bit of the opcode byte
abbrev pub opcode_start : PrefixForm → ℕ
opcode_start C5 = 16
opcode_start C4 = 24

-- the notes on an opcode byte from this bit on, once its entry is found: the opcode that the entry announces
abbrev pub opcode_notes_at : ℕ → Entry → List NoteAt
opcode_notes_at start entry =
    note_at start (start + 7) start (Opcode entry.opcode)
    ∷ note_at (start + 7) (start + 7) (start + 7) (Boundary OpcodeEnd) ∷ []

abbrev pub opcode_notes : PrefixForm → Entry → List NoteAt
opcode_notes form entry = opcode_notes_at (opcode_start form) entry

-- those, where there is an entry
abbrev pub found_notes : PrefixForm → Option Entry → List NoteAt
found_notes form None = []
found_notes form (Some entry) = opcode_notes form entry

-- the notes on the bytes after a prefix with these fields
abbrev pub notes_on_opcode : PrefixForm → Fields → List ℕ → List NoteAt
notes_on_opcode form f [] = []
notes_on_opcode form f (byte ∷ rest) = found_notes form (entry_of (key_of f byte))

-- the notes on the bytes after C5
abbrev pub notes_on_two : List ℕ → List NoteAt
notes_on_two [] = []
notes_on_two (p ∷ rest) = two_byte_notes p ++ notes_on_opcode C5 (fields_of_two p) rest

-- the notes on the bytes after the three-byte prefix, but for the first ones
abbrev pub notes_by_map : Option Map → ℕ → ℕ → List ℕ → List NoteAt
notes_by_map None p q rest = []
notes_by_map (Some map) p q rest = three_byte_notes p q ++ notes_on_opcode C4 (fields_of_three map p q) rest

-- the notes on the bytes after C4
abbrev pub notes_on_three : List ℕ → List NoteAt
notes_on_three [] = []
notes_on_three (p ∷ []) = []
notes_on_three (p ∷ q ∷ rest) = map_notes p q ++ notes_by_map (map_of (p % 32)) p q rest

-- the notes on the bytes that a decode has taken
abbrev pub notes : List ℕ → List NoteAt
notes [] = []
notes (first ∷ rest) = if first == 0xC5 then notes_on_two rest else if first == 0xC4 then notes_on_three rest else []
