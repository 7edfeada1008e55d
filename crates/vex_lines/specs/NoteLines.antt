-- The lines of the notes on some bytes.
use Rattle.std.specs.Prelude.{ℕ, Bool, List, ◌++◌, codes, decimal, take, flat_map, Option, Some, None, Result, Ok, Err}
use Rattle.x86_opcode.specs.Name.{opcode_name}
use Rattle.x86_operand.specs.declared.error.DecodeError.{DecodeError}
use Rattle.x86_operand.specs.Meaning.{Decoded}
use Rattle.x86_operand.specs.declared.note.InnerDescription.{InnerDescription}
use Rattle.x86_operand.specs.declared.note.InnerDescription.TheVariants.{Misc, RegisterNumber, Opcode, Boundary}
use Rattle.x86_operand.specs.Note.{note_text}
use Rattle.vex_decode.specs.Blocked.{blocked}
use Rattle.vex_decode.specs.Decode.{decode}
use Rattle.vex_decode.specs.Notes.{NoteAt, notes}
use Rattle.vex_asm.specs.Text.{register_text}
use Rattle.vex_lines.specs.ResultLine.{result_line}

-- what stands in a field: the text of its note, the number of the field vvvv with the register of that number, or the
-- opcode's name
abbrev pub description_text : InnerDescription → List ℕ
description_text (Misc note) = note_text note
description_text (RegisterNumber number reg) = codes "vvvv " ++ decimal number ++ codes " " ++ register_text reg
description_text (Opcode opcode) = codes "opcode " ++ opcode_name opcode
description_text (Boundary note) = note_text note

-- the line of a note: its first bit, its last bit, its number and what stands there
abbrev pub note_line : NoteAt → List ℕ
note_line note =
    codes "note " ++ decimal note.0 ++ codes " " ++ decimal note.1 ++ codes " " ++ decimal note.2.id ++ codes " "
    ++ description_text note.2.desc ++ codes "\n"

-- how many bytes a decode takes: those after which an error blocks them, or else those of the instruction
abbrev pub number_taken : Option (DecodeError × ℕ) → Result Decoded DecodeError → ℕ
number_taken (Some error) first = error.1
number_taken None (Ok decoded) = decoded.len
number_taken None (Err error) = 0

-- the bytes that a decode of some bytes takes under settings
unfoldable pub bytes_taken : List Bool → List ℕ → List ℕ
bytes_taken settings bytes = take (number_taken (blocked settings bytes) (decode settings bytes)) bytes

-- a line for each note on the bytes that a decode takes, and then the result line
abbrev pub note_lines : List Bool → List ℕ → List ℕ
note_lines settings bytes = flat_map note_line (notes (bytes_taken settings bytes)) ++ result_line settings bytes
