-- What a decoder notes of the fields that it reads.
use Rattle.std.specs.Prelude.{ℕ, List, codes}
use Rattle.x86_operand.specs.declared.note.Note.{Note}
use Rattle.x86_operand.specs.declared.note.Note.TheVariants as note
use Rattle.x86_operand.specs.declared.note.InnerDescription.TheVariants.{Boundary}
use Rattle.x86_operand.specs.declared.note.FieldDescription.{FieldDescription}

-- the text of a note, as `text` answers
abbrev pub note_text : Note → List ℕ
note_text note.P0 = codes "vex.p indicates no opcode prefix"
note_text note.P1 = codes "vex.p indicates opcode prefix 66"
note_text note.P2 = codes "vex.p indicates opcode prefix f3"
note_text note.P3 = codes "vex.p indicates opcode prefix f2"
note_text note.M1 = codes "vex.mmmmm indicates opcode escape of 0f"
note_text note.M2 = codes "vex.mmmmm indicates opcode escape of 0f38"
note_text note.M3 = codes "vex.mmmmm indicates opcode escape of 0f3a"
note_text note.MOther = codes "vex.mmmmm indicates illegal opcode escape and is invalid"
note_text note.R0 = codes "vex.r extends extends rrr by 0b1000"
note_text note.R1 = codes "vex.r does not alter rrr"
note_text note.X0 = codes "vex.x extends extends index reg (if used) by 0b1000"
note_text note.X1 = codes "vex.x does not alter index reg"
note_text note.B0 = codes "vex.b extends extends base reg (if used) by 0b1000"
note_text note.B1 = codes "vex.b does not alter base reg"
note_text note.L0 = codes "vex.l selects 128-bit vector sizes"
note_text note.L1 = codes "vex.l selects 256-bit vector sizes"
note_text note.W1 = codes "vex.w selects 64-bit operand size"
note_text note.W0 = codes "vex.w leaves default operand size"
note_text note.PrefixEnd = codes "vex prefix ends/opcode begins"
note_text note.OpcodeEnd = codes "vex opcode ends/operands begin"

-- the description that stands where none was given: the first note as a boundary, with the number 0
abbrev pub default_description : FieldDescription
default_description = record { desc = Boundary note.P0; id = 0 }
