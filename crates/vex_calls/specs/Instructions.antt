-- Instructions as callers from other languages see them.
use Rattle.std.specs.Prelude.{ℕ, Bool, true, false, List, [], ◌∷◌, Option, Some, None, ◌==◌, ◌&&◌, nat_le, length, map}
use Rattle.std.specs.Prelude.{if◌then◌else◌, take, unwrap_or, slice_get}
use Rattle.x86_opcode.specs.declared.Opcode.{Opcode}
use Rattle.x86_opcode.specs.declared.Opcode.TheVariants.{Invalid, BSF}
use Rattle.x86_opcode.specs.Constants.{constants}
use Rattle.x86_opcode.specs.Number.{opcode_number}
use Rattle.x86_operand.specs.Instruction.{operand_at}
use Rattle.x86_operand.specs.Meaning.{OperandMeaning, Meaning, Decoded}
use Rattle.vex_calls.specs.declared.flat_operand.FlatOperand.{FlatOperand}
use Rattle.vex_calls.specs.declared.flat_instruction.FlatInstruction.{FlatInstruction}
use Rattle.vex_calls.specs.Operands.{flat_operand, operands_of}

-- the four places of an instruction with these operands, each flat: past the last, places of 0
unfoldable pub four_flat : List OperandMeaning → List FlatOperand
four_flat operands =
    flat_operand (operand_at operands 0)
    ∷ flat_operand (operand_at operands 1)
    ∷ flat_operand (operand_at operands 2)
    ∷ flat_operand (operand_at operands 3)
    ∷ []

-- the EVEX mark as a number
abbrev pub mark_number : Bool → ℕ
mark_number true = 1
mark_number false = 0

-- an instruction, flat: the number of its opcode, the mark, how many operands there are, the size of the memory operand,
-- 0 for none, and the length
abbrev pub flat_instruction : Decoded → FlatInstruction
flat_instruction decoded = record {
  opcode = opcode_number decoded.meaning.opcode;
  mark = mark_number decoded.meaning.evex;
  operand_count = length decoded.meaning.operands;
  size = unwrap_or decoded.meaning.size 0;
  length = decoded.len;
  reserved = 0;
  operands = four_flat decoded.meaning.operands;
}

-- all opcodes in the order of their numbers
unfoldable pub all_opcodes : List Opcode
all_opcodes = Invalid ∷ BSF ∷ map (λ constant. constant.0) constants

-- the opcode of a number, none from 551 on
unfoldable pub opcode_of : ℕ → Option Opcode
opcode_of number = slice_get all_opcodes number

-- a size of 0 stands for none
abbrev pub size_of : ℕ → Option ℕ
size_of n = if n == 0 then None else Some n

-- every mark but 0 is one
abbrev pub is_marked : ℕ → Bool
is_marked n = if n == 0 then false else true

-- the meaning of these parts, where opcode and operands are there
abbrev pub meaning_with : Bool → Option Opcode → Option (List OperandMeaning) → Option ℕ → Option Meaning
meaning_with evex (Some opcode) (Some operands) size =
    Some (record { evex = evex; opcode = opcode; operands = operands; size = size })
meaning_with evex _ _ size = None

-- the meaning of a flat instruction: none where it has more than four operands or a size above 64, or an opcode or an
-- operand isn't one; its length, and the operands past their count, play no part
unfoldable pub meaning_of : FlatInstruction → Option Meaning
meaning_of flat =
    if nat_le flat.operand_count 4 && nat_le flat.size 64
    then meaning_with (is_marked flat.mark) (opcode_of flat.opcode)
    (operands_of (take flat.operand_count flat.operands)) (size_of flat.size)
    else None
