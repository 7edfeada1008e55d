use Rattle.std.specs.Prelude.{ℕ, ◌+◌, ◌*◌, ◌/◌, map}
use Rattle.std.specs.Int.{cast_signed, w8}
use Rattle.x86_operand.specs.declared.register.RegisterBank.{RegisterBank}
use Rattle.x86_operand.specs.Meaning.{OperandMeaning, register, signed, unsigned, memory, nothing, Meaning}
use Rattle.x86_address.specs.Place.{Target, NoTarget, Number, At}
use Rattle.x86_address.specs.Shortest.{in_banks}
use Rattle.vex_rows.specs.Row.{Row, mark_of, opcode_of}
use Rattle.vex_forms.specs.declared.slot.Slot.{Slot}
use Rattle.vex_forms.specs.declared.slot.Slot.TheVariants.{G, V, E, U8, I8, R4}
use Rattle.vex_forms.specs.Slots.{slots, index_bank, size_of}

-- the operand of the slot E: a register of its bank, or an address whose index is in the row's index bank
abbrev pub target_operand : RegisterBank → RegisterBank → Target → OperandMeaning
target_operand bank index_bank NoTarget = nothing
target_operand bank index_bank (Number n) = register (record { bank = bank; num = n })
target_operand bank index_bank (At a) = memory (in_banks index_bank a)

-- the operand that a slot names: r and reg give G, v gives V, e gives E, and the immediate byte the rest (Intel SDM
-- volume 2, sections 2.3.5.2, 2.3.5.6, 2.3.8 and 2.3.9)
abbrev pub slot_operand : RegisterBank → ℕ → ℕ → ℕ → Target → ℕ → Slot → OperandMeaning
slot_operand index_bank r v reg e imm (G bank) = register (record { bank = bank; num = reg + 8 * r })
slot_operand index_bank r v reg e imm (V bank) = register (record { bank = bank; num = v })
slot_operand index_bank r v reg e imm (E bank) = target_operand bank index_bank e
slot_operand index_bank r v reg e imm U8 = unsigned imm
slot_operand index_bank r v reg e imm I8 = signed (cast_signed w8 imm)
slot_operand index_bank r v reg e imm (R4 bank) = register (record { bank = bank; num = imm / 16 })

-- what a row means with the prefix fields r and v, the field reg, the target e and the immediate byte
unfoldable pub gives : Row → ℕ → ℕ → ℕ → Target → ℕ → Meaning
gives row r v reg e imm = record {
  evex = mark_of row;
  opcode = opcode_of row;
  operands = map (slot_operand (index_bank row) r v reg e imm) (slots row);
  size = size_of row;
}
