-- When a row can give a meaning: what each slot asks of its operand.
use Rattle.std.specs.Prelude.{◌≡◌, ◌⊎◌, ◌≤◌, FitsSigned, Bool, true, false, List, [], ◌∷◌, Option, Some, None}
use Rattle.std.specs.Prelude.{if◌then◌else◌}
use Rattle.std.specs.Int.{w8, w32}
use Rattle.x86_operand.specs.declared.register.RegisterBank.{RegisterBank}
use Rattle.x86_operand.specs.declared.register.RegisterBank.TheVariants.{Q, RIP}
use Rattle.x86_operand.specs.declared.address.Address.{Address}
use Rattle.x86_operand.specs.declared.address.Index.{Index}
use Rattle.x86_operand.specs.Register.{Register}
use Rattle.x86_operand.specs.Kind.{Kind, InRegister, InMemory, VectorIndexed}
use Rattle.x86_operand.specs.Meaning.{OperandMeaning, register, signed, unsigned, memory, Meaning}
use Rattle.x86_address.specs.Shortest.{MayBeIndex}
use Rattle.x86_address.specs.Spells.{IsScale}
use Rattle.vex_rows.specs.Row.{Row, mark_of, opcode_of}
use Rattle.vex_forms.specs.declared.slot.Slot.{Slot}
use Rattle.vex_forms.specs.declared.slot.Slot.TheVariants.{G, V, E, U8, I8, R4}
use Rattle.vex_forms.specs.Slots.{slots, index_bank, size_of}

-- a register is of this bank, and has a number of at most 15
pub record RegisterFits (wanted : RegisterBank) (reg : Register) : Type 0 where
  pub bank : reg.bank ≡ wanted
  pub num : reg.num ≤ 15

-- the instruction pointer
abbrev pub instruction_pointer : Register
instruction_pointer = record { bank = RIP; num = 0 }

-- there is no base, or one of bank Q, or it is the instruction pointer, and then there is no index
abbrev pub SlotBaseFits : Option Register → Option Index → Type 0
SlotBaseFits None index = Unit {0}
SlotBaseFits (Some base) index = RegisterFits Q base ⊎ ((base ≡ instruction_pointer) × (index ≡ None))

-- there is no index, but where a vector register has to be; or there is one of this bank, whose number is 4 only of a
-- vector register, with a scale of 1, 2, 4 or 8
abbrev pub SlotIndexFits : Bool → RegisterBank → Option Index → Type 0
SlotIndexFits vector bank None = vector ≡ false
SlotIndexFits vector bank (Some index) =
    RegisterFits bank index.reg × MayBeIndex vector index.reg.num × IsScale index.scale

-- base and index fit, and the displacement has 32 bits: where the index is a vector register it is there, so that the
-- base isn't the instruction pointer
pub record AddressFits (vector : Bool) (index_bank : RegisterBank) (address : Address) : Type 0 where
  pub base : SlotBaseFits address.base address.index
  pub index : SlotIndexFits vector index_bank address.index
  pub disp : FitsSigned w32 address.disp

-- an operand fits the slot E: a register in a register row, an address in a memory row
abbrev pub PlacedFits : Kind → RegisterBank → RegisterBank → OperandMeaning → Type 0
PlacedFits InRegister index_bank bank (register reg) = RegisterFits bank reg
PlacedFits InMemory index_bank bank (memory address) = AddressFits false index_bank address
PlacedFits VectorIndexed index_bank bank (memory address) = AddressFits true index_bank address
PlacedFits _ index_bank bank _ = ⊥

-- an operand fits a slot of a row of this kind and this index bank: a register of the slot's bank, an address, or an
-- immediate of the slot's own kind, which is 0 to 255 or -128 to 127
abbrev pub OperandFits : Kind → RegisterBank → Slot → OperandMeaning → Type 0
OperandFits kind index_bank (G bank) (register reg) = RegisterFits bank reg
OperandFits kind index_bank (V bank) (register reg) = RegisterFits bank reg
OperandFits kind index_bank (R4 bank) (register reg) = RegisterFits bank reg
OperandFits kind index_bank U8 (unsigned imm) = imm ≤ 255
OperandFits kind index_bank I8 (signed imm) = FitsSigned w8 imm
OperandFits kind index_bank (E bank) operand = PlacedFits kind index_bank bank operand
OperandFits kind index_bank _ _ = ⊥

-- there are as many operands as slots, and each fits its slot
abbrev pub OperandsFit : Kind → RegisterBank → List Slot → List OperandMeaning → Type 0
OperandsFit kind index_bank [] [] = Unit {0}
OperandsFit kind index_bank (slot ∷ slots) (operand ∷ operands) =
    OperandFits kind index_bank slot operand × OperandsFit kind index_bank slots operands
OperandsFit kind index_bank _ _ = ⊥

-- the row can give the meaning: the meaning has the row's mark, opcode and size, and its operands fit the row's slots
pub record CanGive (row : Row) (m : Meaning) : Type 0 where
  pub mark : m.evex ≡ mark_of row
  pub opcode : m.opcode ≡ opcode_of row
  pub size : m.size ≡ size_of row
  pub operands : OperandsFit row.kind (index_bank row) (slots row) m.operands

-- the bank of the first operand, where that is a register
abbrev pub first_bank : List OperandMeaning → Option RegisterBank
first_bank (register reg ∷ operands) = Some reg.bank
first_bank _ = None

-- an operand can stand at the first slot of a row, with its operand E in memory or not, as far as its bank tells
abbrev pub MayBegin : Option Slot → Bool → Option RegisterBank → Type 0
MayBegin (Some (G bank)) in_memory first = first ≡ Some bank
MayBegin (Some (V bank)) in_memory first = first ≡ Some bank
MayBegin (Some (E bank)) in_memory first = first ≡ (if in_memory then None else Some bank)
MayBegin _ in_memory first = Unit {0}
