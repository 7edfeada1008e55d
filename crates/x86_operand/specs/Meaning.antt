use Rattle.std.specs.Prelude.{Bool, ℕ, ℤ, pos, List, Option, Some, None}
use Rattle.x86_opcode.specs.declared.Opcode.{Opcode}
use Rattle.x86_operand.specs.Register.{Register}
use Rattle.x86_operand.specs.declared.address.Address.{Address}
use Rattle.x86_operand.specs.declared.address.Operand.{Operand}
use Rattle.x86_operand.specs.declared.address.Operand.TheVariants as written

-- what one operand means: an address is compared part by part, however it was written
pub data OperandMeaning : Type 0 where
  register : Register → OperandMeaning
  signed : ℤ → OperandMeaning
  unsigned : ℕ → OperandMeaning
  memory : Address → OperandMeaning
  nothing : OperandMeaning

-- the address with this base, no index and displacement 0
abbrev pub deref : Register → Address
deref base = record { base = Some base; index = None; disp = pos 0 }

-- what an operand of the code means
abbrev pub operand_meaning : Operand → OperandMeaning
operand_meaning (written.Register reg) = register reg
operand_meaning (written.ImmediateI8 imm) = signed imm
operand_meaning (written.ImmediateU8 imm) = unsigned imm
operand_meaning (written.MemDeref base) = memory (deref base)
operand_meaning (written.Memory address) = memory address
operand_meaning written.Nothing = nothing

-- what an instruction means: its EVEX mark, its opcode, its operands and the size of its memory operand
pub record Meaning : Type 0 where
  pub evex : Bool
  pub opcode : Opcode
  pub operands : List OperandMeaning
  pub size : Option ℕ

-- a meaning, and the number of bytes that spelled it
pub record Decoded : Type 0 where
  pub meaning : Meaning
  pub len : ℕ

-- the address that a memory operand means
abbrev pub address_of : OperandMeaning → Option Address
address_of (memory address) = Some address
address_of _ = None

-- the number of a register, 0 of all else
abbrev pub number_of : OperandMeaning → ℕ
number_of (register reg) = reg.num
number_of (signed imm) = 0
number_of (unsigned imm) = 0
number_of (memory address) = 0
number_of nothing = 0
