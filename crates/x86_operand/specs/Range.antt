-- Which meanings there are: a text's reader and a lister range over exactly these.
use Rattle.std.specs.Prelude.{ℕ, ◌≤◌, ℤ, pos, negsuc, ◌≤ℤ◌, length, All, IfSome}
use Rattle.x86_operand.specs.declared.address.Address.{Address}
use Rattle.x86_operand.specs.declared.address.Index.{Index}
use Rattle.x86_operand.specs.Meaning.{OperandMeaning, register, signed, unsigned, memory, nothing, Meaning}
use Rattle.x86_operand.specs.Register.{Register, greatest}

-- a register lies in its bank
abbrev pub IsRegister : Register → Type 0
IsRegister r = r.num ≤ greatest r.bank

-- an index is a register that lies in its bank, with a scale of one byte
pub record IsIndex (index : Index) : Type 0 where
  pub reg : IsRegister index.reg
  pub scale : index.scale ≤ 255

-- the registers of an address lie in their banks, and its displacement has 32 bits
pub record IsAddress (address : Address) : Type 0 where
  pub base : IfSome address.base IsRegister
  pub index : IfSome address.index IsIndex
  pub low : negsuc 2147483647 ≤ℤ address.disp
  pub high : address.disp ≤ℤ pos 2147483647

-- what an operand means is in range: immediates have one byte
abbrev pub IsOperand : OperandMeaning → Type 0
IsOperand (register r) = IsRegister r
IsOperand (signed n) = (negsuc 127 ≤ℤ n) × (n ≤ℤ pos 127)
IsOperand (unsigned n) = n ≤ 255
IsOperand (memory address) = IsAddress address
IsOperand nothing = Unit

-- a meaning is in range: at most four operands, each in range, and a size, where it has one, from 1 to 64
pub record IsMeaning (m : Meaning) : Type 0 where
  pub few : length m.operands ≤ 4
  pub operands : All IsOperand m.operands
  pub size : IfSome m.size (λ n. (1 ≤ n) × (n ≤ 64))
