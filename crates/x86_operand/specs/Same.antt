-- Tests of equality: each is true exactly where its two values are one.
pub mod Lemmas
use Rattle.std.specs.Prelude.{Bool, true, false, ◌&&◌, ◌==◌, nat_eq, List}
use Rattle.std.specs.Bool.{beq}
use Rattle.std.specs.Option.{option_eq}
use Rattle.std.specs.Ordering.{int_eq}
use Rattle.std.specs.Cmp.Lexicographic.{pointwise}
use Rattle.x86_operand.specs.declared.register.RegisterBank.{RegisterBank}
use Rattle.x86_operand.specs.declared.register.RegisterBank.TheVariants.{Q, D, X, Y, Z, RIP}
use Rattle.x86_operand.specs.declared.address.Address.{Address}
use Rattle.x86_operand.specs.declared.address.Index.{Index}
use Rattle.x86_opcode.specs.Number.{same_opcode}
use Rattle.x86_operand.specs.Register.{Register}
use Rattle.x86_operand.specs.Meaning.{OperandMeaning, register, signed, unsigned, memory, nothing, Meaning, Decoded}

-- whether two banks are one
unfoldable pub same_bank : RegisterBank → RegisterBank → Bool
same_bank Q Q = true
same_bank D D = true
same_bank X X = true
same_bank Y Y = true
same_bank Z Z = true
same_bank RIP RIP = true
same_bank _ _ = false

-- whether two registers are one: the same number in the same bank
unfoldable pub same_register : Register → Register → Bool
same_register a b = same_bank a.bank b.bank && (a.num == b.num)

-- whether two indices are one: the same register with the same scale
unfoldable pub same_index : Index → Index → Bool
same_index a b = same_register a.reg b.reg && (a.scale == b.scale)

-- whether two addresses are one, part by part
unfoldable pub same_address : Address → Address → Bool
same_address a b =
    option_eq same_register a.base b.base && option_eq same_index a.index b.index && int_eq a.disp b.disp

-- whether two operands mean the same
unfoldable pub same_operand : OperandMeaning → OperandMeaning → Bool
same_operand (register a) (register b) = same_register a b
same_operand (signed a) (signed b) = int_eq a b
same_operand (unsigned a) (unsigned b) = a == b
same_operand (memory a) (memory b) = same_address a b
same_operand nothing nothing = true
same_operand _ _ = false

-- whether two lists of operands are as long, and mean the same one by one
unfoldable pub same_operands : List OperandMeaning → List OperandMeaning → Bool
same_operands xs ys = pointwise same_operand xs ys

-- whether two meanings are one: the same mark, opcode, operands and size
unfoldable pub same_meaning : Meaning → Meaning → Bool
same_meaning a b =
    beq a.evex b.evex && same_opcode a.opcode b.opcode && same_operands a.operands b.operands && option_eq nat_eq
    a.size b.size

-- whether two instructions are one: the same meaning and the same length
unfoldable pub same_decoded : Decoded → Decoded → Bool
same_decoded a b = same_meaning a.meaning b.meaning && (a.len == b.len)
