-- How an instruction keeps its operands.
pub mod Lemmas
use Rattle.std.specs.Prelude.{ℕ, zero, pos, ℤ, List, [], ◌∷◌, Option, Some, None, slice_index_or}
use Rattle.x86_operand.specs.declared.address.Address.{Address}
use Rattle.x86_operand.specs.declared.address.Index.{Index}
use Rattle.x86_operand.specs.declared.address.Operand.{Operand}
use Rattle.x86_operand.specs.declared.address.Operand.TheVariants as written
use Rattle.x86_operand.specs.Register.{Register}
use Rattle.x86_operand.specs.Meaning.{OperandMeaning, register, signed, unsigned, memory, nothing}

-- an address of these parts: `MemDeref` exactly where there is a base, no index and displacement 0
abbrev pub kept_address : Option Register → Option Index → ℤ → Operand
kept_address (Some base) None (pos zero) = written.MemDeref base
kept_address base index disp = written.Memory (record { base = base; index = index; disp = disp })

-- the form in which an instruction keeps what an operand means
abbrev pub kept_operand : OperandMeaning → Operand
kept_operand (register reg) = written.Register reg
kept_operand (signed imm) = written.ImmediateI8 imm
kept_operand (unsigned imm) = written.ImmediateU8 imm
kept_operand (memory address) = kept_address address.base address.index address.disp
kept_operand nothing = written.Nothing

-- what stands at a place of a list of operands, and `nothing` from its end on
abbrev pub operand_at : List OperandMeaning → ℕ → OperandMeaning
operand_at operands i = slice_index_or operands i nothing

-- the four places of an instruction that hold these operands, with `Nothing` from their end on
unfoldable pub four_places : List OperandMeaning → List Operand
four_places operands =
    kept_operand (operand_at operands 0)
    ∷ kept_operand (operand_at operands 1)
    ∷ kept_operand (operand_at operands 2)
    ∷ kept_operand (operand_at operands 3)
    ∷ []
