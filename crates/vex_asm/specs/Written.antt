-- How a text is written, one piece after another: private functions and proofs cite this, and no public contract.
use Rattle.std.specs.Prelude.{ℕ, List, [], ◌∷◌, ◌++◌, codes}
use Rattle.x86_operand.specs.Meaning.{OperandMeaning}
use Rattle.vex_asm.specs.Text.{operand_text}

-- the operands, a space before each
abbrev pub operands_text : List OperandMeaning → List ℕ
operands_text [] = []
operands_text (operand ∷ operands) = codes " " ++ operand_text operand ++ operands_text operands
