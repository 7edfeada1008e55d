-- No slot so far is of the kind.
use Rattle.std.proofs.Common.{◌≡◌, drop}
use Rattle.vex_list.specs.Choices.{names}
use Rattle.vex_encode.specs.Standard.{operand_of_kind}
use Rattle.vex_list.proofs.operands.operand_of.Given as goal

abbrev pub invariant-loop-i : goal.invariant-loop-i
invariant-loop-i l = operand_of_kind (names l.kind) l.slots l.instruction.meaning.operands
    ≡ operand_of_kind (names l.kind) (drop l.i l.slots) (drop l.i l.instruction.meaning.operands)
