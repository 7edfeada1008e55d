-- The operands from here on fit, and ask for what is kept.
use Rattle.std.proofs.Common.{◌≡◌, ◌≤◌, drop, length}
use Rattle.vex_encode.specs.Assembly.{IsAsked}
use Rattle.vex_encode.specs.Conditions.{OperandsFit}
use Rattle.vex_forms.specs.Reads.{kind_seen}
use Rattle.vex_encode.proofs.operand_walk.operands_asked.Given as goal

abbrev pub invariant-loop-i : goal.invariant-loop-i
invariant-loop-i l =
    (l.i ≤ length l.slots) × (length l.instruction.meaning.operands ≡ length l.slots)
    × OperandsFit (kind_seen l.kind) l.index_bank (drop l.i l.slots) (drop l.i l.instruction.meaning.operands)
    × IsAsked l.instruction.meaning.operands (drop l.i l.slots) (drop l.i l.instruction.meaning.operands) l.asked

abbrev pub decreases-loop-i : goal.decreases-loop-i
decreases-loop-i l = l.i
