-- The search goes on past a slot of another kind, and ends at the first of the kind or past the last slot.
use Rattle.std.proofs.Common.{sym, ◌∙◌}
use Rattle.vex_list.proofs.FirstSlot.{later_at}
use Rattle.vex_list.proofs.operands.operand_of.Goals as goal

pub loop-i-preserved : goal.loop-i-preserved
loop-i-preserved c = c.loop-i.invariant ∙ later_at _ c.args.slots.now _ c.loop-i.i _ c.loop-i-test.true
    (sym c.if-names.ensures)
