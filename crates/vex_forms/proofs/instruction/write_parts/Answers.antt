-- One more operand.
use Rattle.std.proofs.Common.{rules, ◌∙◌}
use Rattle.vex_forms.proofs.Adding.{meaning_more}
use Rattle.vex_forms.proofs.Fit.{slot_fits_at}
use Rattle.vex_forms.proofs.instruction.write_parts.Goals as goal

pub loop-slot-preserved : goal.loop-slot-preserved
loop-slot-preserved c = (
  c.add_operand.ensures.length ∙ c.loop-slot.invariant.0,
  λ fit index. meaning_more _ c.args.slots.now c.loop-slot.slot-index _ _ _ _ _
      (c.add_operand.ensures.added (slot_fits_at c.args.slots.now c.loop-slot.slot-index _ fit c.loop-slot-test.true)
      index)
      c.requires c.loop-slot-test.true (search rules) (c.loop-slot.invariant.1 fit index),
)
