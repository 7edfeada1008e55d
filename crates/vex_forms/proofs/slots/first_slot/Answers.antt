-- The first slot is the first of those that the shape has.
use Rattle.std.proofs.Common.{ap, ◌∙◌}
use Rattle.vex_forms.specs.Slots.{first_of}
use Rattle.vex_forms.proofs.Shaping.{none_first, some_first}
use Rattle.vex_forms.proofs.slots.first_slot.Goals as goal

pub returns-then-shape-eq0 : goal.returns-then-shape-eq0
returns-then-shape-eq0 c = λ group. none_first c.shape_and_index_bank.result.0.now c.if-shape-eq0.true
    ∙ ap first_of (c.shape_and_index_bank.ensures.slots group)

pub returns : goal.returns
returns c = λ group. some_first c.shape_and_index_bank.result.0.now c.if-shape-eq0.false
    ∙ ap first_of (c.shape_and_index_bank.ensures.slots group)
