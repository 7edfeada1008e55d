-- The slots are those of the form's shape at the W or L with the banks that the opcode says.
use Rattle.std.proofs.Common.{ap, refl, sym, ◌∙◌}
use Rattle.vex_forms.specs.Shapes.{slots_seen}
use Rattle.vex_forms.proofs.Shaping.{fixed_shaped, element_shaped, gather_shaped, gather_index_shaped}
use Rattle.vex_forms.proofs.Shaping.{plain_index_shaped}
use Rattle.vex_forms.proofs.slots.shape_and_index_bank.Goals as goal

pub returns-in-Fixed-clause-slots : goal.returns-in-Fixed-clause-slots
returns-in-Fixed-clause-slots c = λ group.
    ap slots_seen c.shape_at-shape.ensures
    ∙ fixed_shaped c.args.entry.now c.args.w c.args.l c.args.memory group
    (sym (ap (λ shape. shape.banks) c.shape_at-shape.ensures) ∙ c.in-Fixed.is)

pub returns-in-Fixed-clause-index : goal.returns-in-Fixed-clause-index
returns-in-Fixed-clause-index c = λ group.
    sym (plain_index_shaped c.args.entry.now c.args.w c.args.l c.args.memory group _
    (sym (ap (λ shape. shape.banks) c.shape_at-shape.ensures) ∙ c.in-Fixed.is) refl)

pub returns-in-Element-clause-slots : goal.returns-in-Element-clause-slots
returns-in-Element-clause-slots c = λ group.
    ap slots_seen c.shape_at.ensures
    ∙ element_shaped c.args.entry.now c.args.w c.args.l c.args.memory group c.is_quadword-w.result
    (sym (ap (λ shape. shape.banks) c.shape_at-shape.ensures) ∙ c.in-Element.is) c.is_quadword-w.ensures

pub returns-in-Element-clause-index : goal.returns-in-Element-clause-index
returns-in-Element-clause-index c = λ group.
    sym (plain_index_shaped c.args.entry.now c.args.w c.args.l c.args.memory group _
    (sym (ap (λ shape. shape.banks) c.shape_at-shape.ensures) ∙ c.in-Element.is) refl)

pub returns-in-Gather-clause-slots : goal.returns-in-Gather-clause-slots
returns-in-Gather-clause-slots c = λ group.
    ap slots_seen c.shape_at-in-Gather.ensures
    ∙ gather_shaped c.args.entry.now c.args.w c.args.l c.args.memory group c.gather_banks-l.result.0
    (sym (ap (λ shape. shape.banks) c.shape_at-shape.ensures) ∙ c.in-Gather.is) c.gather_banks-l.ensures.operands

pub returns-in-Gather-clause-index : goal.returns-in-Gather-clause-index
returns-in-Gather-clause-index c = λ group.
    c.gather_banks-l.ensures.index
    ∙ sym (gather_index_shaped c.args.entry.now c.args.w c.args.l c.args.memory group
    (sym (ap (λ shape. shape.banks) c.shape_at-shape.ensures) ∙ c.in-Gather.is))
