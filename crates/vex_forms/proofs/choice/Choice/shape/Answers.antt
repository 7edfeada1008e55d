-- The shape is that of the row.
use Rattle.std.specs.Prelude.{◌≡◌}
use Rattle.std.proofs.Common.{ap, subst, sym, ◌∙◌}
use Rattle.vex_forms.specs.Layout.{chosen}
use Rattle.vex_forms.specs.Shapes.{size_in, slots_in}
use Rattle.vex_forms.specs.Slots.{size_of, slots}
use Rattle.vex_forms.proofs.Shaping.{slots_shaped, vvvv_shaped, size_shaped}
use Rattle.vex_forms.proofs.choice.Choice.shape.Goals as goal

pub returns : goal.returns
returns c =
    let choice = c.args.self.now in
    let is = sym c.shape_at.ensures in
    record {
      is = c.shape_at.ensures;
      slots = subst (λ shape. slots_in shape (chosen choice).l choice.entry.opcode ≡ slots (chosen choice)) is
          (slots_shaped choice.entry choice.w choice.l choice.memory choice.group);
      vvvv = ap (λ shape. shape.vvvv) c.shape_at.ensures
          ∙ vvvv_shaped choice.entry choice.w choice.l choice.memory choice.group;
      size = subst (λ shape. size_in shape.size (chosen choice) ≡ size_of (chosen choice)) is
          (size_shaped choice.entry choice.w choice.l choice.memory choice.group);
    }
