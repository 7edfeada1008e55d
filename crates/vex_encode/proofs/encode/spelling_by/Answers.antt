-- What is written are the bytes of the parts that are put together.
use Rattle.std.proofs.Common.{refl, ◌∙◌}
use Rattle.vex_forms.specs.Layout.{chosen}
use Rattle.vex_encode.proofs.Written.{written}
use Rattle.vex_encode.proofs.encode.spelling_by.Goals as goal

pub returns : goal.returns
returns c = λ is.
    let m = c.args.instruction.now.meaning in
    c.spell.ensures
    ∙ written c.args.choice.now m c.operand_fields-numbers.result c.place_of-place.result
    (c.operand_fields-numbers.ensures.numbers (chosen c.args.choice.now) m c.requires.kind refl
    c.operand-e.ensures.meaning is)
    c.place_of-place.ensures.bytes c.place_of-place.ensures.x c.place_of-place.ensures.b c.has_imm.result
    c.has_imm.ensures
