use Rattle.x86_address.specs.Follows.Lemmas.{follows_answered}
use Rattle.vex_forms.proofs.Instructing.{is_instruction}
use Rattle.vex_forms.proofs.reading.read_form_into.Goals as goal

pub returns-clause-follows : goal.returns-clause-follows
returns-clause-follows g c =
    follows_answered c.in_ok-fields.ensures
    (is_instruction c.args.entry.now c.args.prefix.now c.in_ok-fields.fields c.in_ok-fields.ensures
    c.is_memory.ensures c.of-choice.ensures.row c.write_instruction.ensures.meaning
    c.write_instruction.ensures.length)
