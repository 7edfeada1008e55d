-- The instruction has the meaning that the row gives.
use Rattle.std.proofs.Common.{◌∙◌, arith}
use Rattle.vex_forms.specs.Layout.{chosen}
use Rattle.vex_forms.proofs.Adding.{first_of_four}
use Rattle.vex_forms.proofs.MeaningGiven.{meaning_given}
use Rattle.vex_forms.proofs.choice.Choice.write_instruction.Goals as goal

pub returns-clause-meaning : goal.returns-clause-meaning
returns-clause-meaning c =
    let found = c.shape_and_index_bank-index_bank in
    meaning_given (chosen c.args.self.now) _ _ _ _ _ _ _ _ _ _ c.opcode.ensures
    (first_of_four found.result.0.now.slot_count c.from.result _ _ _ _ (λ few. omega arith) (λ many. omega arith)
    ∙ found.ensures.slots) found.ensures.index c.memory_size.ensures c.write_parts.ensures.meaning
