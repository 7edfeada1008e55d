-- The instruction has the meaning that the row gives.
use Rattle.std.proofs.Common.{◌∙◌}
use Rattle.vex_forms.proofs.MeaningGiven.{meaning_given}
use Rattle.vex_forms.proofs.instruction.instruction_of.Goals as goal

pub returns-clause-meaning : goal.returns-clause-meaning
returns-clause-meaning c = λ row is. meaning_given row _ _ _ _ _ _ _ _ _ _ is.opcode
    (c.as_slice.ensures.value ∙ is.slots) is.index_bank is.mem_size c.write_parts.ensures.meaning
