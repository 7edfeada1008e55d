use Rattle.std.proofs.Common.{ap, option_map, sym}
use Rattle.x86_operand.specs.Meaning.{operand_meaning}
use Rattle.vex_calls.proofs.Reading.{meaning_of-none}
use Rattle.vex_calls.proofs.flat_instruction.FlatInstruction.instruction.Goals as goal

pub returns-in-None : goal.returns-in-None
returns-in-None c =
    sym (meaning_of-none _ _ _ _ _ c.from-count.ensures c.loop-flat-test.true c.operand.ensures
    (ap (option_map operand_meaning) c.in-None.is))
