-- What is written of a decode's answer is the result line.
use Rattle.std.proofs.Common.{take}
use Rattle.vex_lines.proofs.ResultLineLemmas.{line-decoded}
use Rattle.vex_lines.proofs.result_line.write_result_line.Goals as goal

pub write_instruction-requires : goal.write_instruction-requires
write_instruction-requires g c = (take c.in-Ok.instruction.len c.args.bytes.now, c.in-Ok.ensures.spelled)

pub returns-in-Ok : goal.returns-in-Ok
returns-in-Ok g c = rw (line-decoded _ _ _ c.in-Ok.ensures.answer) c.write_instruction.ensures

pub returns-in-Err : goal.returns-in-Err
returns-in-Err g c = rw (line-decoded _ _ _ c.in-Err.ensures.answer) c.write_refused.ensures
