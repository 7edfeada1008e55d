use Rattle.vex_asm.proofs.Names.{name_utf8}
use Rattle.vex_asm.proofs.reader.opcode.Goals as goal

pub returns-in-Err-clause-only : goal.returns-in-Err-clause-only
returns-in-Err-clause-only c = λ opcode e. absurd (c.in-Err.ensures.cases.0 (name_utf8 opcode _ e))
