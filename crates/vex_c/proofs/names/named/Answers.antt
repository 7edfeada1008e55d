use Rattle.vex_c.proofs.Named.{opcode_text}
use Rattle.vex_c.proofs.names.named.Goals as goal

pub returns-in-Err-clause-only : goal.returns-in-Err-clause-only
returns-in-Err-clause-only c = λ opcode e. absurd (c.in-Err.ensures.cases.0 (opcode_text opcode _ e))
