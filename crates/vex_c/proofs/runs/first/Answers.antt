use Rattle.std.proofs.Common.{sym}
use Rattle.vex_c.proofs.runs.first.Goals as goal

pub returns-in-Ok-clause-first : goal.returns-in-Ok-clause-first
returns-in-Ok-clause-first c = sym c.in-Ok.ensures.answer

pub returns-in-Err-clause-blocked : goal.returns-in-Err-clause-blocked
returns-in-Err-clause-blocked c = sym c.in-Err.ensures.answer
