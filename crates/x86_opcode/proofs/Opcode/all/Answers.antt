use Rattle.x86_opcode.specs.Number.Listed.{listed}
use Rattle.x86_opcode.specs.Number.Lemmas.{place_is_number}
use Rattle.x86_opcode.proofs.Opcode.all.Goals as goal

pub returns-clause-each : goal.returns-clause-each
returns-clause-each c = listed

pub returns-clause-once : goal.returns-clause-once
returns-clause-once c = place_is_number
