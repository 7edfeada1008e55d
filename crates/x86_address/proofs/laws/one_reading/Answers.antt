use Rattle.x86_address.proofs.Spelling.{one_place, one_reading}
use Rattle.x86_address.proofs.laws.one_reading.Goals as goal

pub returns-clause-place : goal.returns-clause-place
returns-clause-place c = one_place

pub returns-clause-target : goal.returns-clause-target
returns-clause-target c = one_reading
