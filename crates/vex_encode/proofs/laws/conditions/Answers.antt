use Rattle.vex_encode.proofs.CanonLaws.{standard_is_none}
use Rattle.vex_encode.proofs.Conditions.{standard_is_some}
use Rattle.vex_encode.proofs.laws.conditions.Goals as goal

pub returns-clause-there : goal.returns-clause-there
returns-clause-there c = standard_is_some

pub returns-clause-none : goal.returns-clause-none
returns-clause-none c = standard_is_none
