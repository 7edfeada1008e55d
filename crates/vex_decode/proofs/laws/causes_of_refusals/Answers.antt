use Rattle.vex_decode.proofs.Refusing.{outside_exactly, settings_last, settings_alone}
use Rattle.vex_decode.proofs.laws.causes_of_refusals.Goals as goal

pub returns-clause-outside : goal.returns-clause-outside
returns-clause-outside c = outside_exactly

pub returns-clause-last : goal.returns-clause-last
returns-clause-last c = settings_last

pub returns-clause-settings : goal.returns-clause-settings
returns-clause-settings c = settings_alone
