use Rattle.x86_features.proofs.InOrder.{names}
use Rattle.x86_features.proofs.laws.names_are_microarchitectures.Goals as goal

pub returns : goal.returns
returns c = names
