use Rattle.x86_features.proofs.InOrder.{processors_in_order}
use Rattle.x86_features.proofs.laws.processors_are_in_order.Goals as goal

pub returns : goal.returns
returns c = processors_in_order
