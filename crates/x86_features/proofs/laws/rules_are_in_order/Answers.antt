use Rattle.x86_features.proofs.InOrder.{integers_in_order, floats_in_order}
use Rattle.x86_features.proofs.laws.rules_are_in_order.Goals as goal

pub returns : goal.returns
returns c = (integers_in_order, floats_in_order)
