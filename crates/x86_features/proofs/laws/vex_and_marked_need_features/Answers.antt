use Rattle.x86_features.proofs.Needed.{vex_and_marked}
use Rattle.x86_features.proofs.laws.vex_and_marked_need_features.Goals as goal

pub returns : goal.returns
returns c = vex_and_marked
