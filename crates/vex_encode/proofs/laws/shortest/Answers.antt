use Rattle.vex_encode.proofs.CanonLaws.{shortest}
use Rattle.vex_encode.proofs.laws.shortest.Goals as goal

pub returns : goal.returns
returns c = shortest
