use Rattle.x86_address.proofs.Spelling.{shortest_is_least}
use Rattle.x86_address.proofs.laws.shortest_is_least.Goals as goal

pub returns : goal.returns
returns c = shortest_is_least
