use Rattle.vex_encode.proofs.CanonLaws.{canonical_tells_apart}
use Rattle.vex_encode.proofs.laws.canonical_tells_apart.Goals as goal

pub returns : goal.returns
returns c = canonical_tells_apart c.one_meaning.ensures
