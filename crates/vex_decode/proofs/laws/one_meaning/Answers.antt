use Rattle.vex_decode.proofs.SpellingLaws.{one_meaning}
use Rattle.vex_decode.proofs.laws.one_meaning.Goals as goal

pub returns : goal.returns
returns c = one_meaning
