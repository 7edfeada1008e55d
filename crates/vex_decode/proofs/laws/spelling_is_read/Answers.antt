use Rattle.vex_decode.proofs.Spells.{walk-spelling}
use Rattle.vex_decode.proofs.laws.spelling_is_read.Goals as goal

pub returns : goal.returns
returns c = walk-spelling
