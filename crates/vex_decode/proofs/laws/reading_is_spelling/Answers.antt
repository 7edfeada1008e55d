use Rattle.vex_decode.proofs.SpellingLaws.{reading_is_spelling}
use Rattle.vex_decode.proofs.laws.reading_is_spelling.Goals as goal

pub returns : goal.returns
returns c = reading_is_spelling
