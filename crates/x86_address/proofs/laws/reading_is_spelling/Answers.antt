use Rattle.x86_address.specs.Reading.Places.{reading_is_spelling}
use Rattle.x86_address.proofs.Spelling.{reading_fails}
use Rattle.x86_address.proofs.laws.reading_is_spelling.Goals as goal

pub returns-clause-spelled : goal.returns-clause-spelled
returns-clause-spelled c = reading_is_spelling

pub returns-clause-exhausted : goal.returns-clause-exhausted
returns-clause-exhausted c = reading_fails
