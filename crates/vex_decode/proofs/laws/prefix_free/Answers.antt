use Rattle.vex_decode.proofs.SpellingLaws.{prefix_free}
use Rattle.vex_decode.proofs.SpellingBytes.{spelling_length, IsBytes-spelling}
use Rattle.vex_decode.proofs.laws.prefix_free.Goals as goal

pub returns-clause-equal : goal.returns-clause-equal
returns-clause-equal c = prefix_free

pub returns-clause-length : goal.returns-clause-length
returns-clause-length c = spelling_length

pub returns-clause-bytes : goal.returns-clause-bytes
returns-clause-bytes c = IsBytes-spelling
