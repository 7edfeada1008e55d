use Rattle.std.proofs.Common.{refl}
use Rattle.vex_decode.proofs.Slices.{answers_decode}
use Rattle.vex_decode.proofs.decoder.InstDecoderDecoder.decode.Goals as goal

pub returns-in-Ok-clause-decoded : goal.returns-in-Ok-clause-decoded
returns-in-Ok-clause-decoded g c = c.in-Ok.ensures.took

pub returns-in-Ok-clause-complete : goal.returns-in-Ok-clause-complete
returns-in-Ok-clause-complete g c = λ front rest m told spells permitted uncounted. refl

pub returns-in-Err-clause-refused : goal.returns-in-Err-clause-refused
returns-in-Err-clause-refused g c = c.in-Err.ensures.took.0

pub returns-in-Err-clause-complete : goal.returns-in-Err-clause-complete
returns-in-Err-clause-complete g c = c.in-Err.ensures.complete

pub returns-in-Err-clause-slice : goal.returns-in-Err-clause-slice
returns-in-Err-clause-slice g c = c.in-Err.ensures.took.1

pub returns-in-Ok-clause-answer : goal.returns-in-Ok-clause-answer
returns-in-Ok-clause-answer g c = answers_decode _ _ c.in-Ok.ensures.took tt

pub returns-in-Err-clause-answer : goal.returns-in-Err-clause-answer
returns-in-Err-clause-answer g c = answers_decode _ _ tt c.in-Err.ensures.took.1
