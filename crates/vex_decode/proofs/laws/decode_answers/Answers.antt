use Rattle.vex_decode.proofs.Answering.{decode-spelling, decode_is_spelling, decode_is_blocked}
use Rattle.vex_decode.proofs.laws.decode_answers.Goals as goal

pub returns-clause-first : goal.returns-clause-first
returns-clause-first c = decode-spelling

pub returns-clause-spelling : goal.returns-clause-spelling
returns-clause-spelling c = decode_is_spelling

pub returns-clause-error : goal.returns-clause-error
returns-clause-error c = decode_is_blocked
