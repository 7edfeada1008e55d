use Rattle.vex_decode.proofs.SpellingLaws.{blocked_or_begun, more_bytes, exhausted_at_end}
use Rattle.vex_decode.proofs.laws.blocked_or_begun.Goals as goal

pub returns-clause-begun : goal.returns-clause-begun
returns-clause-begun c = blocked_or_begun

pub returns-clause-more : goal.returns-clause-more
returns-clause-more c = more_bytes

pub returns-clause-exhausted : goal.returns-clause-exhausted
returns-clause-exhausted c = exhausted_at_end
