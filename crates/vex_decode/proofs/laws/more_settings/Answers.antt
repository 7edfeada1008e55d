use Rattle.vex_decode.proofs.SpellingLaws.{more_settings, same_answer}
use Rattle.vex_decode.proofs.laws.more_settings.Goals as goal

pub returns-clause-kept : goal.returns-clause-kept
returns-clause-kept c = more_settings

pub returns-clause-same : goal.returns-clause-same
returns-clause-same c = same_answer
