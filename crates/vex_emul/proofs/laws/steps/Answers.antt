use Rattle.std.proofs.Common.{sym}
use Rattle.vex_emul.proofs.Running.{step-decoded}
use Rattle.vex_emul.proofs.laws.steps.Goals as goal

pub returns-clause-spelling : goal.returns-clause-spelling
returns-clause-spelling c settings state front rest m spells permitted =
    step-decoded settings state _ _ (sym (c.decode_answers.ensures.first settings front rest m spells permitted))

pub returns-clause-error : goal.returns-clause-error
returns-clause-error c settings state bytes error n is =
    step-decoded settings state bytes _ (sym ((c.decode_answers.ensures.error settings bytes error).1 (n, is)))
