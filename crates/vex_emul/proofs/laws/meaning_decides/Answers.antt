use Rattle.vex_emul.proofs.Repeating as proofs
use Rattle.vex_emul.proofs.laws.meaning_decides.Goals as goal

pub returns : goal.returns
returns c = proofs.meaning_decides c.steps.ensures.spelling
