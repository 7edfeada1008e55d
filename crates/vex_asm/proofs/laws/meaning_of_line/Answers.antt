use Rattle.vex_asm.proofs.Lines.{meaning_of_line}
use Rattle.vex_asm.proofs.laws.meaning_of_line.Goals as goal

pub returns : goal.returns
returns c = meaning_of_line
