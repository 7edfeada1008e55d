use Rattle.vex_lines.proofs.Assembled.{line-no_text, line-text}
use Rattle.vex_lines.proofs.laws.assembled_lines.Goals as goal

pub returns-clause-text : goal.returns-clause-text
returns-clause-text c = line-text c.meaning_of_line.ensures

pub returns-clause-no_text : goal.returns-clause-no_text
returns-clause-no_text c = line-no_text c.meaning_of_line.ensures
