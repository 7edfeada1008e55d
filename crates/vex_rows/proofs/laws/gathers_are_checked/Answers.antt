use Rattle.vex_rows.specs.Steps.Lemmas.{gathers_checked}
use Rattle.vex_rows.proofs.laws.gathers_are_checked.Goals as goal

pub returns : goal.returns
returns c = gathers_checked
