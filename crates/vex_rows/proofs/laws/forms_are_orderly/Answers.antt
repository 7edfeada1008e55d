use Rattle.vex_rows.specs.Steps.Lemmas.{orderly}
use Rattle.vex_rows.proofs.laws.forms_are_orderly.Goals as goal

pub returns : goal.returns
returns c = orderly
