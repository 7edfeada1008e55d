use Rattle.vex_rows.specs.FormRows.Lemmas.{in_order}
use Rattle.vex_rows.proofs.laws.forms_are_in_order.Goals as goal

pub returns : goal.returns
returns c = in_order
