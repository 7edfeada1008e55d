use Rattle.vex_rows.specs.Table.Lemmas.{one_entry}
use Rattle.vex_rows.proofs.laws.keys_are_apart.Goals as goal

pub returns : goal.returns
returns c = one_entry
