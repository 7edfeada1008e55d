use Rattle.vex_rows.specs.Entries.Lemmas.{row_entry}
use Rattle.vex_rows.proofs.laws.rows_have_entries.Goals as goal

pub returns : goal.returns
returns c = row_entry
