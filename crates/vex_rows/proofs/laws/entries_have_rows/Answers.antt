use Rattle.vex_rows.specs.Entries.Lemmas.{listed_entry, entry_row}
use Rattle.vex_rows.proofs.laws.entries_have_rows.Goals as goal

pub returns : goal.returns
returns c = λ entry opcode m. (listed_entry entry opcode m, entry_row entry opcode m)
