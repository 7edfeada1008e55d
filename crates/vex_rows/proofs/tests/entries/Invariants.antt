-- The ledger is that of the blank.
use Rattle.vex_rows.proofs.tests.entries.Given as goal

abbrev pub ghosts-entries_by : goal.ghosts-entries_by
ghosts-entries_by a = record { name = a.blank.name; parts = a.blank.parts }
