-- The ledger is that of the blank.
use Rattle.vex_rows.proofs.example.an_entry_is_found_by_its_key.Given as goal

abbrev pub ghosts-look_up : goal.ghosts-look_up
ghosts-look_up g a = record { name = a.blank.name; parts = a.blank.parts }
