-- The ledger is that of the blank.
use Rattle.vex_decode.proofs.reading.find_entry.Given as goal

abbrev pub ghosts-look_up : goal.ghosts-look_up
ghosts-look_up a = record { name = a.blank.name; parts = a.blank.parts }
