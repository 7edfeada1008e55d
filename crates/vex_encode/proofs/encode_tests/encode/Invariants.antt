-- The ledger is that of the blank.
use Rattle.vex_encode.proofs.encode_tests.encode.Given as goal

abbrev pub ghosts-encode_by : goal.ghosts-encode_by
ghosts-encode_by a = record { name = a.blank.name; parts = a.blank.parts }
