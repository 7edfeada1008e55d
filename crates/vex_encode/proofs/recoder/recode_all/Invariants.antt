-- The ledger is that of the blank.
use Rattle.vex_encode.proofs.recoder.recode_all.Given as goal

abbrev pub ghosts-canonical_bytes : goal.ghosts-canonical_bytes
ghosts-canonical_bytes a = record { name = a.blank.name; parts = a.blank.parts }
