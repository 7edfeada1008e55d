-- The ledger is that of the blank.
use Rattle.vex_c.proofs.encoding.shortest.Given as goal

abbrev pub ghosts-counted : goal.ghosts-counted
ghosts-counted a = record { name = a.blank.name; parts = a.blank.parts }
