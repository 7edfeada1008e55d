-- The ledger is that of the blank.
use Rattle.vex_lines.proofs.generator.generated.Given as goal

abbrev pub ghosts-entry_of : goal.ghosts-entry_of
ghosts-entry_of a = record { name = a.blank.name; parts = a.blank.parts }
