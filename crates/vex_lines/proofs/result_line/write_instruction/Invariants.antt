-- The ledger is that of the blank.
use Rattle.vex_lines.proofs.result_line.write_instruction.Given as goal

abbrev pub ghosts-canonical_bytes : goal.ghosts-canonical_bytes
ghosts-canonical_bytes g a = record { name = a.blank.name; parts = a.blank.parts }
