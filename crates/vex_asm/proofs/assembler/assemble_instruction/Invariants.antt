-- The ledger is that of the blank.
use Rattle.vex_asm.proofs.assembler.assemble_instruction.Given as goal

abbrev pub ghosts-shortest : goal.ghosts-shortest
ghosts-shortest a = record { name = a.blank.name; parts = a.blank.parts }
