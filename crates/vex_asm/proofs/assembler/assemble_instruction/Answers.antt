use Rattle.std.proofs.Common.{refl}
use Rattle.vex_asm.proofs.assembler.assemble_instruction.Goals as goal

pub returns-in-Err : goal.returns-in-Err
returns-in-Err c = record {
  meaning = c.in_ok-instruction.instruction.meaning;
  written = c.in_ok-instruction.ensures.found.1;
  unspelled = c.in-Err.ensures.none.0 refl;
}
