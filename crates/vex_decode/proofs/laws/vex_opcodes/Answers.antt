use Rattle.vex_decode.proofs.VexOpcodes.{vex_opcodes_are_rows}
use Rattle.vex_decode.proofs.laws.vex_opcodes.Goals as goal

pub returns : goal.returns
returns c = vex_opcodes_are_rows
