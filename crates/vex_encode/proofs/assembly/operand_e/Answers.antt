-- A register is named by its number.
use Rattle.vex_encode.proofs.Asked.{register_asks}
use Rattle.vex_encode.proofs.assembly.operand_e.Goals as goal

pub returns-in-Register-clause-asks : goal.returns-in-Register-clause-asks
returns-in-Register-clause-asks c = rw c.in-Register.is (register_asks _ _ c.number.ensures)
