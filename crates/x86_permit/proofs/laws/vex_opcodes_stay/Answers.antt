use Rattle.x86_permit.proofs.Permits.{vex_opcodes}
use Rattle.x86_permit.proofs.laws.vex_opcodes_stay.Goals as goal

pub returns : goal.returns
returns c = vex_opcodes
