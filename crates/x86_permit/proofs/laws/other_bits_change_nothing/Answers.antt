use Rattle.x86_permit.proofs.ReadBits.{other_bits}
use Rattle.x86_permit.proofs.laws.other_bits_change_nothing.Goals as goal

pub returns : goal.returns
returns c = other_bits
