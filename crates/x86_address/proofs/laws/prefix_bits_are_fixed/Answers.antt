use Rattle.x86_address.proofs.Spelling.{x_is_fixed, b_is_fixed, demanded_is_set}
use Rattle.x86_address.proofs.laws.prefix_bits_are_fixed.Goals as goal

pub returns-clause-x : goal.returns-clause-x
returns-clause-x c = x_is_fixed

pub returns-clause-b : goal.returns-clause-b
returns-clause-b c = b_is_fixed

pub returns-clause-set : goal.returns-clause-set
returns-clause-set c = demanded_is_set
