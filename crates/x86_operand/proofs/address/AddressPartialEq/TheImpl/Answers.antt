use Rattle.std.specs.Bool.{one_answer}
use Rattle.x86_operand.specs.Same.Lemmas.{same_address_decides}
use Rattle.x86_operand.proofs.address.AddressPartialEq.TheImpl.Goals as goal

pub eq-tells : goal.eq-tells
eq-tells c = one_answer c.result _ c.ensures.same (same_address_decides c.args.self.now c.args.other.now)
