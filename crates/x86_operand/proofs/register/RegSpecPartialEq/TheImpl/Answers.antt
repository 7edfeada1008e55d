use Rattle.std.specs.Bool.{one_answer}
use Rattle.x86_operand.specs.Same.Lemmas.{same_register_decides}
use Rattle.x86_operand.proofs.register.RegSpecPartialEq.TheImpl.Goals as goal

pub eq-tells : goal.eq-tells
eq-tells c = one_answer c.result _ c.ensures.same (same_register_decides c.args.self.now c.args.other.now)
