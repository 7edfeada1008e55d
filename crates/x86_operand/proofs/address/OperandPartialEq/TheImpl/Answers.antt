use Rattle.std.specs.Bool.{one_answer}
use Rattle.x86_operand.specs.Meaning.{operand_meaning}
use Rattle.x86_operand.specs.Same.Lemmas.{same_operand_decides}
use Rattle.x86_operand.proofs.address.OperandPartialEq.TheImpl.Goals as goal

pub eq-tells : goal.eq-tells
eq-tells c =
    one_answer c.result _ c.ensures.same
    (same_operand_decides (operand_meaning c.args.self.now) (operand_meaning c.args.other.now))
