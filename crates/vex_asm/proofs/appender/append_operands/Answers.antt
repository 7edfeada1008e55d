use Rattle.std.proofs.Common.{arith, ap, sym, ◌∙◌, append_assoc, ◌<◌, ◌++◌, length}
use Rattle.std.specs.Prelude.{take, codes}
use Rattle.x86_operand.specs.Meaning.{operand_meaning}
use Rattle.x86_operand.specs.Instruction.{operand_at}
use Rattle.vex_asm.specs.Text.{operand_text}
use Rattle.vex_asm.specs.Written.{operands_text}
use Rattle.vex_asm.proofs.Written.{operands_text-more}
use Rattle.vex_asm.proofs.appender.append_operands.Goals as goal

pub loop-i-preserved : goal.loop-i-preserved
loop-i-preserved c =
    let front = c.args.buffer.now.bytes in
    let operands = c.args.instruction.now.meaning.operands in
    let i = c.loop-i.i in
    let before = operands_text (take i operands) in
    let operand = operand_text (operand_at operands i) in
    let within : i < length operands = omega
    (arith, c.loop-i-test.true, c.operand_count-i-end.ensures.value, c.loop-i.auto.i-end) in (
      c.append_operand.ensures.written
          ∙ ap (λ t. t ++ operand_text (operand_meaning c.operand.result))
          (c.push_str.ensures.bytes ∙ ap (λ t. t ++ codes " ") c.loop-i.invariant.0)
          ∙ ap (λ m. ((front ++ before) ++ codes " ") ++ operand_text m) c.operand.ensures.meaning
          ∙ append_assoc (front ++ before) (codes " ") operand
          ∙ append_assoc front before (codes " " ++ operand)
          ∙ ap (λ t. front ++ t) (sym (operands_text-more operands i within)),
      omega (arith, c.append_operand.ensures.short, c.push_str.ensures.len, c.loop-i.invariant.1),
    )
