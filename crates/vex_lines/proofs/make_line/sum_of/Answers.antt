use Rattle.std.proofs.Common.{◌≡◌, ◌+◌, length, take, sum, ap, sym, ◌∙◌, arith}
use Rattle.std.proofs.Math.Seq.{take-length}
use Rattle.std.proofs.lemmas.List.Sums.{sum_by_more}
use Rattle.vex_lines.proofs.make_line.sum_of.Goals as goal

pub overflow_add-sum : goal.overflow_add-sum
overflow_add-sum c =
    omega (
      arith,
      c.loop-byte.invariant.1,
      c.loop-byte-test.true,
      c.requires,
      c.from-sum.ensures,
      c.type_inv.bytes c.loop-byte.byte-index,
    )

pub loop-byte-preserved : goal.loop-byte-preserved
loop-byte-preserved c =
    let bytes = c.args.bytes.now in
    let i = c.loop-byte.byte-index in (
      ap (λ s. s + c.from-sum.result) c.loop-byte.invariant.0
          ∙ ap (λ b. sum (take i bytes) + b) c.from-sum.ensures
          ∙ sym (sum_by_more (λ x. x) bytes i 0 c.loop-byte-test.true),
      omega (arith, c.loop-byte.invariant.1, c.from-sum.ensures, c.type_inv.bytes i),
    )

pub returns-clause-value : goal.returns-clause-value
returns-clause-value c =
    let bytes = c.args.bytes.now in
    let ended : c.loop-byte.byte-index ≡ length bytes =
    omega (arith, c.loop-byte-test.false, c.loop-byte.auto.byte-index-end) in
    c.loop-byte.invariant.0 ∙ ap (λ n. sum (take n bytes)) ended ∙ ap sum (take-length bytes)
