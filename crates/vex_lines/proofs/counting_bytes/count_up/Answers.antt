use Rattle.std.proofs.Common.{◌≡◌, ◌∙◌, ◌+◌, ◌%◌, length, sym, ap, ◌++◌, arith, slice_set}
use Rattle.vex_lines.proofs.EmulateLinesLemmas.{counted, counted-all, counting-none}
use Rattle.vex_lines.proofs.counting_bytes.count_up.Goals as goal

pub loop-i-init : goal.loop-i-init
loop-i-init c = sym (ap (λ t. t ++ c.args.bytes.now) (counting-none 0))

pub loop-i-preserved : goal.loop-i-preserved
loop-i-preserved c =
    let i = c.loop-i.i in
    let place : i ≡ 0 + i = omega arith in
    ap (λ k. slice_set c.loop-i.bytes i (k % 256)) place
    ∙ counted 0 i c.loop-i.bytes c.args.bytes.now c.loop-i-test.true c.loop-i.invariant

pub returns : goal.returns
returns c =
    let ended : c.loop-i.i ≡ length c.args.bytes.now = omega (arith, c.loop-i-test.false, c.loop-i.auto.i-end) in
    counted-all 0 c.loop-i.i c.loop-i.bytes c.args.bytes.now c.loop-i.invariant ended
