use Rattle.std.proofs.Common.{◌≡◌, ◌+◌, ◌-◌, ap, ◌∙◌, arith, refl}
use Rattle.vex_lines.specs.Generator.{greatest}
use Rattle.vex_lines.proofs.GeneratorLemmas.{greatest-found, greatest-less, greatest-none, is-false}
use Rattle.vex_lines.proofs.generator.greatest_row.Goals as goal

pub returns-in-Some-clause-field : goal.returns-in-Some-clause-field
returns-in-Some-clause-field c =
    c.loop-above.invariant
    ∙ greatest-found c.args.entry.now c.args.w c.args.l c.args.memory c.loop-above.above c.loop-above-test.true
    (c.in-Some.ensures.exists.0 refl)

pub loop-above-preserved : goal.loop-above-preserved
loop-above-preserved c =
    let above = c.loop-above.above in
    let step : 7 - above ≡ 8 - (above + 1) = omega arith in
    c.loop-above.invariant
    ∙ greatest-less c.args.entry.now c.args.w c.args.l c.args.memory above c.loop-above-test.true
    (is-false _ (λ found. let no = c.in_default.ensures.exists.1 found in cc))
    ∙ ap (greatest c.args.entry.now c.args.w c.args.l c.args.memory) step

pub returns-clause-none : goal.returns-clause-none
returns-clause-none c = λ _.
    let above = c.loop-above.above in
    let end : 8 - above ≡ 0 = omega (arith, c.loop-above-test.false) in
    c.loop-above.invariant ∙ ap (greatest c.args.entry.now c.args.w c.args.l c.args.memory) end
    ∙ greatest-none c.args.entry.now c.args.w c.args.l c.args.memory
