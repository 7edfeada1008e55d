use Rattle.std.proofs.Common.{◌+◌, Some, ap, sym, refl, ◌∙◌, arith}
use Rattle.vex_lines.specs.Generator.{recoding}
use Rattle.vex_lines.proofs.GeneratorLemmas.{totals-more, totals-same}
use Rattle.vex_lines.proofs.make_line.Totals.add.Goals as goal

pub returns-in-Some : goal.returns-in-Some
returns-in-Some c =
    let bytes = c.as_slice.ensures.value ∙ c.generated.ensures in
    totals-more c.args.self.now _ c.args.i c.in-Some.len c.as_slice-short.result.now c.requires.before
    (ap recoding (sym bytes) ∙ sym c.recoding.ensures.found ∙ c.in-Some.is
    ∙ ap (λ s. Some (c.in-Some.len, s)) (sym c.as_slice-short.ensures.bytes))
    (omega (arith, c.in-Some.ensures.within, c.as_slice.ensures.fits))
    c.as_slice-short.ensures.short
    (rw (← c.sum_of.ensures.value) c.sum_of.ensures.most)
    refl (ap (λ n. c.args.self.now.read + n) c.from.ensures) refl
    (ap (λ n. c.args.self.now.sum + n) c.sum_of.ensures.value)

pub returns-in_default : goal.returns-in_default
returns-in_default c =
    let bytes = c.as_slice.ensures.value ∙ c.generated.ensures in
    totals-same c.args.self.now c.args.i c.requires.before
    (ap recoding (sym bytes) ∙ sym c.recoding.ensures.found ∙ c.in_default.is)
