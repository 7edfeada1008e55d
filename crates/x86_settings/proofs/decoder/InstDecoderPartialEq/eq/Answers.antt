use Rattle.std.proofs.Common.{ℕ, ◌++◌, sym, ap, ◌∙◌, eqb-true, eq-eqb}
use Rattle.x86_settings.specs.Words.{bits}
use Rattle.x86_settings.proofs.WordLemmas.{same_words, pointwise-beq}
use Rattle.x86_settings.proofs.decoder.InstDecoderPartialEq.eq.Goals as goal

pub returns-then-self-other-clause-same : goal.returns-then-self-other-clause-same
returns-then-self-other-clause-same c =
    let s = c.self.inside in
    let o = c.other.inside in (
      λ h. sym c.self.view_is
          ∙ ap (λ (low : ℕ). bits 64 low ++ bits 64 s.high) c.if-self-other.true
          ∙ ap (λ (high : ℕ). bits 64 o.low ++ bits 64 high) (eqb-true s.high o.high h)
          ∙ c.other.view_is,
      λ e. eq-eqb s.high o.high (same_words s.low s.high o.low o.high c.self.invariant.0 c.self.invariant.1
          c.other.invariant.0 c.other.invariant.1 (c.self.view_is ∙ e ∙ sym c.other.view_is)).1,
    )

pub returns-then-self-other-clause-bits : goal.returns-then-self-other-clause-bits
returns-then-self-other-clause-bits c = pointwise-beq _ c.args.self.now c.args.other.now
    (returns-then-self-other-clause-same c)

pub returns-else-self-other-clause-same : goal.returns-else-self-other-clause-same
returns-else-self-other-clause-same c =
    let s = c.self.inside in
    let o = c.other.inside in (
      λ h. absurd (c.if-self-other.false (eqb-true s.low o.low h)),
      λ e. absurd (c.if-self-other.false (same_words s.low s.high o.low o.high c.self.invariant.0 c.self.invariant.1
          c.other.invariant.0 c.other.invariant.1 (c.self.view_is ∙ e ∙ sym c.other.view_is)).0),
    )

pub returns-else-self-other-clause-bits : goal.returns-else-self-other-clause-bits
returns-else-self-other-clause-bits c = pointwise-beq _ c.args.self.now c.args.other.now
    (returns-else-self-other-clause-same c)
