use Rattle.std.proofs.Common.{◌≡◌, false, length, arith, refl, sym, ◌∙◌, inl, inr}
use Rattle.std.proofs.lemmas.Bool.{cases_lt}
use Rattle.std.proofs.lemmas.List.{get_or_past}
use Rattle.vex_check.proofs.Bits.{false-is-not-true}
use Rattle.vex_check.proofs.accept.has_each_bit.Goals as goal

pub returns : goal.returns
returns c =
    let all : length c.args.wanted.now ≡ 128 = c.loop-bit.invariant.1 (omega (arith, c.loop-bit-test.false)) in (
      λ _ i h. elim (cases_lt i c.loop-bit.bit) [
        | inl below ↦ c.loop-bit.invariant.0 i below h
        | inr above ↦ absurd (false-is-not-true
            (sym (get_or_past c.args.wanted.now i false (omega (arith, all, above, c.loop-bit-test.false))) ∙ h))
      ],
      λ _. refl,
    )
