-- As many operands as slots, and each fits.
use Rattle.std.proofs.Common.{arith, ◌-◌}
use Rattle.vex_forms.specs.Reads.{kind_seen}
use Rattle.vex_encode.proofs.Fitting.{fit_drop, fit_length, fit_parts}
use Rattle.vex_encode.proofs.operand_walk.operands_asked.Goals as goal

pub returns-then-from-slots-clause-fit : goal.returns-then-from-slots-clause-fit
returns-then-from-slots-clause-fit c = (
  λ h. cc,
  λ fit.
      let operands = c.args.instruction.now.meaning.operands in
      let same = fit_length (kind_seen c.args.kind) c.args.index_bank c.args.slots.now operands fit in
      absurd (omega (arith, same)),
)

pub returns-then-not-put_before-clause-fit : goal.returns-then-not-put_before-clause-fit
returns-then-not-put_before-clause-fit c =
    let kind = kind_seen c.args.kind in
    let bank = c.args.index_bank in
    let slots = c.args.slots.now in
    let operands = c.args.instruction.now.meaning.operands in
    let i = c.loop-i.i - 1 in (
      (λ h. cc),
      (λ fit.
          let parts = fit_parts kind bank slots operands i _ (omega (arith, c.loop-i.invariant.0, c.loop-i-test.true))
          c.loop-i.invariant.1 (fit_drop kind bank slots operands i fit) in
          let yes = c.put_before.ensures.fits.1 parts.0 in
          cc (yes, c.if-not-put_before.true)),
    )
