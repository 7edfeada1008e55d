use Rattle.std.proofs.Common.{◌≡◌, Err, Ok, ap, sym, subst}
use Rattle.vex_decode.specs.Decode.{decode}
use Rattle.vex_check.specs.FirstPlaces.{cause_of}
use Rattle.vex_check.proofs.Bits.{false-is-not-true}
use Rattle.vex_check.proofs.Checking.{marked-unless}
use Rattle.vex_check.proofs.Runs.{spelled-vex}
use Rattle.vex_check.proofs.checker.first_needs.Goals as goal

pub returns-in-Err-clause-fault : goal.returns-in-Err-clause-fault
returns-in-Err-clause-fault c =
    ap cause_of (subst (λ s. decode s c.args.bytes.now ≡ Err c.in-Err.error) c.default.ensures
    (sym c.in-Err.ensures.answer))

pub returns-in-Some-clause-first : goal.returns-in-Some-clause-first
returns-in-Some-clause-first c =
    subst (λ s. decode s c.args.bytes.now ≡ Ok c.in-Ok.instruction) c.default.ensures (sym c.in-Ok.ensures.answer)

pub returns-in-None-clause-fault : goal.returns-in-None-clause-fault
returns-in-None-clause-fault c =
    marked-unless _ c.in-Ok.instruction
    (subst (λ s. decode s c.args.bytes.now ≡ Ok c.in-Ok.instruction) c.default.ensures (sym c.in-Ok.ensures.answer))
    (λ unmarked. false-is-not-true (c.in-None.ensures.there.1
    (unmarked, spelled-vex c.vex_opcodes.ensures _ _ c.in-Ok.ensures.spelled)))
