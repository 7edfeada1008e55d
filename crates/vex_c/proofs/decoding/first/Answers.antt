use Rattle.std.proofs.Common.{ap, refl, subst}
use Rattle.vex_calls.specs.Errors.{error_number}
use Rattle.vex_c.specs.Decoding.{AnswersBlocked, HoldsFirst}
use Rattle.vex_c.proofs.decoding.first.Goals as goal

pub returns-in-Ok-clause-holds : goal.returns-in-Ok-clause-holds
returns-in-Ok-clause-holds c =
    let is = c.in-Ok.ensures in
    subst (λ s. HoldsFirst s c.args.bytes.now c.of.result) c.settings.ensures (record {
      decoded = c.in-Ok.instruction;
      held = c.of.ensures;
      begun = is.begun.0 refl;
      within = is.within;
      spelled = is.spelled;
      permitted = is.permitted;
    })

pub returns-in-Err-clause-blocked : goal.returns-in-Err-clause-blocked
returns-in-Err-clause-blocked c =
    let refused = c.in-Err.ensures.refused in
    subst (λ s. AnswersBlocked s c.args.bytes.now (error_number c.of_decode.result)) c.settings.ensures (record {
      error = c.in-Err.error;
      taken = refused.0;
      blocked = refused.1;
      number = ap error_number c.of_decode.ensures;
    })
