use Rattle.std.proofs.Common.{ap, refl, subst, ◌∙◌}
use Rattle.vex_calls.specs.Encodings.{flat_bytes}
use Rattle.vex_calls.specs.Errors.{error_number}
use Rattle.vex_c.specs.Decoding.{AnswersBlocked, HoldsFirstAndShortest}
use Rattle.vex_c.proofs.decoding.first_and_shortest.Goals as goal

pub returns-in-Ok-clause-holds : goal.returns-in-Ok-clause-holds
returns-in-Ok-clause-holds c =
    let is = c.in-Ok.ensures in
    subst (λ s. HoldsFirstAndShortest s c.args.bytes.now c.of.result c.of-in-Ok.result) c.settings.ensures (record {
      first = record {
        decoded = c.in-Ok.recoded.0;
        held = c.of.ensures;
        begun = is.begun.0 refl;
        within = is.within;
        spelled = is.spelled;
        permitted = is.permitted;
      };
      shortest = c.in-Ok.recoded.1;
      held = c.of-in-Ok.ensures ∙ ap flat_bytes c.as_slice.ensures.bytes;
      canonical = is.canonical;
      same = is.same;
      accepted = is.accepted;
    })

pub returns-in-Err-clause-blocked : goal.returns-in-Err-clause-blocked
returns-in-Err-clause-blocked c =
    let refused = c.in-Err.ensures.refused in
    subst (λ s. AnswersBlocked s c.args.bytes.now (error_number c.of_decode.result)) c.settings.ensures (record {
      error = c.in-Err.error;
      taken = refused.0;
      blocked = refused.1;
      number = ap error_number c.of_decode.ensures;
    })
