use Rattle.std.proofs.Common.{refl, sym, ◌∙◌}
use Rattle.std.proofs.lemmas.Option.{none-some}
use Rattle.vex_asm.proofs.Assembling.{decoded_text}
use Rattle.vex_asm.proofs.laws.text_assembles.Goals as goal

pub returns-in-Ok : goal.returns-in-Ok
returns-in-Ok c =
    let recoded = c.in-Ok.ensures in
    decoded_text c.more_settings.ensures.same c.args.decoder.now c.args.bytes.now _ _ _
    (record { not_blocked = recoded.begun.0 refl; within = recoded.within; spells = recoded.spelled })
    c.instruction_in_range.ensures recoded.canonical

pub returns-in-Err : goal.returns-in-Err
returns-in-Err c = λ m n line decoded same. absurd (none-some _ (sym decoded.not_blocked ∙ c.in-Err.ensures.refused.1))
