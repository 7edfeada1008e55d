use Rattle.std.proofs.Common.{sym, ◌∙◌}
use Rattle.std.proofs.lemmas.Option.{none-some}
use Rattle.vex_lines.proofs.Assembled.{result-assembles}
use Rattle.vex_lines.proofs.ResultLineLemmas.{line-recoded}
use Rattle.vex_lines.proofs.laws.result_line_assembles.Goals as goal

pub returns-in-Ok : goal.returns-in-Ok
returns-in-Ok c =
    let recoded = c.in-Ok.ensures in
    result-assembles c.assembled_lines.ensures.text c.args.settings.now c.args.bytes.now _ _ _
    (line-recoded _ _ _ recoded.answer) recoded.permitted recoded.canonical c.instruction_in_range.ensures

pub returns-in-Err : goal.returns-in-Err
returns-in-Err c = λ begun. absurd (none-some _ (sym begun ∙ c.in-Err.ensures.refused.1))
