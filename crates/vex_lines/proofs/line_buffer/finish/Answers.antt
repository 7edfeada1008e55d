use Rattle.std.proofs.Common.{refl, rules}
use Rattle.std.proofs.lemmas.Result.{err_from_is_err_and}
use Rattle.vex_lines.specs.Report.{report}
use Rattle.vex_lines.specs.Ends.Lemmas.{Appends-none}
use Rattle.vex_lines.proofs.EndsLemmas.{Answers-as, Answers-handed_on}
use Rattle.vex_lines.proofs.LineMachineLemmas.{last-empty, last-some}
use Rattle.vex_lines.proofs.line_buffer.finish.Goals as goal

pub returns-then-is_empty : goal.returns-then-is_empty
returns-then-is_empty g c =
    let empty = c.if-is_empty.ensures in
    rw (last-empty (report c.args.command.now) c.args.line.now (empty.0 (search rules)))
    (Answers-handed_on _ _ _ _ _ _ _ _ _ (Appends-none _) refl c.hand_on.ensures)

pub returns : goal.returns
returns g c =
    let some = c.if-is_empty.ensures in
    let answered = c.in_ok-answer.ensures in
    rw (last-some (report c.args.command.now) c.args.line.now (λ h. cc (some.1 h)))
    (Answers-handed_on _ _ _ _ _ _ _ _ _ answered.appends answered.quiet c.hand_on-2.ensures)

pub returns-in_err-answer : goal.returns-in_err-answer
returns-in_err-answer g c =
    let some = c.if-is_empty.ensures in
    let stopped = err_from_is_err_and c.from_residual.result c.from_residual.ensures.1 in
    rw (stopped.1, stopped.2, last-some (report c.args.command.now) c.args.line.now (λ h. cc (some.1 h)))
    (Answers-as _ _ _ _ _ _ _ _ (λ written is. (is.0, (λ h. cc (some.1 h)), is.1)) c.in_err-answer.ensures)
