use Rattle.std.proofs.Common.{sym}
use Rattle.std.proofs.lemmas.Result.{err_from_is_err_and}
use Rattle.vex_lines.specs.Ends.Lemmas.{AppendsFront-then}
use Rattle.vex_lines.proofs.EndsLemmas.{Answers-fault}
use Rattle.vex_lines.proofs.sweep_lines.write_sweep.Goals as goal

pub returns-in_err-write_all : goal.returns-in_err-write_all
returns-in_err-write_all g c =
    let stopped = err_from_is_err_and c.from_residual-in_err-write_all.result
    c.from_residual-in_err-write_all.ensures.1 in
    let found = c.in-Ok.ensures in
    let items = c.in_ok-write_items.ensures in
    let front = rw (c.as_bytes.ensures.value, c.as_str.ensures.value, c.end_text.ensures) at
    c.in_err-write_all.ensures.front in
    rw (stopped.1, stopped.2, sym found.items, sym found.end)
    (Answers-fault _ _ _ _ _ _ (AppendsFront-then _ _ _ _ _ items.appends front)
    (rw items.quiet at c.in_err-write_all.ensures.cause))
