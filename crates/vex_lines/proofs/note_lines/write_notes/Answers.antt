use Rattle.std.proofs.lemmas.Result.{err_from_is_err_and}
use Rattle.vex_lines.specs.Ends.Lemmas.{AppendsFront-more}
use Rattle.vex_lines.proofs.EndsLemmas.{Writes-fault, Writes-then}
use Rattle.vex_lines.proofs.ResultLineLemmas.{line-decoded}
use Rattle.vex_lines.proofs.note_lines.write_notes.Goals as goal

pub write_instruction-requires : goal.write_instruction-requires
write_instruction-requires g c =
    rw c.in-Ok.is at c.list_notes-decoded.ensures.spelled

pub returns-in_err-write_note_lines : goal.returns-in_err-write_note_lines
returns-in_err-write_note_lines g c =
    let failed = err_from_is_err_and c.from_residual.result c.from_residual.ensures.1 in
    let front = rw c.list_notes-decoded.ensures.listed at c.in_err-write_note_lines.ensures.front in
    Writes-fault _ failed.0 _ _ _ _ _ failed.1 (AppendsFront-more _ _ _ _ front) c.in_err-write_note_lines.ensures.cause

pub returns-in-Ok : goal.returns-in-Ok
returns-in-Ok g c =
    let first = rw c.list_notes-decoded.ensures.listed at c.in_ok-write_note_lines.ensures.appends in
    let answer = rw c.in-Ok.is at c.list_notes-decoded.ensures.answer in
    Writes-then _ _ _ _ _ _ _ _ _ first c.in_ok-write_note_lines.ensures.quiet
    (rw (line-decoded _ _ _ answer) c.write_instruction.ensures)

pub returns-in-Err : goal.returns-in-Err
returns-in-Err g c =
    let first = rw c.list_notes-decoded.ensures.listed at c.in_ok-write_note_lines.ensures.appends in
    let answer = rw c.in-Err.is at c.list_notes-decoded.ensures.answer in
    Writes-then _ _ _ _ _ _ _ _ _ first c.in_ok-write_note_lines.ensures.quiet
    (rw (line-decoded _ _ _ answer) c.write_refused.ensures)
