use Rattle.std.proofs.Common.{◌≡◌, drop, ◌+◌, sym, arith, refl, Some, slice_get}
use Rattle.std.proofs.lemmas.Result.{err_from_is_err_and}
use Rattle.vex_lines.specs.NoteLines.{note_line}
use Rattle.vex_lines.proofs.EndsLemmas.{Writes-fault}
use Rattle.vex_lines.proofs.WrittenLines.{Wrote-fault, Wrote-step, found-item, split-item, take-item}
use Rattle.vex_lines.proofs.note_lines.write_note_lines.Goals.{in-Some+in_ok-write_all, in_default}
use Rattle.vex_lines.proofs.note_lines.write_note_lines.Goals as goal

pub returns-in_err-write_all : goal.returns-in_err-write_all
returns-in_err-write_all g c =
    let failed = err_from_is_err_and c.from_residual.result c.from_residual.ensures.1 in
    let list = c.args.list.now.kept in
    let i = c.loop-i.i in
    let wrote = c.loop-i.invariant in
    let note = c.in-Some.note.now in
    let at : slice_get list i ≡ Some note = sym c.in-Some.ensures.found in
    let found = found-item list i note at in
    let front = rw (c.as_bytes.ensures.value, c.as_str.ensures.value, c.note_text_line.ensures) at
    c.in_err-write_all.ensures.front in
    Writes-fault _ failed.0 _ _ _ _ _ failed.1
    (Wrote-fault note_line list _ (drop (i + 1) list) _ _ _ _ wrote (split-item list i note found.0 found.1) front)
    (rw wrote.quiet at c.in_err-write_all.ensures.cause)

pub loop-i-preserved : goal.loop-i-preserved
loop-i-preserved g c =
    let list = c.args.list.now.kept in
    let i = c.loop-i.i in
    elim c.match-get.branch [
      | in-Some+in_ok-write_all w ↦
          let note = w.in-Some.note.now in
          let at : slice_get list i ≡ Some note = sym w.in-Some.ensures.found in
          let found = found-item list i note at in
          let more = w.in_ok-write_all.ensures in
          let written = rw (w.as_bytes.ensures.value, w.as_str.ensures.value, w.note_text_line.ensures) at more.appends
          in
          rw (take-item list i note found.0 found.1, w.sink-is)
          (Wrote-step note_line _ _ _ _ _ c.loop-i.invariant written more.quiet)
      | in_default w ↦
          let past = w.in_default.ensures.none.0 refl in
          absurd (omega (arith, c.loop-i-test.true, c.len-i-end.ensures, c.loop-i.auto.i-end, past))
    ]
