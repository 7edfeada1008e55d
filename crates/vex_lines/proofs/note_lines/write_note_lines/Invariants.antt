use Rattle.std.proofs.Common.{take}
use Rattle.vex_lines.specs.NoteLines.{note_line}
use Rattle.vex_lines.proofs.WrittenLines.{Wrote}
use Rattle.vex_lines.proofs.note_lines.write_note_lines.Given as goal

abbrev pub invariant-loop-i : goal.invariant-loop-i
invariant-loop-i g l =
    Wrote note_line (take l.i l.list.kept)
    (record { text = g.K.Sink.text l.fn.sink; faults = g.K.Sink.faults l.fn.sink })
    (record { text = g.K.Sink.text l.sink; faults = g.K.Sink.faults l.sink })
