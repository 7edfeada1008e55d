use Rattle.std.proofs.Common.{take}
use Rattle.vex_lines.specs.EmulateLines.{numbers, vector_line}
use Rattle.vex_lines.proofs.WrittenLines.{Wrote}
use Rattle.vex_lines.proofs.emulate_lines.write_vectors.Given as goal

abbrev pub invariant-loop-i : goal.invariant-loop-i
invariant-loop-i g l =
    Wrote (vector_line l.machine.vectors) (take l.i (numbers 16))
    (record { text = g.K.Sink.text l.fn.sink; faults = g.K.Sink.faults l.fn.sink })
    (record { text = g.K.Sink.text l.sink; faults = g.K.Sink.faults l.sink })
