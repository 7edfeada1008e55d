use Rattle.std.proofs.Common.{take}
use Rattle.vex_lines.specs.LeastLines.{need_line}
use Rattle.vex_lines.proofs.WrittenLines.{Wrote}
use Rattle.vex_lines.proofs.least_lines.write_firsts.Given as goal

abbrev pub invariant-loop-first : goal.invariant-loop-first
invariant-loop-first g l =
    Wrote need_line (take l.first-index l.firsts)
    (record { text = g.K.Sink.text l.fn.sink; faults = g.K.Sink.faults l.fn.sink })
    (record { text = g.K.Sink.text l.sink; faults = g.K.Sink.faults l.sink })
