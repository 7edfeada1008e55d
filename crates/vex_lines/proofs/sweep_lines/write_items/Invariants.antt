use Rattle.std.proofs.Common.{take}
use Rattle.vex_lines.proofs.WrittenLines.{Wrote}
use Rattle.vex_lines.proofs.SweepLinesLemmas.{seen_line}
use Rattle.vex_lines.proofs.sweep_lines.write_items.Given as goal

abbrev pub invariant-loop-item : goal.invariant-loop-item
invariant-loop-item g l =
    Wrote seen_line (take l.item-index l.list)
    (record { text = g.K.Sink.text l.fn.sink; faults = g.K.Sink.faults l.fn.sink })
    (record { text = g.K.Sink.text l.sink; faults = g.K.Sink.faults l.sink })
