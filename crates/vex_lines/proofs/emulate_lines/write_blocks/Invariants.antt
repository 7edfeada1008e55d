use Rattle.std.proofs.Common.{take}
use Rattle.vex_lines.specs.EmulateLines.{numbers, block_line}
use Rattle.vex_lines.proofs.WrittenLines.{Wrote}
use Rattle.vex_lines.proofs.emulate_lines.write_blocks.Given as goal

abbrev pub invariant-loop-b : goal.invariant-loop-b
invariant-loop-b g l =
    Wrote (block_line l.memory) (take l.b (numbers 32))
    (record { text = g.K.Sink.text l.fn.sink; faults = g.K.Sink.faults l.fn.sink })
    (record { text = g.K.Sink.text l.sink; faults = g.K.Sink.faults l.sink })
