use Rattle.std.proofs.Common.{length}
use Rattle.vex_lines.specs.Report.{report}
use Rattle.vex_lines.proofs.FeedLemmas.{FedUpTo}
use Rattle.vex_lines.proofs.line_buffer.feed.Given as goal

abbrev pub invariant-loop-at : goal.invariant-loop-at
invariant-loop-at g l =
    FedUpTo (report l.command) l.fn.line (record { text = g.K.Sink.text l.fn.sink; faults = g.K.Sink.faults l.fn.sink })
    l.piece l.rest l.line (record { text = g.K.Sink.text l.sink; faults = g.K.Sink.faults l.sink })

abbrev pub decreases-loop-at : goal.decreases-loop-at
decreases-loop-at g l = length l.rest
