use Rattle.vex_lines.specs.Report.{report}
use Rattle.vex_lines.proofs.RunLemmas.{Going}
use Rattle.vex_lines.proofs.input.answer_input.Given as goal

abbrev pub invariant-loop-buffer : goal.invariant-loop-buffer
invariant-loop-buffer g l =
    Going (report l.command)
    (record {
      left = g.S.Source.left l.fn.source;
      given = g.S.Source.given l.fn.source;
      source_faults =
          g.S.Source.faults l.fn.source;
      text = g.K.Sink.text l.fn.sink;
      sink_faults = g.K.Sink.faults l.fn.sink;
    })
    l.line l.room
    (record {
      left = g.S.Source.left l.source;
      given = g.S.Source.given l.source;
      source_faults =
          g.S.Source.faults l.source;
      text = g.K.Sink.text l.sink;
      sink_faults = g.K.Sink.faults l.sink;
    })

abbrev pub decreases-loop-buffer : goal.decreases-loop-buffer
decreases-loop-buffer g l = l.room
