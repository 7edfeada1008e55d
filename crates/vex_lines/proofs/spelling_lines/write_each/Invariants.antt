use Rattle.std.proofs.Common.{length}
use Rattle.vex_list.specs.AllSpellings.{spellings_from}
use Rattle.vex_lines.proofs.SpellingLinesLemmas.{WroteUpTo}
use Rattle.vex_lines.proofs.spelling_lines.write_each.Given as goal

abbrev pub invariant-loop-next : goal.invariant-loop-next
invariant-loop-next g l =
    WroteUpTo l.instruction.meaning l.next
    (record { text = g.K.Sink.text l.fn.sink; faults = g.K.Sink.faults l.fn.sink })
    (record { text = g.K.Sink.text l.sink; faults = g.K.Sink.faults l.sink })

-- the spellings that are left
abbrev pub decreases-loop-next : goal.decreases-loop-next
decreases-loop-next g l = length (spellings_from l.instruction.meaning l.next)
