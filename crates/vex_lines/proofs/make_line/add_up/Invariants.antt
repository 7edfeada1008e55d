-- The totals of the spellings so far.
use Rattle.vex_lines.specs.Internal.Totals.{IsTotals}
use Rattle.vex_lines.proofs.make_line.add_up.Given as goal

abbrev pub invariant-loop-i : goal.invariant-loop-i
invariant-loop-i l = IsTotals l.totals l.i
