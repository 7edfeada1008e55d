use Rattle.vex_lines.proofs.LeastLinesLemmas.{Gathered}
use Rattle.vex_lines.proofs.least_lines.write_profiles.Given as goal

abbrev pub invariant-loop-name : goal.invariant-loop-name
invariant-loop-name g l = Gathered l.needs.least l.list l.name-index l.text.bytes
