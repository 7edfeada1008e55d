use Rattle.vex_c.proofs.Running.{Running}
use Rattle.vex_c.proofs.runs.vex_decode_all.Given as goal

abbrev pub invariant-loop-count : goal.invariant-loop-count
invariant-loop-count l = Running l.decoder l.bytes l.initial.instructions l.instructions l.count l.place
