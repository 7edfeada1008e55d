use Rattle.std.proofs.Common.{◌-◌, length}
use Rattle.vex_emul.proofs.Running.{Running}
use Rattle.vex_emul.proofs.run.run_code.Given as goal

abbrev pub invariant-loop-place : goal.invariant-loop-place
invariant-loop-place l = Running l.decoder l.initial.machine l.code l.machine l.place l.count

abbrev pub decreases-loop-place : goal.decreases-loop-place
decreases-loop-place l = length l.code - l.place
