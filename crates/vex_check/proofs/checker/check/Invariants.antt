use Rattle.std.proofs.Common.{◌-◌, length}
use Rattle.vex_check.proofs.Checking.{Checking}
use Rattle.vex_check.proofs.checker.check.Given as goal

abbrev pub invariant-loop-place : goal.invariant-loop-place
invariant-loop-place l = Checking l.bytes l.found l.place l.count

abbrev pub decreases-loop-place : goal.decreases-loop-place
decreases-loop-place l = length l.bytes - l.place
