use Rattle.std.proofs.Common.{◌-◌, length}
use Rattle.std.specs.Prelude.{map}
use Rattle.vex_encode.specs.Sweep.{item_seen}
use Rattle.vex_encode.proofs.Sweeping.{Sweeping}
use Rattle.vex_encode.proofs.sweeper.sweep.Given as goal

abbrev pub invariant-loop-place : goal.invariant-loop-place
invariant-loop-place l = Sweeping l.decoder l.bytes (map item_seen l.list.items) l.place

abbrev pub decreases-loop-place : goal.decreases-loop-place
decreases-loop-place l = length l.bytes - l.place
