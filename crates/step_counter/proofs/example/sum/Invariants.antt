use Rattle.std.proofs.Common.{◌≡◌, ◌+◌}
use Rattle.step_counter.proofs.example.sum.Given as goal

abbrev pub invariant-loop-byte : goal.invariant-loop-byte
invariant-loop-byte g l = l.steps ≡ l.initial.steps + l.byte-index
