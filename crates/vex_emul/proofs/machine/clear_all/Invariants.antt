use Rattle.std.proofs.Common.{◌≡◌, ◌++◌, map, take, drop, replicate}
use Rattle.vex_emul.proofs.machine.clear_all.Given as goal

abbrev pub invariant-loop-vector : goal.invariant-loop-vector
invariant-loop-vector l = l.vectors ≡ map (λ v. replicate 32 0) (take l.vector-index l.initial.vectors)
    ++ drop l.vector-index l.initial.vectors
