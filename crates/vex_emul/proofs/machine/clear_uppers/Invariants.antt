use Rattle.std.proofs.Common.{◌≡◌, ◌++◌, map, take, drop}
use Rattle.vex_emul.specs.Work.{upper_cleared}
use Rattle.vex_emul.proofs.machine.clear_uppers.Given as goal

abbrev pub invariant-loop-vector : goal.invariant-loop-vector
invariant-loop-vector l = l.vectors ≡ map upper_cleared (take l.vector-index l.initial.vectors)
    ++ drop l.vector-index l.initial.vectors
