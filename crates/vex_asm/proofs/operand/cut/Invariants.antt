use Rattle.std.proofs.Common.{◌≡◌, drop, take, ◌++◌, Some}
use Rattle.vex_asm.specs.Parsed.{◌>>=◌, cut}
use Rattle.vex_asm.proofs.operand.cut.Given as goal

abbrev pub invariant-loop-i : goal.invariant-loop-i
invariant-loop-i l = cut l.at l.bytes ≡ (cut l.at (drop l.i l.bytes) >>= λ p. Some (take l.i l.bytes ++ p.0, p.1))
