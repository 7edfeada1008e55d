use Rattle.std.proofs.Common.{◌≡◌, ◌++◌, drop}
use Rattle.vex_lines.specs.EmulateLines.{counting}
use Rattle.vex_lines.proofs.counting_bytes.count_up.Given as goal

abbrev pub invariant-loop-i : goal.invariant-loop-i
invariant-loop-i l = l.bytes ≡ counting 0 l.i ++ drop l.i l.initial.bytes
