use Rattle.std.proofs.Common.{◌≡◌}
use Rattle.vex_lines.proofs.EmulateLinesLemmas.{started}
use Rattle.vex_lines.proofs.emulate_lines.put_back.Given as goal

abbrev pub invariant-loop-i : goal.invariant-loop-i
invariant-loop-i l = l.machine ≡ started l.i
