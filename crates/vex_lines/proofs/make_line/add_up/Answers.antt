use Rattle.std.proofs.Common.{refl}
use Rattle.vex_lines.proofs.GeneratorLemmas.{totals-none}
use Rattle.vex_lines.proofs.make_line.add_up.Goals as goal

pub loop-i-init : goal.loop-i-init
loop-i-init c = totals-none _ refl refl refl refl
