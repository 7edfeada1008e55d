-- No row of a greater field was found.
use Rattle.std.proofs.Common.{◌≡◌, ◌-◌}
use Rattle.vex_lines.specs.Generator.{greatest}
use Rattle.vex_lines.proofs.generator.greatest_row.Given as goal

abbrev pub invariant-loop-above : goal.invariant-loop-above
invariant-loop-above l = greatest l.entry l.w l.l l.memory 8 ≡ greatest l.entry l.w l.l l.memory (8 - l.above)
