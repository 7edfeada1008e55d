use Rattle.std.proofs.Common.{◌≡◌, ◌≤◌, length, take}
use Rattle.vex_lines.specs.Report.{digits}
use Rattle.vex_lines.proofs.report.keep_digits.Given as goal

abbrev pub invariant-loop-byte : goal.invariant-loop-byte
invariant-loop-byte l =
    (l.kept.items ≡ digits (take l.byte-index l.line)) × (length l.kept.items ≤ l.byte-index)
