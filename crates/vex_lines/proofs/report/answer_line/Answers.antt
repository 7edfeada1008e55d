use Rattle.std.proofs.Common.{arith}
use Rattle.vex_lines.proofs.ReportLemmas.{line_report-long}
use Rattle.vex_lines.proofs.report.answer_line.Goals as goal

pub returns-then-line-gt-MAX_LINE : goal.returns-then-line-gt-MAX_LINE
returns-then-line-gt-MAX_LINE g c =
    rw (line_report-long c.args.command.now c.args.line.now (omega (arith, c.if-line-gt-MAX_LINE.true)))
    c.write_error.ensures
