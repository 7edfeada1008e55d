use Rattle.std.proofs.Common.{◌≡◌, [], Some, ap, ◌∙◌, rules, arith}
use Rattle.vex_lines.specs.Internal.LineMachine.{appended}
use Rattle.vex_lines.proofs.LineMachineLemmas.{appended_short}
use Rattle.vex_lines.proofs.line_buffer.end_line.Goals as goal

pub returns-then-bytes-le-MAX_LINE-clause-written : goal.returns-then-bytes-le-MAX_LINE-clause-written
returns-then-bytes-le-MAX_LINE-clause-written g c =
    let empty = c.if-is_empty.ensures in
    let whole : appended c.args.line.now c.args.bytes.now ≡ Some c.args.bytes.now =
    ap (λ k. appended k c.args.bytes.now) (empty.0 (search rules))
    ∙ appended_short [] c.args.bytes.now (omega (arith, c.if-bytes-le-MAX_LINE.true)) in
    rw whole c.write_report.ensures
