use Rattle.std.proofs.Common.{◌∙◌, sym, ap, List, [], Option, ℕ}
use Rattle.std.specs.Prelude.{unwrap_or}
use Rattle.vex_lines.specs.ResultLine.{instruction_line}
use Rattle.vex_lines.proofs.result_line.write_instruction.Goals as goal

pub returns : goal.returns
returns g c =
    let instruction = c.args.instruction.now in
    let canonical = ap (λ (o : Option (List ℕ)). instruction_line instruction.len instruction.meaning (unwrap_or o []))
    c.canonical_bytes-spelling.ensures in
    let piece = c.as_bytes.ensures.value ∙ c.as_str.ensures.value ∙ c.instruction_text.ensures ∙ sym canonical in
    let written = rw piece at c.write_all.ensures in
    record { appends = written.appends; quiet = written.quiet; front = written.front; cause = written.cause }
