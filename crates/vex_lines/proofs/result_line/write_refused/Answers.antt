use Rattle.std.proofs.Common.{ap, ◌∙◌}
use Rattle.vex_lines.specs.ErrorLine.{error_line}
use Rattle.vex_lines.proofs.result_line.write_refused.Goals as goal

pub returns : goal.returns
returns g c =
    let piece = c.as_bytes.ensures.value ∙ c.as_str.ensures.value ∙ c.error_text.ensures ∙ ap error_line c.name.ensures in
    let written = rw piece at c.write_all.ensures in
    record { appends = written.appends; quiet = written.quiet; front = written.front; cause = written.cause }
