use Rattle.std.proofs.Common.{◌∙◌, ap}
use Rattle.vex_lines.specs.ErrorLine.{error_line}
use Rattle.vex_lines.proofs.SpellingLinesLemmas.{spellings-are}
use Rattle.vex_lines.proofs.spelling_lines.write_spellings.Goals as goal

pub returns-in-Ok : goal.returns-in-Ok
returns-in-Ok g c = rw (spellings-are _ _ _ c.in-Ok.ensures.answer) c.write_all_spellings.ensures

pub returns-in-Err : goal.returns-in-Err
returns-in-Err g c =
    let piece = c.as_bytes.ensures.value ∙ c.as_str.ensures.value ∙ c.error_text.ensures
    ∙ ap error_line c.name.ensures in
    let written = rw piece at c.write_all.ensures in
    rw (spellings-are _ _ _ c.in-Err.ensures.answer)
    (record { appends = written.appends; quiet = written.quiet; front = written.front; cause = written.cause })
