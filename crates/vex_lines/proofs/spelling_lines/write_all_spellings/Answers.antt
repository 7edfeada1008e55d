use Rattle.vex_lines.proofs.EndsLemmas.{Writes-then}
use Rattle.vex_lines.proofs.spelling_lines.write_all_spellings.Goals as goal

pub returns : goal.returns
returns g c =
    let each = c.in_ok-write_each.ensures in
    let end = c.write_all.ensures in
    Writes-then _ _ _ _ _ _ _ _ _ each.appends each.quiet
    (record { appends = end.appends; quiet = end.quiet; front = end.front; cause = end.cause })
