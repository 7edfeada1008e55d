use Rattle.std.proofs.Common.{◌≡◌, ◌∙◌, ◌++◌, refl, sym}
use Rattle.std.specs.Prelude.{flat_map}
use Rattle.std.proofs.lemmas.Result.{err_from_is_err_and}
use Rattle.vex_lines.specs.LeastLines.{least_lines, need_line, profiles_line}
use Rattle.vex_lines.specs.Ends.Lemmas.{AppendsFront-more}
use Rattle.vex_lines.proofs.EndsLemmas.{Writes-fault, Writes-then}
use Rattle.vex_lines.proofs.LeastLinesLemmas.{lines-needed, lines-stopped}
use Rattle.vex_lines.proofs.least_lines.write_least.Goals as goal

pub returns-in_err-write_firsts-in-Ok : goal.returns-in_err-write_firsts-in-Ok
returns-in_err-write_firsts-in-Ok g c =
    let failed = err_from_is_err_and c.from_residual.result c.from_residual.ensures.1 in
    let is = c.in-Ok.ensures in
    let whole : least_lines c.args.bytes.now
    ≡ flat_map need_line c.as_slice.result.now ++ profiles_line c.in-Ok.needs.least =
    lines-needed c.args.bytes.now c.as_slice.result.now c.in-Ok.needs.least (is.sound refl)
    (c.as_slice.ensures.value ∙ is.firsts) is.least in
    rw whole
    (Writes-fault _ failed.0 _ _ _ _ _ failed.1 (AppendsFront-more _ _ _ _ c.in_err-write_firsts-in-Ok.ensures.front)
    c.in_err-write_firsts-in-Ok.ensures.cause)

pub returns-in_ok-write_firsts-in-Ok : goal.returns-in_ok-write_firsts-in-Ok
returns-in_ok-write_firsts-in-Ok g c =
    let is = c.in-Ok.ensures in
    let whole : least_lines c.args.bytes.now
    ≡ flat_map need_line c.as_slice.result.now ++ profiles_line c.in-Ok.needs.least =
    lines-needed c.args.bytes.now c.as_slice.result.now c.in-Ok.needs.least (is.sound refl)
    (c.as_slice.ensures.value ∙ is.firsts) is.least in
    rw whole
    (Writes-then _ _ _ _ _ _ _ _ _ c.in_ok-write_firsts-in-Ok.ensures.appends c.in_ok-write_firsts-in-Ok.ensures.quiet
    c.write_profiles.ensures)

pub returns-in-Err : goal.returns-in-Err
returns-in-Err g c =
    let piece : c.as_bytes.result.now ≡ least_lines c.args.bytes.now =
    c.as_bytes.ensures.value ∙ c.as_str.ensures.value ∙ c.fault_text.ensures
    ∙ sym (lines-stopped c.args.bytes.now c.in-Err.fault c.in-Err.ensures.fault) in
    let written = rw piece at c.write_all.ensures in
    record { appends = written.appends; quiet = written.quiet; front = written.front; cause = written.cause }
