use Rattle.std.proofs.Common.{◌≡◌, ◌∙◌, refl, sym}
use Rattle.vex_lines.specs.EmulateLines.{changed_line}
use Rattle.vex_lines.proofs.EmulateLinesLemmas.{changed, changed-not}
use Rattle.vex_lines.specs.Ends.Lemmas.{Appends-none}
use Rattle.vex_lines.proofs.EndsLemmas.{Writes-all}
use Rattle.vex_lines.proofs.emulate_lines.write_changed.Goals as goal

pub returns-then-eq : goal.returns-then-eq
returns-then-eq g c =
    rw (changed-not c.args.letter.now c.args.number c.args.bytes.now c.args.first.now (sym c.eq.ensures ∙ c.if-eq.true))
    (Writes-all _ tt _ _ _ _ _ refl (Appends-none _) refl)

pub returns : goal.returns
returns g c =
    let piece : c.as_bytes.result.now ≡ changed_line c.args.letter.now c.args.number c.args.bytes.now c.args.first.now =
    c.as_bytes.ensures.value ∙ c.as_str.ensures.value ∙ c.changed_text.ensures
    ∙ sym (changed c.args.letter.now c.args.number c.args.bytes.now c.args.first.now
    (sym c.eq.ensures ∙ c.if-eq.false)) in
    let written = rw piece at c.write_all.ensures in
    record { appends = written.appends; quiet = written.quiet; front = written.front; cause = written.cause }
