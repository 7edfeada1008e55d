use Rattle.std.proofs.Common.{◌≡◌, ◌∙◌}
use Rattle.std.proofs.lemmas.Result.{err_from_is_err_and}
use Rattle.vex_lines.specs.EmulateLines.{ran_line}
use Rattle.vex_lines.proofs.EmulateLinesLemmas.{emulated}
use Rattle.vex_lines.specs.Ends.Lemmas.{Appends-then, AppendsFront-more, AppendsFront-then}
use Rattle.vex_lines.proofs.EndsLemmas.{Writes-fault, Writes-then}
use Rattle.vex_lines.proofs.emulate_lines.write_emulated.Goals as goal

pub returns-in_err-write_vectors : goal.returns-in_err-write_vectors
returns-in_err-write_vectors g c =
    let failed = err_from_is_err_and c.from_residual.result c.from_residual.ensures.1 in
    let whole =
    emulated c.args.settings.now c.args.code.now c.run-answer.new.self c.machine.inside.machine c.run-answer.result
    c.run-answer.ensures c.machine.view_is in
    let vectors = c.in_err-write_vectors.ensures in
    rw whole
    (Writes-fault _ failed.0 _ _ _ _ _ failed.1 (AppendsFront-more _ _ _ _ (AppendsFront-more _ _ _ _ vectors.front))
    vectors.cause)

pub returns-in_err-write_blocks : goal.returns-in_err-write_blocks
returns-in_err-write_blocks g c =
    let failed = err_from_is_err_and c.from_residual-in_err-write_blocks.result
    c.from_residual-in_err-write_blocks.ensures.1 in
    let whole =
    emulated c.args.settings.now c.args.code.now c.run-answer.new.self c.machine.inside.machine c.run-answer.result
    c.run-answer.ensures c.machine.view_is in
    let vectors = c.in_ok-write_vectors.ensures in
    let front = rw c.memory.ensures at c.in_err-write_blocks.ensures.front in
    rw whole
    (Writes-fault _ failed.0 _ _ _ _ _ failed.1
    (AppendsFront-more _ _ _ _ (AppendsFront-then _ _ _ _ _ vectors.appends front))
    (rw vectors.quiet at c.in_err-write_blocks.ensures.cause))

pub returns : goal.returns
returns g c =
    let whole =
    emulated c.args.settings.now c.args.code.now c.run-answer.new.self c.machine.inside.machine c.run-answer.result
    c.run-answer.ensures c.machine.view_is in
    let vectors = c.in_ok-write_vectors.ensures in
    let blocks = c.in_ok-write_blocks.ensures in
    let appended = rw c.memory.ensures at blocks.appends in
    let piece : c.as_bytes.result.now ≡ ran_line c.run-answer.result =
    c.as_bytes.ensures.value ∙ c.as_str.ensures.value ∙ c.ran_text.ensures in
    let written = rw piece at c.write_all.ensures in
    rw whole
    (Writes-then _ _ _ _ _ _ _ _ _ (Appends-then _ _ _ _ _ vectors.appends appended) (blocks.quiet ∙ vectors.quiet)
    (record { appends = written.appends; quiet = written.quiet; front = written.front; cause = written.cause }))
