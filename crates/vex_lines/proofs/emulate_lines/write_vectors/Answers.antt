use Rattle.std.proofs.Common.{refl}
use Rattle.std.proofs.lemmas.Result.{err_from_is_err_and}
use Rattle.vex_lines.specs.EmulateLines.{numbers, vector_line, vector_lines}
use Rattle.vex_lines.proofs.EmulateLinesLemmas.{vector-is, number-fault, number-written, numbers-written}
use Rattle.vex_lines.proofs.WrittenLines.{Wrote-none}
use Rattle.vex_lines.proofs.emulate_lines.write_vectors.Goals as goal

pub loop-i-init : goal.loop-i-init
unfolding numbers
loop-i-init g c = Wrote-none (vector_line c.args.machine.now.vectors) _

pub returns-in_err-write_changed : goal.returns-in_err-write_changed
unfolding vector_lines
returns-in_err-write_changed g c =
    let failed = err_from_is_err_and c.from_residual.result c.from_residual.ensures.1 in
    let vs = c.args.machine.now.vectors in
    let i = c.loop-i.i in
    let line =
    vector-is vs i c.from-number.result c.vector.result.now c.start_vector.result.now c.from-number.ensures
    c.vector.ensures c.start_vector.ensures in
    number-fault (vector_line vs) 16 i _ _ c.loop-i.invariant _ failed.0 (record { text = _; faults = _ }) failed.1
    c.loop-i-test.true (rw line at c.in_err-write_changed.ensures.front) c.in_err-write_changed.ensures.cause

pub loop-i-preserved : goal.loop-i-preserved
loop-i-preserved g c =
    let vs = c.args.machine.now.vectors in
    let i = c.loop-i.i in
    let line =
    vector-is vs i c.from-number.result c.vector.result.now c.start_vector.result.now c.from-number.ensures
    c.vector.ensures c.start_vector.ensures in
    let more = c.in_ok-write_changed.ensures in
    number-written (vector_line vs) 16 i _ _ c.loop-i.invariant _ c.loop-i-test.true (rw line at more.appends)
    more.quiet

pub returns : goal.returns
unfolding vector_lines
returns g c =
    numbers-written (vector_line c.args.machine.now.vectors) 16 c.loop-i.i _ _ c.loop-i.invariant _ tt refl
    c.loop-i-test.false c.loop-i.auto.i-end
