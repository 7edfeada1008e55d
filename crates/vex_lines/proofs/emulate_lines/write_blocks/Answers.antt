use Rattle.std.proofs.Common.{refl}
use Rattle.std.proofs.lemmas.Result.{err_from_is_err_and}
use Rattle.vex_lines.specs.EmulateLines.{numbers, block_line, block_lines}
use Rattle.vex_lines.proofs.EmulateLinesLemmas.{block-is, number-fault, number-written, numbers-written}
use Rattle.vex_lines.proofs.WrittenLines.{Wrote-none}
use Rattle.vex_lines.proofs.emulate_lines.write_blocks.Goals as goal

pub loop-b-init : goal.loop-b-init
unfolding numbers
loop-b-init g c = Wrote-none (block_line c.args.memory.now) _

pub returns-in_err-write_changed : goal.returns-in_err-write_changed
unfolding block_lines
returns-in_err-write_changed g c =
    let failed = err_from_is_err_and c.from_residual.result c.from_residual.ensures.1 in
    let memory = c.args.memory.now in
    let b = c.loop-b.b in
    let line =
    block-is memory b c.block_at.result.now c.part-start.result.now c.loop-b-test.true c.block_at.ensures.is
    c.part-start.ensures in
    number-fault (block_line memory) 32 b _ _ c.loop-b.invariant _ failed.0 (record { text = _; faults = _ }) failed.1
    c.loop-b-test.true (rw line at c.in_err-write_changed.ensures.front) c.in_err-write_changed.ensures.cause

pub loop-b-preserved : goal.loop-b-preserved
loop-b-preserved g c =
    let memory = c.args.memory.now in
    let b = c.loop-b.b in
    let line =
    block-is memory b c.block_at.result.now c.part-start.result.now c.loop-b-test.true c.block_at.ensures.is
    c.part-start.ensures in
    let more = c.in_ok-write_changed.ensures in
    number-written (block_line memory) 32 b _ _ c.loop-b.invariant _ c.loop-b-test.true (rw line at more.appends)
    more.quiet

pub returns : goal.returns
unfolding block_lines
returns g c =
    numbers-written (block_line c.args.memory.now) 32 c.loop-b.b _ _ c.loop-b.invariant _ tt refl
    c.loop-b-test.false c.loop-b.auto.b-end
