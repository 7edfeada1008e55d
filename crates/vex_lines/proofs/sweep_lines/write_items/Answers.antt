use Rattle.std.proofs.Common.{◌≡◌, drop, take, length, ◌+◌, ◌∙◌, ap, refl, arith}
use Rattle.std.proofs.Math.Seq.{take-length}
use Rattle.std.proofs.lemmas.Result.{err_from_is_err_and}
use Rattle.vex_lines.proofs.EndsLemmas.{Writes-all, Writes-fault}
use Rattle.vex_lines.proofs.WrittenLines.{Wrote-fault, Wrote-none, Wrote-step, split-item, take-item}
use Rattle.vex_lines.proofs.SweepLinesLemmas.{seen_line, seen_lines}
use Rattle.vex_lines.proofs.sweep_lines.write_items.Goals as goal

pub loop-item-init : goal.loop-item-init
loop-item-init g c = Wrote-none seen_line _

pub returns-in_err-write_all : goal.returns-in_err-write_all
returns-in_err-write_all g c =
    let failed = err_from_is_err_and c.from_residual.result c.from_residual.ensures.1 in
    let list = c.as_slice-list.result.now in
    let i = c.loop-item.item-index in
    let wrote = c.loop-item.invariant in
    let front = rw (c.as_bytes.ensures.value, c.as_str.ensures.value, c.item_text.ensures) at
    c.in_err-write_all.ensures.front in
    rw (← c.as_slice-list.ensures, ← seen_lines list)
    (Writes-fault _ failed.0 _ _ _ _ _ failed.1
    (Wrote-fault seen_line list _ (drop (i + 1) list) _ _ _ _ wrote
    (split-item list i _ c.loop-item-test.true c.item-item.is) front)
    (rw wrote.quiet at c.in_err-write_all.ensures.cause))

pub loop-item-preserved : goal.loop-item-preserved
loop-item-preserved g c =
    let more = c.in_ok-write_all.ensures in
    let written = rw (c.as_bytes.ensures.value, c.as_str.ensures.value, c.item_text.ensures) at more.appends in
    rw (take-item c.as_slice-list.result.now c.loop-item.item-index _ c.loop-item-test.true c.item-item.is)
    (Wrote-step seen_line _ _ _ _ _ c.loop-item.invariant written more.quiet)

pub returns : goal.returns
returns g c =
    let list = c.as_slice-list.result.now in
    let i = c.loop-item.item-index in
    let ended : i ≡ length list = omega (arith, c.loop-item-test.false, c.loop-item.auto.item-index-end) in
    let all : take i list ≡ list = ap (λ n. take n list) ended ∙ take-length list in
    let wrote = c.loop-item.invariant in
    rw (← c.as_slice-list.ensures, ← seen_lines list)
    (Writes-all _ tt _ _ _ _ _ refl (rw all at wrote.written) wrote.quiet)
