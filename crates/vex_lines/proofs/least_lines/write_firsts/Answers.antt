use Rattle.std.proofs.Common.{◌≡◌, drop, take, length, ◌+◌, ◌∙◌, ap, refl, arith}
use Rattle.std.proofs.Math.Seq.{take-length}
use Rattle.std.proofs.lemmas.Result.{err_from_is_err_and}
use Rattle.x86_opcode.specs.declared.Opcode.TheVariants.{Invalid}
use Rattle.vex_lines.specs.LeastLines.{need_line}
use Rattle.vex_lines.proofs.EndsLemmas.{Writes-all, Writes-fault}
use Rattle.vex_lines.proofs.LeastLinesLemmas.{at-default}
use Rattle.vex_lines.proofs.WrittenLines.{Wrote-fault, Wrote-none, Wrote-step, split-item, take-item}
use Rattle.vex_lines.proofs.least_lines.write_firsts.Goals as goal

pub loop-first-init : goal.loop-first-init
loop-first-init g c = Wrote-none need_line _

pub returns-in_err-write_all : goal.returns-in_err-write_all
returns-in_err-write_all g c =
    let failed = err_from_is_err_and c.from_residual.result c.from_residual.ensures.1 in
    let list = c.args.firsts.now in
    let i = c.loop-first.first-index in
    let wrote = c.loop-first.invariant in
    let front = rw (c.as_bytes.ensures.value, c.as_str.ensures.value, c.need_text.ensures) at
    c.in_err-write_all.ensures.front in
    let at = at-default list i _ c.loop-first-test.true in
    Writes-fault _ failed.0 _ _ _ _ _ failed.1
    (Wrote-fault need_line list _ (drop (i + 1) list) _ _ _ _ wrote (split-item list i _ c.loop-first-test.true at)
    front)
    (rw wrote.quiet at c.in_err-write_all.ensures.cause)

pub loop-first-preserved : goal.loop-first-preserved
loop-first-preserved g c =
    let more = c.in_ok-write_all.ensures in
    let list = c.args.firsts.now in
    let i = c.loop-first.first-index in
    let written = rw (c.as_bytes.ensures.value, c.as_str.ensures.value, c.need_text.ensures) at more.appends in
    rw (take-item list i _ c.loop-first-test.true
    (at-default list i (record { bit = 0; place = 0; opcode = Invalid }) c.loop-first-test.true))
    (Wrote-step need_line _ _ _ _ _ c.loop-first.invariant written more.quiet)

pub returns : goal.returns
returns g c =
    let list = c.args.firsts.now in
    let i = c.loop-first.first-index in
    let ended : i ≡ length list = omega (arith, c.loop-first-test.false, c.loop-first.auto.first-index-end) in
    let all : take i list ≡ list = ap (λ n. take n list) ended ∙ take-length list in
    let wrote = c.loop-first.invariant in
    Writes-all _ tt _ _ _ _ _ refl (rw all at wrote.written) wrote.quiet
