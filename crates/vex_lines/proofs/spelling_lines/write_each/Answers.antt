use Rattle.std.proofs.Common.{◌≡◌, ◌∙◌, ap, refl, sym}
use Rattle.std.proofs.lemmas.Result.{err_from_is_err_and}
use Rattle.vex_list.specs.AllSpellings.{spellings_after, spellings_from}
use Rattle.vex_lines.proofs.EndsLemmas.{Writes-all, Writes-fault}
use Rattle.vex_lines.proofs.SpellingLinesLemmas.{fewer-left, up_to-end, up_to-fault, up_to-first, up_to-more}
use Rattle.vex_lines.proofs.spelling_lines.write_each.Goals as goal

pub loop-next-init : goal.loop-next-init
loop-next-init g c = up_to-first c.args.instruction.now.meaning c.first_spelling-next.result _
    c.first_spelling-next.ensures.listed

pub returns-in_err-write_all : goal.returns-in_err-write_all
returns-in_err-write_all g c =
    let failed = err_from_is_err_and c.from_residual.result c.from_residual.ensures.1 in
    let up_to = c.loop-next.invariant in
    let front = rw (c.as_bytes.ensures.value, c.as_str.ensures.value, c.bytes_text.ensures) at
    c.in_err-write_all.ensures.front in
    Writes-fault _ failed.0 _ _ _ _ _ failed.1 (up_to-fault _ _ _ _ _ _ up_to c.in-Some.is front)
    (rw up_to.wrote.quiet at c.in_err-write_all.ensures.cause)

pub loop-next-smaller : goal.loop-next-smaller
loop-next-smaller g c =
    let m = c.args.instruction.now.meaning in
    let following : spellings_after m c.in-Some.spelling ≡ spellings_from m c.spelling_after-next.result =
    ap (spellings_after m) (sym c.as_slice.ensures.bytes) ∙ c.spelling_after-next.ensures.listed in
    fewer-left m c.loop-next.next c.spelling_after-next.result c.in-Some.spelling c.in-Some.is following

pub loop-next-preserved : goal.loop-next-preserved
loop-next-preserved g c =
    let m = c.args.instruction.now.meaning in
    let following : spellings_after m c.in-Some.spelling ≡ spellings_from m c.spelling_after-next.result =
    ap (spellings_after m) (sym c.as_slice.ensures.bytes) ∙ c.spelling_after-next.ensures.listed in
    let more = c.in_ok-write_all.ensures in
    let written = rw (c.as_bytes.ensures.value, c.as_str.ensures.value, c.bytes_text.ensures) at more.appends in
    up_to-more m c.loop-next.next c.spelling_after-next.result c.in-Some.spelling _ _ _ c.loop-next.invariant
    c.in-Some.is following written more.quiet

pub returns : goal.returns
returns g c =
    let up_to = c.loop-next.invariant in
    Writes-all _ tt _ _ _ _ _ refl (up_to-end c.args.instruction.now.meaning c.loop-next.next _ _ up_to
    c.in_default.is) up_to.wrote.quiet
