-- One more value, and all of them.
use Rattle.std.proofs.Common.{arith, sym, ◌∙◌}
use Rattle.vex_list.proofs.Lists.{cover_none, cover_more, cover_to, cover_fewer}
use Rattle.vex_list.proofs.Sets.{bytes_made}
use Rattle.vex_list.proofs.search.by_low.Goals as goal

pub loop-low-init : goal.loop-low-init
loop-low-init c = λ row is.
    cover_none c.args.wanted.now.instruction.now.meaning c.args.wanted.now.previous.now 0 _ c.args.nearest

pub loop-low-preserved : goal.loop-low-preserved
loop-low-preserved c = λ row is.
    let m = c.args.wanted.now.instruction.now.meaning in
    let previous = c.args.wanted.now.previous.now in
    cover_more m previous 0 c.loop-low.low _ _ _ _ (c.loop-low.invariant row is)
    (cover_fewer m previous _ _ _ _
    (λ s t. t ∙ sym (c.as_slice.ensures.value ∙ c.candidate-bytes.ensures
    ∙ bytes_made row m c.args.parts.now _ is)) c.nearer-nearest.ensures)

pub returns : goal.returns
returns c = λ row is.
    cover_to c.args.wanted.now.instruction.now.meaning c.args.wanted.now.previous.now 0 _ _ _ _ _ (omega arith)
    (c.loop-low.invariant row is)
