-- One more value, and all of them.
use Rattle.std.proofs.Common.{arith}
use Rattle.vex_list.proofs.Lists.{cover_none, cover_more, cover_to, cover_fewer}
use Rattle.vex_list.proofs.Sets.{by_inverted}
use Rattle.vex_list.proofs.search.by_vvvv.Goals as goal

pub loop-inverted-init : goal.loop-inverted-init
loop-inverted-init c = λ row is.
    cover_none c.args.wanted.now.instruction.now.meaning c.args.wanted.now.previous.now _ _ c.args.nearest

pub loop-inverted-preserved : goal.loop-inverted-preserved
loop-inverted-preserved c = λ row is.
    cover_more c.args.wanted.now.instruction.now.meaning c.args.wanted.now.previous.now _
    c.loop-inverted.inverted _ _ _ _ (c.loop-inverted.invariant row is) (c.by_address-nearest.ensures row is)

pub returns : goal.returns
returns c = λ row is.
    let m = c.args.wanted.now.instruction.now.meaning in
    cover_fewer m c.args.wanted.now.previous.now _ _ _ _
    (λ b. by_inverted row m c.args.parts.now c.args.choices _ _ c.inverted_vvvv-first.ensures.all b)
    (cover_to m c.args.wanted.now.previous.now _ _ _ _ _ _ (omega arith) (c.loop-inverted.invariant row is))
