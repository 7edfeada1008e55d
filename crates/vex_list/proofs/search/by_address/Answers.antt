-- One more form, and all of them.
use Rattle.std.proofs.Common.{arith, subst}
use Rattle.vex_list.specs.Next.{Covers}
use Rattle.vex_list.specs.Sets.{ByLow, with_address}
use Rattle.vex_list.proofs.Lists.{cover_none, cover_more, cover_to, cover_fewer}
use Rattle.vex_list.proofs.Sets.{by_forms}
use Rattle.vex_list.proofs.search.by_address.Goals as goal

pub loop-number-init : goal.loop-number-init
loop-number-init c = λ row is.
    cover_none c.args.wanted.now.instruction.now.meaning c.args.wanted.now.previous.now 0 _ c.args.nearest

pub loop-number-preserved : goal.loop-number-preserved
loop-number-preserved c = λ row is.
    let m = c.args.wanted.now.instruction.now.meaning in
    cover_more m c.args.wanted.now.previous.now 0 c.loop-number.number _ _ _ _ (c.loop-number.invariant row is)
    (subst (λ form. Covers m c.args.wanted.now.previous.now
    (ByLow row m c.args.parts.now (with_address c.args.choices form)) c.loop-number.nearest c.by_low-nearest.result)
    c.address_form-address.ensures.value (c.by_low-nearest.ensures row is))

pub returns : goal.returns
returns c = λ row is.
    let m = c.args.wanted.now.instruction.now.meaning in
    cover_fewer m c.args.wanted.now.previous.now _ _ _ _ (λ b. by_forms row m c.args.parts.now c.args.choices b)
    (cover_to m c.args.wanted.now.previous.now 0 _ _ _ _ _ (omega arith) (c.loop-number.invariant row is))
