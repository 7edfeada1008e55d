-- One more choice, and all of them.
use Rattle.std.proofs.Common.{arith}
use Rattle.vex_list.proofs.Lists.{cover_none, cover_more, cover_to, cover_fewer}
use Rattle.vex_list.proofs.Table.{by_numbers}
use Rattle.vex_list.proofs.rows.by_entry.Goals as goal

pub loop-number-init : goal.loop-number-init
loop-number-init c =
    cover_none c.args.wanted.now.instruction.now.meaning c.args.wanted.now.previous.now 0 _ c.args.nearest

pub loop-number-preserved : goal.loop-number-preserved
loop-number-preserved c =
    cover_more c.args.wanted.now.instruction.now.meaning c.args.wanted.now.previous.now 0 c.loop-number.number _ _ _ _
    c.loop-number.invariant c.by_choice-nearest.ensures

pub returns : goal.returns
returns c =
    let m = c.args.wanted.now.instruction.now.meaning in
    cover_fewer m c.args.wanted.now.previous.now _ _ _ _ (λ b. by_numbers m c.args.entry.now b)
    (cover_to m c.args.wanted.now.previous.now 0 _ _ _ _ _ (omega (arith, c.row_choices-number-end.ensures))
    c.loop-number.invariant)
