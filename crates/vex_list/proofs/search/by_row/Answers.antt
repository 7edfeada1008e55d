-- One more number, and all of them.
use Rattle.std.proofs.Common.{arith, sym, subst}
use Rattle.vex_list.specs.Next.{Covers}
use Rattle.vex_list.specs.Sets.{ByPrefix}
use Rattle.vex_list.proofs.Lists.{cover_empty, cover_none, cover_more, cover_to, cover_fewer, not_up}
use Rattle.vex_list.proofs.Sets.{by_all}
use Rattle.vex_list.proofs.search.by_row.Goals as goal
use Rattle.vex_list.proofs.search.by_row.Goals.{then-is_open, else-is_open}

pub loop-number-init : goal.loop-number-init
loop-number-init c = λ row is.
    cover_none c.args.wanted.now.instruction.now.meaning c.args.wanted.now.previous.now 0 _ c.args.nearest

pub loop-number-preserved : goal.loop-number-preserved
loop-number-preserved c = λ row is.
    let m = c.args.wanted.now.instruction.now.meaning in
    let previous = c.args.wanted.now.previous.now in
    let old = c.loop-number.nearest in
    let over = ByPrefix row m c.args.parts.now in
    let here : Covers m previous (over c.prefix_choice-choices.result) old c.if-is_open.nearest =
    elim c.if-is_open.branch [
      | then-is_open w ↦ subst (Covers m previous (over c.prefix_choice-choices.result) old) (sym w.nearest-is)
          (cover_fewer m previous _ _ _ _ (λ b t. t.1) (w.by_vvvv-nearest.ensures row is))
      | else-is_open w ↦ subst (Covers m previous (over c.prefix_choice-choices.result) old) (sym w.nearest-is)
          (cover_empty m previous _ old (λ b t. not_up _ (c.is_open.ensures.1 t.0) w.if-is_open.false))
    ] in
    cover_more m previous 0 c.loop-number.number _ _ _ _ (c.loop-number.invariant row is)
    (subst (λ choices. Covers m previous (over choices) old c.if-is_open.nearest) c.prefix_choice-choices.ensures.value
    here)

pub returns : goal.returns
returns c = λ row is_row is.
    let m = c.args.wanted.now.instruction.now.meaning in
    cover_fewer m c.args.wanted.now.previous.now _ _ _ _ (λ b. by_all row m c.args.parts.now is_row is b)
    (cover_to m c.args.wanted.now.previous.now 0 _ _ _ _ _ (omega arith) (c.loop-number.invariant row is))
