-- A test of the order tells of the opposite order.
use Rattle.std.specs.Prelude.{◌↔◌, IsTrue, not}
use Rattle.std.proofs.Common.{sym, subst}
use Rattle.vex_list.specs.Order.{AtMost, UpTo}
use Rattle.vex_list.proofs.Lists.{not_before, before_not, told}
use Rattle.vex_list.proofs.nearest.is_at_most.Goals as goal

pub returns-in-Some : goal.returns-in-Some
returns-in-Some c =
    let here = told c.is_before.result _ _ c.is_before.ensures (not_before c.as_slice.result.now c.args.bytes.now)
    (before_not c.as_slice.result.now c.args.bytes.now) in
    subst (λ nearest. IsTrue (not c.is_before.result) ↔ AtMost nearest c.args.bytes.now) (sym c.in-Some.is)
    (subst (λ a. IsTrue (not c.is_before.result) ↔ UpTo a c.args.bytes.now) c.as_slice.ensures.bytes here)
