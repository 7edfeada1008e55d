use Rattle.std.proofs.Common.{sym, ◌∙◌, ap, [], ◌++◌, map, take, drop, get_or, slice_set, add-one}
use Rattle.vex_emul.specs.Work.{upper_cleared}
use Rattle.vex_emul.proofs.InPlace.{advance}
use Rattle.vex_emul.proofs.machine.clear_uppers.Goals as goal

pub loop-vector-preserved : goal.loop-vector-preserved
loop-vector-preserved c =
    let at = c.loop-vector.vector-index in
    let start = c.args.vectors.now in
    ap (λ v. slice_set c.loop-vector.vectors at v) c.upper_cleared.ensures
    ∙ ap (λ l. slice_set l at (upper_cleared (get_or l at []))) c.loop-vector.invariant
    ∙ advance upper_cleared at start [] c.loop-vector-test.true
    ∙ ap (λ n. map upper_cleared (take n start) ++ drop n start) (sym (add-one at))
