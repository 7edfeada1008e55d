use Rattle.std.proofs.Common.{sym, ◌∙◌, ap, ℕ, List, [], ◌++◌, map, take, drop, replicate, slice_set, add-one}
use Rattle.vex_emul.proofs.InPlace.{advance}
use Rattle.vex_emul.proofs.machine.clear_all.Goals as goal

pub loop-vector-preserved : goal.loop-vector-preserved
loop-vector-preserved c =
    let at = c.loop-vector.vector-index in
    let start = c.args.vectors.now in
    let zeros : List ℕ → List ℕ = λ v. replicate 32 0 in
    ap (λ l. slice_set l at (replicate 32 0)) c.loop-vector.invariant
    ∙ advance zeros at start [] c.loop-vector-test.true
    ∙ ap (λ n. map zeros (take n start) ++ drop n start) (sym (add-one at))
