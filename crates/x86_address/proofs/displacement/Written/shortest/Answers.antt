use Rattle.std.proofs.Common.{rules, ◌≡◌, ◌≢◌, ◌⊎◌, pos, true, FitsSigned, w8, w32, of_z, to_z, to_z-of_z, ap, ◌∙◌, subst}
use Rattle.std.specs.Prelude.{int_div, int_rem}
use Rattle.x86_address.specs.Bytes.{Short, Long}
use Rattle.x86_address.specs.Shortest.{doubleword_of}
use Rattle.x86_address.proofs.Units.{quotient_fits, short_is, long_is}
use Rattle.x86_address.proofs.displacement.Written.shortest.Goals as goal

pub returns-in-Ok : goal.returns-in-Ok
returns-in-Ok c =
    let fits : FitsSigned w32 c.args.value = search rules in
    let unit_fits : FitsSigned w32 c.from-unit.result = search rules in
    let quotient : FitsSigned w32 (int_div c.args.value c.from-unit.result) =
    rw c.from-unit.ensures (quotient_fits c.args.value c.requires fits) in
    let some : (c.args.value ≢ pos 0) ⊎ (c.args.must ≡ true) = search rules in
    let rest : of_z w32 (int_rem c.args.value c.from-unit.result) ≡ 0 = simp to_z-of_z at c.if-value-unit-ne0.false in
    let small : FitsSigned w8 (int_div c.args.value c.from-unit.result) = simp to_z-of_z at c.in-Ok.ensures.0 in
    let count : c.in-Ok.count ≡ int_div c.args.value c.from-unit.result = simp to_z-of_z at c.in-Ok.ensures.1 in
    ap (λ n. Short (of_z w8 n)) (ap (λ n. to_z w8 (of_z w8 n)) (count ∙ ap (int_div c.args.value) c.from-unit.ensures)
    ∙ to_z-of_z (subst (λ u. FitsSigned w8 (int_div c.args.value u)) c.from-unit.ensures small))
    ∙ short_is c.args.must c.args.value c.requires some
    (subst (λ u. of_z w32 (int_rem c.args.value u) ≡ 0) c.from-unit.ensures rest)
    (subst (λ u. FitsSigned w8 (int_div c.args.value u)) c.from-unit.ensures small)

pub returns-in-Err : goal.returns-in-Err
returns-in-Err c =
    let fits : FitsSigned w32 c.args.value = search rules in
    let unit_fits : FitsSigned w32 c.from-unit.result = search rules in
    let quotient : FitsSigned w32 (int_div c.args.value c.from-unit.result) =
    rw c.from-unit.ensures (quotient_fits c.args.value c.requires fits) in
    let some : (c.args.value ≢ pos 0) ⊎ (c.args.must ≡ true) = search rules in
    let great : FitsSigned w8 (int_div c.args.value c.from-unit.result) → ⊥ = simp to_z-of_z at c.in-Err.ensures in
    ap (λ z. Long (doubleword_of z)) (to_z-of_z fits) ∙ long_is c.args.must c.args.value c.requires some
    (subst (λ u. FitsSigned w8 (int_div c.args.value u) → ⊥) c.from-unit.ensures great)
