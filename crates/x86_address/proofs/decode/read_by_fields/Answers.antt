use Rattle.std.proofs.Common.{◌≢◌, ◌⊎◌, inl, inr, ◌∙◌, ap, refl, rules, arith, ne_eqb, Some, FitsSigned, w32, to_z-of_z}
use Rattle.x86_address.proofs.Naming.{not_both, names_rip, names_based}
use Rattle.x86_address.specs.Follows.Lemmas.{follows_then, follows_ok, follows_false}
use Rattle.x86_address.proofs.decode.read_by_fields.Goals as goal

pub returns-then-rm-eq5 : goal.returns-then-rm-eq5
returns-then-rm-eq5 g c =
    let fits : FitsSigned w32 c.in_ok-disp.disp = search rules in
    rw (c.if-mode-eq0.true, c.if-rm-eq5.true)
    (follows_then _ _ c.in_ok-disp.ensures
    (λ n is. follows_ok (names_rip (ap Some c.instruction_pointer.ensures) refl (to_z-of_z fits ∙ is))))

pub returns : goal.returns
returns g c =
    let fits : FitsSigned w32 c.in_ok-disp-2.disp = search rules in
    let based : (c.args.mode ≢ 0) ⊎ (c.args.rm ≢ 5) =
    elim c.else-mode-eq0.either [ inl other ↦ inr other.1 | inr some ↦ inl some ] in
    let memory : c.args.mode ≢ 3 = omega arith in
    follows_false _ _ _ (ne_eqb c.args.mode 3 memory)
    (follows_false _ _ _ (ne_eqb c.args.rm 4 c.if-rm-eq4.false)
    (follows_false _ _ _ (not_both c.args.mode c.args.rm based)
    (follows_then _ _ c.in_ok-disp-2.ensures
    (λ d is. follows_ok (names_based (ap Some c.general.ensures) refl (to_z-of_z fits ∙ is))))))
