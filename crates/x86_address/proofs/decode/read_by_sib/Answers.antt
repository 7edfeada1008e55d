use Rattle.std.proofs.Common.{◌≢◌, ◌⊎◌, inl, inr, ◌%◌, ◌∙◌, ap, refl, rules, Some, FitsSigned, w32, to_z-of_z}
use Rattle.x86_address.proofs.Naming.{not_both, names_scaled, names_baseless}
use Rattle.x86_address.specs.Follows.Lemmas.{follows_seen, follows_then, fails_first, follows_ok}
use Rattle.x86_address.proofs.decode.read_by_sib.Goals.{else-mode-eq0-via-then-mode-eq0+else-sib-eq5}
use Rattle.x86_address.proofs.decode.read_by_sib.Goals.{else-mode-eq0-via-else-mode-eq0}
use Rattle.x86_address.proofs.decode.read_by_sib.Goals as goal

pub returns-in_err-disp : goal.returns-in_err-disp
returns-in_err-disp g c =
    follows_seen _ _ c.in_ok-sib.ensures (rw (c.if-mode-eq0.true, c.if-sib-eq5.true)
    (fails_first _ _ c.from_residual-in_err-disp.ensures c.in_err-disp.ensures))

pub returns-then-sib-eq5 : goal.returns-then-sib-eq5
returns-then-sib-eq5 g c =
    let fits : FitsSigned w32 c.in_ok-disp.disp = search rules in
    follows_seen _ _ c.in_ok-sib.ensures (rw (c.if-mode-eq0.true, c.if-sib-eq5.true)
    (follows_then _ _ c.in_ok-disp.ensures
    (λ n is. follows_ok (names_baseless refl c.index_of-index.ensures (to_z-of_z fits ∙ is)))))

pub returns-in_err-disp-2 : goal.returns-in_err-disp-2
returns-in_err-disp-2 g c =
    let based : (c.args.mode ≢ 0) ⊎ (c.in_ok-sib.sib % 8 ≢ 5) = elim c.else-mode-eq0.branch [
      | else-mode-eq0-via-then-mode-eq0+else-sib-eq5 w ↦ inr w.if-sib-eq5.false
      | else-mode-eq0-via-else-mode-eq0 w ↦ inl w.if-mode-eq0.false
    ] in
    follows_seen _ _ c.in_ok-sib.ensures (rw (not_both c.args.mode (c.in_ok-sib.sib % 8) based)
    (fails_first _ _ c.from_residual-in_err-disp-2.ensures c.in_err-disp-2.ensures))

pub returns : goal.returns
returns g c =
    let fits : FitsSigned w32 c.in_ok-disp-2.disp = search rules in
    let based : (c.args.mode ≢ 0) ⊎ (c.in_ok-sib.sib % 8 ≢ 5) = elim c.else-mode-eq0.branch [
      | else-mode-eq0-via-then-mode-eq0+else-sib-eq5 w ↦ inr w.if-sib-eq5.false
      | else-mode-eq0-via-else-mode-eq0 w ↦ inl w.if-mode-eq0.false
    ] in
    follows_seen _ _ c.in_ok-sib.ensures (rw (not_both c.args.mode (c.in_ok-sib.sib % 8) based)
    (follows_then _ _ c.in_ok-disp-2.ensures
    (λ d is. follows_ok (names_scaled (ap Some c.general.ensures) c.index_of-index.ensures (to_z-of_z fits ∙ is)))))
