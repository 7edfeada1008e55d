use Rattle.std.proofs.Common.{refl}
use Rattle.x86_address.specs.Follows.Lemmas.{follows_seen, follows_then, follows_checked, fails_first, follows_ok}
use Rattle.x86_address.specs.Follows.Lemmas.{follows_decided}
use Rattle.vex_forms.proofs.reading.read_from_modrm.Goals as goal

pub returns-in_err-e : goal.returns-in_err-e
returns-in_err-e g c = follows_seen _ _ c.in_ok-modrm.ensures.follows
    (rw (← c.of_modrm-kind.ensures.kind) (follows_checked _ _ c.in_ok-do_checks.ensures
    (fails_first _ _ c.from_residual-in_err-e.ensures c.in_err-e.ensures)))

pub returns-in_err-do_checks-2 : goal.returns-in_err-do_checks-2
returns-in_err-do_checks-2 g c = follows_seen _ _ c.in_ok-modrm.ensures.follows
    (rw (← c.of_modrm-kind.ensures.kind) (follows_checked _ _ c.in_ok-do_checks.ensures
    (follows_then _ _ c.in_ok-e.ensures (λ place is. fails_first _ _ c.from_residual-in_err-do_checks-2.ensures
    (follows_decided _ c.in_err-do_checks-2.ensures)))))

pub returns-in_err-imm : goal.returns-in_err-imm
returns-in_err-imm g c = follows_seen _ _ c.in_ok-modrm.ensures.follows
    (rw (← c.of_modrm-kind.ensures.kind) (follows_checked _ _ c.in_ok-do_checks.ensures
    (follows_then _ _ c.in_ok-e.ensures (λ place is. follows_checked _ _ c.in_ok-do_checks-2.ensures
    (fails_first _ _ c.from_residual-in_err-imm.ensures c.in_err-imm.ensures)))))

pub returns : goal.returns
returns g c = follows_seen _ _ c.in_ok-modrm.ensures.follows
    (rw (← c.of_modrm-kind.ensures.kind) (follows_checked _ _ c.in_ok-do_checks.ensures
    (follows_then _ _ c.in_ok-e.ensures (λ place is. follows_checked _ _ c.in_ok-do_checks-2.ensures
    (follows_seen _ _ c.in_ok-imm.ensures (follows_ok
    (record { r = refl; vvvv = refl; reg = refl; e = is; imm = refl })))))))
