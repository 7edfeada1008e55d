use Rattle.std.proofs.Common.{◌≡◌, ◌⊎◌, inl, inr, ◌/◌, ◌%◌, ◌+◌, ◌*◌, ap, arith, false}
use Rattle.x86_address.specs.Follows.Lemmas.{follows_as, follows_ok, follows_answered}
use Rattle.vex_forms.proofs.Operating.{in_register, in_memory, direct_step}
use Rattle.vex_forms.proofs.reading.read_e.Goals.{then-not-has_address-via-then-not-has_address}
use Rattle.vex_forms.proofs.reading.read_e.Goals.{then-not-has_address-via-else-not-has_address+then-modrm-eq3}
use Rattle.vex_forms.proofs.reading.read_e.Goals as goal

pub returns-then-not-has_address : goal.returns-then-not-has_address
returns-then-not-has_address g c =
    let direct : (c.args.has_address ≡ false) ⊎ (c.args.modrm / 64 ≡ 3) = elim c.then-not-has_address.branch [
      | then-not-has_address-via-then-not-has_address w ↦ inl w.if-not-has_address.true
      | then-not-has_address-via-else-not-has_address+then-modrm-eq3 w ↦ inr w.if-modrm-eq3.true
    ] in
    follows_as _ (direct_step c.args.has_address _ _ direct) (λ place e is. is)
    (follows_ok (in_register _ _ _ _ _ (omega arith) (ap (λ n. c.args.modrm % 8 + 8 * n) c.from.ensures)))

pub returns : goal.returns
returns g c = rw c.if-not-has_address.false
    (follows_answered c.in_ok-address.ensures (in_memory _ _ _ _ _ c.in_ok-address.ensures.answers.1))
