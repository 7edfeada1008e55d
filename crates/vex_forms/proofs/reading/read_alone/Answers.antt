use Rattle.std.proofs.Common.{refl}
use Rattle.x86_address.specs.Follows.Lemmas.{follows_seen, follows_ok}
use Rattle.vex_forms.proofs.Operating.{absent}
use Rattle.vex_forms.proofs.reading.read_alone.Goals as goal

pub returns : goal.returns
returns g c = follows_seen _ _ c.in_ok-imm.ensures
    (follows_ok (record { r = refl; vvvv = refl; reg = refl; e = absent _ _ _; imm = refl }))
