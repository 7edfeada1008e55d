use Rattle.std.specs.Prelude.{◌≡◌, Some}
use Rattle.std.proofs.Common.{sym, subst, ◌∙◌}
use Rattle.std.specs.Prelude.{IfSome}
use Rattle.vex_forms.specs.Layout.{IsSize, chosen}
use Rattle.vex_forms.specs.Slots.{size_of}
use Rattle.vex_forms.proofs.SizesFit.{size_fits, size_made}
use Rattle.vex_forms.proofs.choice.Choice.memory_size.Goals as goal

pub returns : goal.returns
returns c =
    let same : size_of (chosen c.args.self.now) ≡ Some c.in_ok-bytes.field-0 =
    sym c.bytes.ensures ∙ c.in_ok-bytes.was in
    size_made c.in_ok-bytes.field-0 c.of.result c.of.ensures.within c.of.ensures.value
    (subst (λ size. IfSome size IsSize) same (size_fits (chosen c.args.self.now)))
    ∙ sym same
