use Rattle.std.proofs.Common.{subst, Err}
use Rattle.x86_operand.specs.Kind.{WithoutModRM}
use Rattle.x86_address.specs.Follows.{Any, Decides}
use Rattle.x86_address.specs.Follows.Lemmas.{fails_first, follows_decided}
use Rattle.vex_rows.specs.Steps.{FormSteps}
use Rattle.vex_forms.specs.Fields.{fields_of}
use Rattle.vex_forms.specs.FormWalk.{check_all, walk_form}
use Rattle.vex_forms.proofs.reading.read_operands.Goals as goal

pub returns-in_err-do_checks : goal.returns-in_err-do_checks
unfolding walk_form
returns-in_err-do_checks g c =
    let checked = subst (λ (form : FormSteps). Decides {B = Unit {0}}
    (check_all c.args.entry.now (fields_of c.args.prefix.now) WithoutModRM 0 form.before_modrm) Any
    (Err c.in_err-do_checks.field-0.0)) c.row_of_form-form.ensures.steps c.in_err-do_checks.ensures in
    fails_first _ _ c.from_residual.ensures (follows_decided _ checked)
