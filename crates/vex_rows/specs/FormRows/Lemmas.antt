-- Each row of the table of forms is that of the form which it names.
use Rattle.std.specs.Prelude.{◌≡◌, refl}
use Rattle.vex_rows.specs.declared.form.Form.{Form}
use Rattle.vex_rows.specs.declared.form.Form.TheVariants.{Nothing}
use Rattle.vex_rows.specs.FormRows.{form_row}

pub in_order : (form : Form) → (form_row form).form ≡ form
unfolding form_row
in_order Nothing = refl
in_order _ = refl
