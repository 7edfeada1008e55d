-- The steps of every form are in order, and check that there is an address where the form gathers.
use Rattle.std.specs.Prelude.{◌≡◌, refl, true}
use Rattle.vex_rows.specs.declared.form.Form.{Form}
use Rattle.vex_rows.specs.declared.form.Form.TheVariants.{Nothing}
use Rattle.vex_rows.specs.FormRows.{form_row, gathers}
use Rattle.vex_rows.specs.Steps.{steps}
use Rattle.vex_rows.specs.WellFormed.{is_orderly, checks_address}

pub orderly : (form : Form) → is_orderly (steps form) ≡ true
unfolding steps form_row
orderly Nothing = refl
orderly _ = refl

pub gathers_checked : (form : Form) → checks_address (gathers form) (steps form) ≡ true
unfolding steps form_row gathers
gathers_checked Nothing = refl
gathers_checked _ = refl
