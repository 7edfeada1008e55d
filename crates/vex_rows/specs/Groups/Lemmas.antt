-- Every group is a value of a field of three bits.
use Rattle.std.specs.Prelude.{◌≡◌, refl, ℕ, ◌<◌, true, nat_lt}
use Rattle.std.specs.List.{list_all}
use Rattle.std.proofs.Common.{ltb-true}
use Rattle.x86_opcode.specs.declared.Opcode.{Opcode}
use Rattle.vex_rows.specs.declared.form.Form.{Form}
use Rattle.vex_rows.specs.declared.form.Form.TheVariants.{Nothing}
use Rattle.vex_rows.specs.FormRows.{form_row}
use Rattle.vex_rows.specs.Groups.{groups}
use Rattle.vex_rows.specs.Row.{Among}
use Rattle.vex_rows.specs.Row.Lists.{from-list_all}

pub small_groups : (form : Form) (l : ℕ) → list_all (λ g. nat_lt g.0 8) (groups form l) ≡ true
unfolding groups form_row
small_groups Nothing l = refl
small_groups _ l = refl

pub small_group : (form : Form) (l : ℕ) (group : ℕ × Opcode) → Among group (groups form l) → group.0 < 8
small_group form l group m = ltb-true group.0 8
    (from-list_all (λ g. nat_lt g.0 8) group (groups form l) (small_groups form l) m)
