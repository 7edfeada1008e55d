-- Every field that a row writes and that no rule fixes is named by a slot.
use Rattle.std.specs.Prelude.{◌≡◌, refl, Bool, true, not, ◌&&◌, ◌||◌}
use Rattle.std.specs.List.{list_any}
use Rattle.x86_operand.specs.Kind.{Kind, WithoutModRM, InRegister, InMemory, VectorIndexed}
use Rattle.vex_rows.specs.declared.form.Form.{Form}
use Rattle.vex_rows.specs.declared.form.Form.TheVariants.{Nothing}
use Rattle.vex_rows.specs.FormRows.{form_row}
use Rattle.vex_rows.specs.Steps.{steps}
use Rattle.vex_rows.specs.Row.{Row, row_at, has_groups}
use Rattle.vex_rows.specs.Row.Lists.{both-parts}
use Rattle.vex_forms.specs.Slots.{slots_of, names_g, names_e, names_imm}

-- whether a form names E where it has ModRM, reg where it has ModRM and no groups, and the immediate where it has one
abbrev is_full : Form → Row → Bool
is_full form row =
    (not (steps form).modrm || list_any names_e (slots_of form row))
    && (not (steps form).modrm || has_groups form || list_any names_g (slots_of form row))
    && (not (steps form).imm || list_any names_imm (slots_of form row))

full_at : (form : Form) (row : Row) (kind : Kind)
    → is_full form (row_at row.entry row.w row.l kind row.group) ≡ true
unfolding steps has_groups form_row
full_at Nothing row WithoutModRM = refl
full_at _ row WithoutModRM = refl
full_at Nothing row InRegister = refl
full_at _ row InRegister = refl
full_at Nothing row InMemory = refl
full_at _ row InMemory = refl
full_at Nothing row VectorIndexed = refl
full_at _ row VectorIndexed = refl

full : (form : Form) (row : Row) → is_full form row ≡ true
full form row = full_at form row row.kind

pub record Full (row : Row) : Type 0 where
  pub e : (not (steps row.entry.form).modrm || list_any names_e (slots_of row.entry.form row)) ≡ true
  pub g : (not (steps row.entry.form).modrm || has_groups row.entry.form || list_any names_g
      (slots_of row.entry.form row)) ≡ true
  pub imm : (not (steps row.entry.form).imm || list_any names_imm (slots_of row.entry.form row)) ≡ true

pub full_row : (row : Row) → Full row
full_row row =
    let all = both-parts _ _ (full row.entry.form row) in
    let two = both-parts _ _ all.0 in
    record { e = two.0; g = two.1; imm = all.1 }
