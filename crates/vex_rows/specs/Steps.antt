pub mod Lemmas
use Rattle.std.specs.Prelude.{Bool, List}
use Rattle.vex_rows.specs.declared.steps.Check.{Check}
use Rattle.vex_rows.specs.declared.form.Form.{Form}
use Rattle.vex_rows.specs.declared.form_row.FormRow.{FormRow}
use Rattle.vex_rows.specs.Few.{items}
use Rattle.vex_rows.specs.FormRows.{form_row}

-- the steps of a form in their order: checks, the ModRM byte, checks, SIB and displacement, checks, the immediate byte
pub record FormSteps : Type 0 where
  pub before_modrm : List Check
  pub modrm : Bool
  pub after_modrm : List Check
  pub address : Bool
  pub after_address : List Check
  pub imm : Bool

-- the steps that a row of the table of forms says
abbrev pub steps_seen : FormRow → FormSteps
steps_seen row = record {
  before_modrm = items row.before_modrm;
  modrm = row.modrm;
  after_modrm = items row.after_modrm;
  address = row.address;
  after_address = items row.after_address;
  imm = row.imm;
}

-- the steps of a form
unfoldable pub steps : Form → FormSteps
steps form = steps_seen (form_row form)
