pub mod Lemmas
use Rattle.std.specs.Prelude.{ℕ, List}
use Rattle.x86_opcode.specs.declared.Opcode.{Opcode}
use Rattle.vex_rows.specs.declared.form.Form.{Form}
use Rattle.vex_rows.specs.Few.{items}
use Rattle.vex_rows.specs.FormRows.{form_row}

-- the reg fields that a form allows where it has groups, each with its opcode; they are the same for both L
unfoldable pub groups : Form → ℕ → List (ℕ × Opcode)
groups form l = items (form_row form).groups
