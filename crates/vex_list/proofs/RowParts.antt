-- The parts of a row, by those of its layout.
use Rattle.std.specs.Prelude.{◌≡◌, refl, ℕ, ◌%◌, Bool, true, false, Option, Some, None, unwrap_or, if◌then◌else◌}
use Rattle.x86_operand.specs.Kind.{WithoutModRM, InRegister, plain_kind, memory_kind}
use Rattle.x86_address.specs.Bytes.{bit}
use Rattle.vex_rows.specs.declared.form.Form.{Form}
use Rattle.vex_rows.specs.FormRows.{gathers}
use Rattle.vex_rows.specs.Steps.{steps}
use Rattle.vex_forms.specs.Layout.{kind_for}
use Rattle.vex_encode.specs.Standard.{reg_for}
use Rattle.vex_list.specs.Choices.{kind_by}

pub bit_if : (l : Bool) → bit l ≡ (if l then 1 else 0)
bit_if true = refl
bit_if false = refl

pub reg_unwrapped : (group : Option ℕ) (g : ℕ) → unwrap_or group (g % 8) ≡ reg_for group g
reg_unwrapped None g = refl
reg_unwrapped (Some group) g = refl

-- the kind of a row, whatever index an address has
pub kind_plain : (form : Form) (memory : Bool) → kind_by (steps form).modrm memory ≡ plain_kind (kind_for form memory)
kind_plain form memory = by (steps form).modrm memory (gathers form) where
  by : (modrm memory vector : Bool) → kind_by modrm memory
      ≡ plain_kind (if modrm then (if memory then memory_kind vector else InRegister) else WithoutModRM)
  by true true true = refl
  by true true false = refl
  by true false vector = refl
  by false memory vector = refl
