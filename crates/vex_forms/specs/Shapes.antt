-- What a row is by its form, W, L and the place of the operand E alone: a table that tools/entries.py writes, proved to
-- be what the table of forms says.
use Rattle.std.specs.Prelude.{ℕ, ◌+◌, ◌*◌, Bool, List, [], ◌∷◌, map, take, Option, slice_index_or}
use denote.Enum.Declared.{tag_of}
use Rattle.x86_opcode.specs.declared.Opcode.{Opcode}
use Rattle.x86_operand.specs.declared.register.RegisterBank.{RegisterBank}
use Rattle.vex_rows.specs.contracts.form.Form.{the_type}
use Rattle.vex_rows.specs.declared.form.Form.{Form}
use Rattle.vex_rows.specs.declared.form_row.SizeRule.TheVariants as rule
use Rattle.vex_rows.specs.Index.{bit}
use Rattle.vex_rows.specs.Row.{Row}
use Rattle.vex_forms.specs.declared.shape.BanksByOpcode.{BanksByOpcode}
use Rattle.vex_forms.specs.declared.shape.BanksByOpcode.TheVariants.{Fixed, Element, Gather}
use Rattle.vex_forms.specs.declared.shape.RowShape.{RowShape}
use Rattle.vex_forms.specs.declared.shape.ShapeSize.{ShapeSize}
use Rattle.vex_forms.specs.declared.shape.ShapeSize.TheVariants.{Always, ByOpcode}
use Rattle.vex_forms.specs.declared.shape.TheConstants.{NO_SHAPE}
use Rattle.vex_forms.specs.declared.shapes.TheConstants.{SHAPES}
use Rattle.vex_forms.specs.declared.slot.Slot.{Slot}
use Rattle.vex_forms.specs.declared.slot.Slot.TheVariants.{G, V, E}
use Rattle.vex_forms.specs.Slots.{element_bank, gather_bank, size_at}

-- the shape of the rows of a form at a W, an L and a place of the operand E: in memory or not
unfoldable pub shape_of : Form → Bool → Bool → Bool → RowShape
shape_of form w l memory = slice_index_or SHAPES (8 * tag_of the_type form + 4 * bit w + 2 * bit l + bit memory)
    NO_SHAPE

-- a slot of the operand E in that bank, and the others as they are
abbrev pub with_e_in : RegisterBank → Slot → Slot
with_e_in bank (E other) = E bank
with_e_in bank slot = slot

-- a slot that a field names in that bank
abbrev pub with_bank : RegisterBank → Slot → Slot
with_bank bank (G other) = G bank
with_bank bank (V other) = V bank
with_bank bank (E other) = E bank
with_bank bank slot = slot

-- slots with the banks that the opcode says
abbrev pub slots_by : BanksByOpcode → ℕ → Opcode → List Slot → List Slot
slots_by Fixed l opcode slots = slots
slots_by Element l opcode slots = map (with_e_in (element_bank opcode)) slots
slots_by Gather l opcode slots = map (with_bank (gather_bank l opcode)) slots

-- the four slots of a shape
abbrev pub four_slots : RowShape → List Slot
four_slots shape = shape.slots.0 ∷ shape.slots.1 ∷ shape.slots.2 ∷ shape.slots.3 ∷ []

-- the first of them, as many as the shape has
abbrev pub slots_seen : RowShape → List Slot
slots_seen shape = take shape.slot_count (four_slots shape)

-- the slots of a shape's row of that L and opcode
abbrev pub slots_in : RowShape → ℕ → Opcode → List Slot
slots_in shape l opcode = take shape.slot_count (slots_by shape.banks l opcode (four_slots shape))

-- the size of the memory operand of a shape's row
abbrev pub size_in : ShapeSize → Row → Option ℕ
size_in (Always bytes) row = bytes
size_in (ByOpcode list other) row = size_at row (rule.ByOpcode list other)
