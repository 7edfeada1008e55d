-- The row of an entry that a caller chooses, and what the layout of a row shows.
pub mod Lemmas
use Rattle.std.specs.Prelude.{◌≡◌, ℕ, ◌≤◌, Bool, not, ◌&&◌, ◌||◌, Option, Some, None, if◌then◌else◌}
use Rattle.x86_operand.specs.Kind.{Kind, WithoutModRM, InRegister, is_vector, memory_kind}
use Rattle.vex_rows.specs.declared.entry.Entry.{Entry}
use Rattle.vex_rows.specs.declared.form.Form.{Form}
use Rattle.vex_rows.specs.FormRows.{gathers}
use Rattle.vex_rows.specs.Rules.{allows}
use Rattle.vex_rows.specs.Steps.{steps}
use Rattle.vex_rows.specs.Row.{Row, row_at, opcode_of, has_groups, has_imm}
use Rattle.vex_forms.specs.declared.choice.Choice.{Choice}
use Rattle.vex_forms.specs.declared.row_layout.RowLayout.{RowLayout}
use Rattle.vex_forms.specs.Slots.{slots, index_bank, size_of, v_rule}

-- the kind of the operand E, by whether there is a ModRM byte, whether the index of an address is a vector register,
-- and whether the operand is in memory
abbrev pub kind_at : Bool → Bool → Bool → Kind
kind_at modrm vector memory = if modrm then (if memory then memory_kind vector else InRegister) else WithoutModRM

-- the kind of the operand E of a form, in memory or not: the index is a vector register where the form gathers
abbrev pub kind_for : Form → Bool → Kind
kind_for form memory = kind_at (steps form).modrm (gathers form) memory

-- the reg field of a row, where its form has groups
abbrev pub group_for : Form → ℕ → Option ℕ
group_for form group = if has_groups form then Some group else None

-- the row of an entry at a W, an L, a kind of the operand E and a reg field
abbrev pub row_for : Entry → Bool → Bool → Bool → ℕ → Row
row_for entry w l memory group =
    row_at entry w (if l then 1 else 0) (kind_for entry.form memory) (group_for entry.form group)

-- the row that the code has chosen
abbrev pub chosen : Choice → Row
chosen c = row_at c.entry c.w (if c.l then 1 else 0) (kind_for c.entry.form c.memory) c.group

-- whether an entry can have its operand E in that place: without ModRM it has none in memory
abbrev pub may_be : Entry → Bool → Bool
may_be entry memory = (steps entry.form).modrm || not memory

-- whether an entry's rules allow a W and an L
abbrev pub rules_allow : Entry → Bool → Bool → Bool
rules_allow entry w l = allows entry.w w && allows entry.l l

-- a number of bytes that the size of a memory operand can say
abbrev pub IsSize : ℕ → Type 0
IsSize n = (1 ≤ n) × (n ≤ 64)

-- what the layout of a row shows
pub record IsLayout (row : Row) (layout : RowLayout) : Type 0 where
  pub opcode : layout.opcode ≡ opcode_of row
  pub slots : layout.slots.items ≡ slots row
  pub vvvv : layout.vvvv ≡ v_rule row
  pub mem_size : layout.mem_size ≡ size_of row
  pub vector : layout.vector ≡ is_vector row.kind
  pub index_bank : layout.index_bank ≡ index_bank row
  pub has_modrm : layout.has_modrm ≡ (steps row.entry.form).modrm
  pub group : layout.group ≡ row.group
  pub has_imm : layout.has_imm ≡ has_imm row
