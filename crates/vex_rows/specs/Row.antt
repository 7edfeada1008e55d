pub mod Lists
pub mod Lemmas
use Rattle.std.specs.Prelude.{◌≡◌, ◌⊎◌, ℕ, Bool, true, false, not, ◌&&◌, ◌==◌, List, [], ◌∷◌, ◌++◌, map, filter}
use Rattle.std.specs.Prelude.{flat_map, Option, Some, None, if◌then◌else◌}
use Rattle.std.specs.List.{list_all, list_any}
use Rattle.x86_opcode.specs.declared.Opcode.{Opcode}
use Rattle.x86_operand.specs.Kind.{Kind, WithoutModRM, InRegister, InMemory, VectorIndexed, memory_kind}
use Rattle.vex_rows.specs.declared.entry.Entry.{Entry}
use Rattle.vex_rows.specs.declared.form.Form.{Form}
use Rattle.vex_rows.specs.Rules.{allows}
use Rattle.vex_rows.specs.declared.steps.Check.{Check}
use Rattle.vex_rows.specs.declared.steps.Check.TheVariants.{V0, L0, Reg, Mem, Group, VifMem}
use Rattle.vex_rows.specs.FormRows.{form_row, gathers}
use Rattle.vex_rows.specs.Steps.{steps}
use Rattle.vex_rows.specs.Groups.{groups}
use Rattle.vex_rows.specs.Table.{table}

-- an entry at one W, one L, one kind of operand E, and one reg field where its form has groups
pub record Row : Type 0 where
  pub entry : Entry
  pub w : Bool
  pub l : ℕ
  pub kind : Kind
  pub group : Option ℕ

-- whether a kind is that of a register
abbrev pub is_register : Kind → Bool
is_register WithoutModRM = false
is_register InRegister = true
is_register InMemory = false
is_register VectorIndexed = false

-- whether a kind is that of an address in memory
abbrev pub is_memory : Kind → Bool
is_memory WithoutModRM = false
is_memory InRegister = false
is_memory InMemory = true
is_memory VectorIndexed = true

-- whether a kind is that of an address whose index is a vector register or not
abbrev pub is_memory_of : Bool → Kind → Bool
is_memory_of vector WithoutModRM = false
is_memory_of vector InRegister = false
is_memory_of vector InMemory = not vector
is_memory_of vector VectorIndexed = vector

-- whether a check is that of the reg field
abbrev pub is_group_check : Check → Bool
is_group_check Group = true
is_group_check _ = false

-- whether a form has groups
unfoldable pub has_groups : Form → Bool
has_groups form = list_any is_group_check (steps form).after_modrm

-- the opcode of a group, the announced one where there is none
abbrev pub group_opcode : List (ℕ × Opcode) → Option ℕ → Opcode → Opcode
group_opcode gs None announced = announced
group_opcode [] (Some reg) announced = announced
group_opcode (g ∷ gs) (Some reg) announced = if g.0 == reg then g.1 else group_opcode gs (Some reg) announced

-- whether a reg field is one of the groups
abbrev pub is_group : List (ℕ × Opcode) → ℕ → Bool
is_group gs reg = list_any (λ g. g.0 == reg) gs

-- whether a row's group field is one that its form allows; true where the row has no group field
abbrev pub group_allowed : Form → ℕ → Option ℕ → Bool
group_allowed form l None = true
group_allowed form l (Some reg) = is_group (groups form l) reg

-- whether a row has an immediate byte
unfoldable pub has_imm : Row → Bool
has_imm row = (steps row.entry.form).imm

-- whether a check allows a row's kind, L and group
abbrev pub permits_choice : Row → Check → Bool
permits_choice row V0 = true
permits_choice row L0 = row.l == 0
permits_choice row Reg = is_register row.kind
permits_choice row Mem = is_memory_of (gathers row.entry.form) row.kind
permits_choice row Group = group_allowed row.entry.form row.l row.group
permits_choice row VifMem = true

-- whether the instructions of a row have the EVEX mark, which those in VEX form don't (Intel SDM volume 2, section 2.7)
unfoldable pub mark_of : Row → Bool
mark_of row = false

-- the opcode by the kind of the operand E, where a form has one for each, and else by the group
abbrev pub opcode_by : Option (Opcode × Opcode) → Row → Opcode
opcode_by (Some both) row = if is_memory row.kind then both.1 else both.0
opcode_by None row = group_opcode (groups row.entry.form row.l) row.group row.entry.opcode

-- the opcode of a row
unfoldable pub opcode_of : Row → Opcode
opcode_of row = opcode_by (form_row row.entry.form).opcodes row

-- whether no rule and no check of its entry refuses a row's W, L, kind and group; of the choices below, those are the
-- rows
unfoldable pub exists : Row → Bool
exists row =
    allows row.entry.w row.w && allows row.entry.l (row.l == 1)
    && list_all (permits_choice row) ((steps row.entry.form).before_modrm ++ (steps row.entry.form).after_modrm
    ++ (steps row.entry.form).after_address)

-- the kinds that a form may have: its address has a vector register as its index where it gathers
abbrev pub kinds_of : Form → List Kind
kinds_of form = if (steps form).modrm then InRegister ∷ memory_kind (gathers form) ∷ [] else WithoutModRM ∷ []

-- the group fields that a form may have at an L
abbrev pub group_choices : Form → ℕ → List (Option ℕ)
group_choices form l = if has_groups form then map (λ g. Some g.0) (groups form l) else None ∷ []

-- a choice of an entry
abbrev pub row_at : Entry → Bool → ℕ → Kind → Option ℕ → Row
row_at entry w l kind group = record { entry = entry; w = w; l = l; kind = kind; group = group }

-- all choices of an entry at one W, L and kind: by group
abbrev pub choices_of_kind : Entry → Bool → ℕ → Kind → List Row
choices_of_kind entry w l kind = map (row_at entry w l kind) (group_choices entry.form l)

-- all choices of an entry at one W and L: by kind, then group
abbrev pub choices_of_l : Entry → Bool → ℕ → List Row
choices_of_l entry w l = flat_map (choices_of_kind entry w l) (kinds_of entry.form)

-- all choices of an entry at one W: by L, then kind, then group
abbrev pub choices_of_w : Entry → Bool → List Row
choices_of_w entry w = flat_map (choices_of_l entry w) (0 ∷ 1 ∷ [])

-- all choices of an entry: by W, then L, then kind, then group
unfoldable pub choices : Entry → List Row
choices entry = flat_map (choices_of_w entry) (false ∷ true ∷ [])

-- all rows, in table order
unfoldable pub rows : List Row
rows = filter exists (flat_map choices table)

-- x stands in the list
abbrev pub Among : {A : Type 0} → A → List A → Type 0
Among x [] = ⊥
Among x (y ∷ ys) = (x ≡ y) ⊎ Among x ys

-- a row that is one of them
unfoldable pub IsRow : Row → Type 0
IsRow row = Among row rows
