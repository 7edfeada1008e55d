-- The table of shapes is what the table of forms says.
use Rattle.std.specs.Prelude.{◌≡◌, refl, ℕ, Bool, true, false, not, ◌&&◌, ◌||◌, List, [], ◌∷◌, map, take, Option, None}
use Rattle.std.specs.Prelude.{Some, if◌then◌else◌}
use Rattle.std.specs.List.{list_all}
use Rattle.std.proofs.Common.{zero, suc, ap, sym, ◌∙◌}
use Rattle.x86_opcode.specs.declared.Opcode.{Opcode}
use Rattle.x86_opcode.specs.declared.Opcode.TheVariants.{Invalid}
use Rattle.x86_operand.specs.declared.register.RegisterBank.{RegisterBank}
use Rattle.x86_operand.specs.declared.register.RegisterBank.TheVariants.{D, Q, X, Y}
use Rattle.vex_rows.specs.declared.entry.Entry.{Entry}
use Rattle.vex_rows.specs.declared.entry.Rule.TheVariants.{Any}
use Rattle.vex_rows.specs.declared.key.Map.TheVariants.{Map0F}
use Rattle.vex_rows.specs.declared.key.Pp.TheVariants.{Plain}
use Rattle.vex_rows.specs.declared.form.Form.{Form}
use Rattle.vex_rows.specs.declared.form.Form.TheVariants.{Nothing}
use Rattle.vex_rows.specs.declared.steps.Check.{Check}
use Rattle.vex_rows.specs.declared.steps.Check.TheVariants.{V0, L0, Reg, Mem, Group, VifMem}
use Rattle.vex_rows.specs.FormRows.{form_row, gathers}
use Rattle.vex_rows.specs.Steps.{steps}
use Rattle.vex_rows.specs.Few.{items}
use Rattle.vex_rows.specs.Groups.{groups}
use Rattle.vex_rows.specs.Row.{Row, exists, group_allowed, has_groups, is_group, permits_choice, row_at}
use Rattle.vex_rows.specs.Row.Lemmas.{checks_of}
use Rattle.vex_forms.specs.declared.shape.BanksByOpcode.{BanksByOpcode}
use Rattle.vex_forms.specs.declared.shape.BanksByOpcode.TheVariants.{Fixed, Element, Gather}
use Rattle.vex_forms.specs.declared.slot.Slot.{Slot}
use Rattle.vex_forms.specs.declared.shape.RowShape.{RowShape}
use Rattle.vex_forms.specs.Layout.{group_for, kind_for, may_be, row_for, rules_allow}
use Rattle.vex_forms.specs.Shapes.{shape_of, size_in, four_slots, slots_by, slots_in, slots_seen, with_bank, with_e_in}
use Rattle.vex_forms.specs.Slots.{element_bank, first_of, gather_bank, gather_index_bank, general, index_bank}
use Rattle.vex_forms.specs.Slots.{size_of, slots, v_rule, vector}
use Rattle.vex_forms.proofs.Choices.{exists_by_checks}

-- an entry that has a form
with_form : Entry → Form → Entry
with_form entry form = record {
  map = entry.map;
  pp = entry.pp;
  byte = entry.byte;
  w = entry.w;
  l = entry.l;
  form =
      form;
  opcode = entry.opcode;
}

-- a row of a form
abbrev row_with : Form → Bool → Bool → Bool → Entry → Option ℕ → Row
row_with form w l memory entry group = row_at (with_form entry form) w (if l then 1 else 0) (kind_for form memory) group

-- whether a check allows a row, where the one of the reg field answers this
permits_with : Bool → Row → Check → Bool
permits_with group row V0 = permits_choice row V0
permits_with group row L0 = permits_choice row L0
permits_with group row Reg = permits_choice row Reg
permits_with group row Mem = permits_choice row Mem
permits_with group row Group = group
permits_with group row VifMem = permits_choice row VifMem

-- whether a row can be and no check refuses it, where the one of the reg field answers this
abbrev present_with : Bool → Row → Bool → Bool
present_with group row memory = may_be row.entry memory && list_all (permits_with group row) (checks_of row.entry)

-- one of two values where banks go by the opcode, by which they do, and none elsewhere
by_banks : {A : Type 0} → BanksByOpcode → A → A → Option A
by_banks Fixed element gather = None
by_banks Element element gather = Some element
by_banks Gather element gather = Some gather

-- the slots with these banks of elements and of gathers
abbrev slots_with : RowShape → RegisterBank → RegisterBank → Option (List Slot)
slots_with shape element gather =
    by_banks shape.banks (take shape.slot_count (map (with_e_in element) (four_slots shape)))
    (take shape.slot_count (map (with_bank gather) (four_slots shape)))

-- the shape is that of the row
record IsShape (shape : RowShape) (row : Row) (memory : Bool) : Type 0 where
  group : shape.has_group ≡ has_groups row.entry.form
  slots : slots_in shape row.l row.entry.opcode ≡ slots row
  vvvv : shape.vvvv ≡ v_rule row
  size : size_in shape.size row ≡ size_of row
  permitted : present_with true row memory ≡ (shape.is_row && (not shape.has_group || true))
  refused : present_with false row memory ≡ (shape.is_row && (not shape.has_group || false))

-- whether banks are those of a gather
abbrev is_gather : BanksByOpcode → Bool
is_gather Gather = true
is_gather _ = false

-- where banks go by the opcode, the slots with each of them are those of the form's shape at another W or L; those of a
-- gather stand where the form gathers
record HasBanks (form : Form) (w l memory : Bool) (shape : RowShape) : Type 0 where
  narrow : slots_with shape D X ≡ by_banks shape.banks (slots_seen (shape_of form false l memory))
      (slots_seen (shape_of form w false memory))
  wide : slots_with shape Q Y ≡ by_banks shape.banks (slots_seen (shape_of form true l memory))
      (slots_seen (shape_of form w true memory))
  gathers : is_gather shape.banks ≡ gathers form

has_banks : (w l memory : Bool) (form : Form) → HasBanks form w l memory (shape_of form w l memory)
unfolding shape_of by_banks gathers form_row
has_banks false false false Nothing = record { narrow = refl; wide = refl; gathers = refl }
has_banks false false false _ = record { narrow = refl; wide = refl; gathers = refl }
has_banks false false true Nothing = record { narrow = refl; wide = refl; gathers = refl }
has_banks false false true _ = record { narrow = refl; wide = refl; gathers = refl }
has_banks false true false Nothing = record { narrow = refl; wide = refl; gathers = refl }
has_banks false true false _ = record { narrow = refl; wide = refl; gathers = refl }
has_banks false true true Nothing = record { narrow = refl; wide = refl; gathers = refl }
has_banks false true true _ = record { narrow = refl; wide = refl; gathers = refl }
has_banks true false false Nothing = record { narrow = refl; wide = refl; gathers = refl }
has_banks true false false _ = record { narrow = refl; wide = refl; gathers = refl }
has_banks true false true Nothing = record { narrow = refl; wide = refl; gathers = refl }
has_banks true false true _ = record { narrow = refl; wide = refl; gathers = refl }
has_banks true true false Nothing = record { narrow = refl; wide = refl; gathers = refl }
has_banks true true false _ = record { narrow = refl; wide = refl; gathers = refl }
has_banks true true true Nothing = record { narrow = refl; wide = refl; gathers = refl }
has_banks true true true _ = record { narrow = refl; wide = refl; gathers = refl }

-- computed at every form, W, L and place of the operand E
shaped : (w l memory : Bool) (form : Form) (entry : Entry) (group : Option ℕ)
    → IsShape (shape_of form w l memory) (row_with form w l memory entry group) memory
unfolding shape_of has_groups slots v_rule size_of steps gathers form_row with_form permits_with
shaped false false false Nothing entry group =
    record { group = refl; slots = refl; vvvv = refl; size = refl; permitted = refl; refused = refl }
shaped false false false _ entry group =
    record { group = refl; slots = refl; vvvv = refl; size = refl; permitted = refl; refused = refl }
shaped false false true Nothing entry group =
    record { group = refl; slots = refl; vvvv = refl; size = refl; permitted = refl; refused = refl }
shaped false false true _ entry group = record
    { group = refl; slots = refl; vvvv = refl; size = refl; permitted = refl; refused = refl }
shaped false true false Nothing entry group =
    record { group = refl; slots = refl; vvvv = refl; size = refl; permitted = refl; refused = refl }
shaped false true false _ entry group = record
    { group = refl; slots = refl; vvvv = refl; size = refl; permitted = refl; refused = refl }
shaped false true true Nothing entry group =
    record { group = refl; slots = refl; vvvv = refl; size = refl; permitted = refl; refused = refl }
shaped false true true _ entry group = record
    { group = refl; slots = refl; vvvv = refl; size = refl; permitted = refl; refused = refl }
shaped true false false Nothing entry group =
    record { group = refl; slots = refl; vvvv = refl; size = refl; permitted = refl; refused = refl }
shaped true false false _ entry group = record
    { group = refl; slots = refl; vvvv = refl; size = refl; permitted = refl; refused = refl }
shaped true false true Nothing entry group =
    record { group = refl; slots = refl; vvvv = refl; size = refl; permitted = refl; refused = refl }
shaped true false true _ entry group = record
    { group = refl; slots = refl; vvvv = refl; size = refl; permitted = refl; refused = refl }
shaped true true false Nothing entry group =
    record { group = refl; slots = refl; vvvv = refl; size = refl; permitted = refl; refused = refl }
shaped true true false _ entry group = record
    { group = refl; slots = refl; vvvv = refl; size = refl; permitted = refl; refused = refl }
shaped true true true Nothing entry group =
    record { group = refl; slots = refl; vvvv = refl; size = refl; permitted = refl; refused = refl }
shaped true true true _ entry group = record
    { group = refl; slots = refl; vvvv = refl; size = refl; permitted = refl; refused = refl }

-- fixed slots are the shape's
fixed_kept : (banks : BanksByOpcode) (n : ℕ) (four : List Slot) (l : ℕ) (o : Opcode) → banks ≡ Fixed
    → take n four ≡ take n (slots_by banks l o four)
fixed_kept Fixed n four l o is = refl
fixed_kept Element n four l o is = cc
fixed_kept Gather n four l o is = cc

-- the first slot of a shape, and none where it has none
pub none_first : (shape : RowShape) → shape.slot_count ≡ 0 → None ≡ first_of (slots_seen shape)
none_first shape h = rw h refl

pub some_first : (shape : RowShape) → (shape.slot_count ≡ 0 → ⊥) → Some shape.slots.0 ≡ first_of (slots_seen shape)
some_first shape never = by shape.slot_count never where
  by : (n : ℕ) → (n ≡ 0 → ⊥) → Some shape.slots.0 ≡ first_of (take n (four_slots shape))
  by zero h = absurd (h refl)
  by (suc n) h = refl

-- slots of one bank by the opcode, where those with that bank are these
element_moved : (banks : BanksByOpcode) (n : ℕ) (four : List Slot) (l : ℕ) (o : Opcode) (bank : RegisterBank)
    (others xs ys : List Slot) → banks ≡ Element → element_bank o ≡ bank
    → by_banks banks (take n (map (with_e_in bank) four)) others ≡ by_banks banks xs ys
    → xs ≡ take n (slots_by banks l o four)
unfolding by_banks
element_moved Fixed n four l o bank others xs ys is e same = cc
element_moved Element n four l o bank others xs ys is e same =
    let here : take n (map (with_e_in bank) four) ≡ xs =
    cc in sym here ∙ ap (λ b. take n (map (with_e_in b) four)) (sym e)
element_moved Gather n four l o bank others xs ys is e same = cc

gather_moved : (banks : BanksByOpcode) (n : ℕ) (four : List Slot) (l : ℕ) (o : Opcode) (bank : RegisterBank)
    (others xs ys : List Slot) → banks ≡ Gather → gather_bank l o ≡ bank
    → by_banks banks others (take n (map (with_bank bank) four)) ≡ by_banks banks xs ys
    → ys ≡ take n (slots_by banks l o four)
unfolding by_banks
gather_moved Fixed n four l o bank others xs ys is e same = cc
gather_moved Element n four l o bank others xs ys is e same = cc
gather_moved Gather n four l o bank others xs ys is e same =
    let here : take n (map (with_bank bank) four) ≡ ys =
    cc in sym here ∙ ap (λ b. take n (map (with_bank b) four)) (sym e)

-- the checks answer by what that of the reg field answers
same_checks : (row : Row) (checks : List Check)
    → list_all (permits_choice row) checks ≡ list_all (permits_with (permits_choice row Group) row) checks
unfolding permits_with
same_checks row [] = refl
same_checks row (V0 ∷ checks) = ap (λ b. permits_choice row V0 && b) (same_checks row checks)
same_checks row (L0 ∷ checks) = ap (λ b. permits_choice row L0 && b) (same_checks row checks)
same_checks row (Reg ∷ checks) = ap (λ b. permits_choice row Reg && b) (same_checks row checks)
same_checks row (Mem ∷ checks) = ap (λ b. permits_choice row Mem && b) (same_checks row checks)
same_checks row (Group ∷ checks) = ap (λ b. permits_choice row Group && b) (same_checks row checks)
same_checks row (VifMem ∷ checks) = ap (λ b. permits_choice row VifMem && b) (same_checks row checks)

module _ (entry : Entry) (w l memory : Bool) (group : Option ℕ) where
  abbrev row : Row
  row = row_at entry w (if l then 1 else 0) (kind_for entry.form memory) group

  abbrev shape : RowShape
  shape = shape_of entry.form w l memory

  is_shape : IsShape shape row memory
  unfolding with_form
  is_shape = shaped w l memory entry.form entry group

  pub slots_shaped : slots_in shape row.l row.entry.opcode ≡ slots row
  slots_shaped = is_shape.slots

  pub vvvv_shaped : shape.vvvv ≡ v_rule row
  vvvv_shaped = is_shape.vvvv

  pub size_shaped : size_in shape.size row ≡ size_of row
  size_shaped = is_shape.size

  -- the shape that has the slots, where banks don't go by the opcode, and where they do
  pub fixed_shaped : shape.banks ≡ Fixed → slots_seen shape ≡ slots row
  fixed_shaped is = fixed_kept shape.banks shape.slot_count (four_slots shape) row.l entry.opcode is ∙ slots_shaped

  pub element_shaped : (quadword : Bool) → shape.banks ≡ Element → element_bank entry.opcode ≡ general quadword
      → slots_seen (shape_of entry.form quadword l memory) ≡ slots row
  element_shaped true is bank = element_moved shape.banks shape.slot_count (four_slots shape) row.l entry.opcode Q _ _
      _ is bank (has_banks w l memory entry.form).wide ∙ slots_shaped
  element_shaped false is bank = element_moved shape.banks shape.slot_count (four_slots shape) row.l entry.opcode D _ _
      _ is bank (has_banks w l memory entry.form).narrow ∙ slots_shaped

  pub gather_shaped : (at : Bool) → shape.banks ≡ Gather
      → gather_bank row.l entry.opcode ≡ vector (if at then 1 else 0)
      → slots_seen (shape_of entry.form w at memory) ≡ slots row
  gather_shaped false is bank = gather_moved shape.banks shape.slot_count (four_slots shape) row.l entry.opcode X _ _ _
      is bank (has_banks w l memory entry.form).narrow ∙ slots_shaped
  gather_shaped true is bank = gather_moved shape.banks shape.slot_count (four_slots shape) row.l entry.opcode Y _ _ _
      is bank (has_banks w l memory entry.form).wide ∙ slots_shaped

  -- the bank of an index, where a form gathers and where it doesn't
  index_shaped : (answer : Bool) → is_gather shape.banks ≡ answer
      → index_bank row ≡ (if answer then gather_index_bank row.l entry.opcode else Q)
  unfolding index_bank
  index_shaped answer h = ap (λ g. if g then gather_index_bank row.l entry.opcode else Q)
      (sym (has_banks w l memory entry.form).gathers ∙ h)

  pub plain_index_shaped : (banks : BanksByOpcode) → shape.banks ≡ banks → is_gather banks ≡ false → index_bank row ≡ Q
  plain_index_shaped banks is h = index_shaped false (ap is_gather is ∙ h)

  pub gather_index_shaped : shape.banks ≡ Gather → index_bank row ≡ gather_index_bank row.l entry.opcode
  gather_index_shaped is = index_shaped true (ap is_gather is)

  by_group : (answer : Bool) → present_with answer row memory ≡ (shape.is_row && (not shape.has_group || answer))
  by_group true = is_shape.permitted
  by_group false = is_shape.refused

  pub exists_shaped : rules_allow entry w l ≡ true
      → (may_be entry memory && exists row) ≡
      (shape.is_row && (not shape.has_group || group_allowed entry.form (if l then 1 else 0) group))
  exists_shaped h =
      ap (λ there. may_be entry memory && there)
      (exists_by_checks entry w l (kind_for entry.form memory) group h ∙ same_checks row (checks_of entry))
      ∙ by_group (permits_choice row Group)

-- whether a form has groups: any entry of the form tells it
entry_with : Form → Entry
entry_with form = record { map = Map0F; pp = Plain; byte = 0; w = Any; l = Any; form = form; opcode = Invalid }

pub group_shaped : (form : Form) (w l memory : Bool) → (shape_of form w l memory).has_group ≡ has_groups form
unfolding entry_with
group_shaped form w l memory = (is_shape (entry_with form) w l memory None).group

-- whether the row of a reg field is there
pub row_shaped : (entry : Entry) (w l memory : Bool) (group : ℕ) → rules_allow entry w l ≡ true
    → (may_be entry memory && exists (row_for entry w l memory group))
    ≡ ((shape_of entry.form w l memory).is_row
    && (not (shape_of entry.form w l memory).has_group || is_group (items (form_row entry.form).groups) group))
unfolding groups
row_shaped entry w l memory group h =
    exists_shaped entry w l memory (group_for entry.form group) h
    ∙ by (has_groups entry.form) (shape_of entry.form w l memory).has_group (group_shaped entry.form w l memory)
  where
    by : (has shown : Bool) → shown ≡ has
        → ((shape_of entry.form w l memory).is_row
        && (not shown || group_allowed entry.form (if l then 1 else 0) (if has then Some group else None)))
        ≡ ((shape_of entry.form w l memory).is_row && (not shown || is_group (items (form_row entry.form).groups) group))
    by true shown e = refl
    by false shown e = ap (λ b. (shape_of entry.form w l memory).is_row
        && (not b || group_allowed entry.form (if l then 1 else 0) None)) e
        ∙ sym (ap (λ b. (shape_of entry.form w l memory).is_row
        && (not b || is_group (items (form_row entry.form).groups) group)) e)
