-- Rows that a meaning excludes at once have no standard bytes of it.
use Rattle.std.specs.Prelude.{◌≡◌, refl, ℕ, ◌<◌, length, Bool, true, false, ◌&&◌, ◌==◌, List, [], ◌∷◌}
use Rattle.std.specs.Prelude.{Option, Some, None, if◌then◌else◌}
use Rattle.std.specs.List.{list_all}
use Rattle.std.proofs.Common.{get_or, sym, ap, ◌∙◌, subst, eqb-true}
use Rattle.x86_opcode.specs.declared.Opcode.{Opcode}
use Rattle.x86_opcode.specs.Number.{opcode_number}
use Rattle.x86_opcode.specs.Number.Lemmas.{opcode_number_injective}
use Rattle.x86_operand.specs.Kind.{Kind}
use Rattle.x86_operand.specs.Meaning.{Meaning}
use Rattle.x86_operand.specs.Meaning as meaning
use Rattle.vex_rows.specs.declared.entry.Entry.{Entry}
use Rattle.vex_rows.specs.declared.form.Form.{Form}
use Rattle.vex_rows.specs.declared.form.Form.TheVariants as form_name
use Rattle.vex_rows.specs.FormRows.{form_row}
use Rattle.vex_rows.specs.Groups.{groups}
use Rattle.vex_rows.specs.Rules.{allows}
use Rattle.vex_rows.specs.Row.{Row, Among, exists, opcode_of, row_at, group_opcode, is_memory}
use Rattle.vex_rows.specs.Row.{choices_of_kind, choices_of_l, kinds_of, group_choices}
use Rattle.vex_rows.specs.Row.Lists.{both-parts, from-flat_map, from-map, from-list_all}
use Rattle.vex_forms.specs.declared.slot.Slot.TheVariants as slot
use Rattle.vex_forms.specs.Gives.{gives}
use Rattle.vex_forms.specs.Layout.{kind_for, row_for, rules_allow}
use Rattle.vex_encode.specs.Standard.{standard}
use Rattle.vex_encode.specs.Encode.{standard_of, first}
use Rattle.vex_encode.proofs.Entries.{made, grouped, any_group}
use Rattle.vex_encode.proofs.Search.{among_at, first_none}

-- ---- rows that there are none of

-- standard bytes are those of a row that exists
pub there : (row : Row) (m : Meaning) (bytes : List ℕ) → standard_of row m ≡ Some bytes → exists row ≡ true
there row m bytes e = by (exists row) refl e where
  by : (b : Bool) → exists row ≡ b → (if b then standard row m else None) ≡ Some bytes → b ≡ true
  by true h e = refl
  by false h e = cc

-- so its rules allow W and L
allowed : (row : Row) → exists row ≡ true → (allows row.entry.w row.w ≡ true) × (allows row.entry.l (row.l == 1) ≡ true)
unfolding exists
allowed row h =
    let rules = (both-parts (allows row.entry.w row.w && allows row.entry.l (row.l == 1)) _ h).0 in
    both-parts (allows row.entry.w row.w) (allows row.entry.l (row.l == 1)) rules

-- no bytes are there where they would give what isn't so
pub none_there : (row : Row) (m : Meaning) → ((bytes : List ℕ) → standard_of row m ≡ Some bytes → ⊥)
    → standard_of row m ≡ None
none_there row m never = by (standard_of row m) refl where
  by : (o : Option (List ℕ)) → standard_of row m ≡ o → o ≡ None
  by None e = refl
  by (Some bytes) e = absurd (never bytes e)

pub other_w : (row : Row) (m : Meaning) → allows row.entry.w row.w ≡ false → standard_of row m ≡ None
other_w row m h = none_there row m (λ bytes e. let yes = (allowed row (there row m bytes e)).0 in cc)

pub other_l : (row : Row) (m : Meaning) → allows row.entry.l (row.l == 1) ≡ false → standard_of row m ≡ None
other_l row m h = none_there row m (λ bytes e. let yes = (allowed row (there row m bytes e)).1 in cc)

-- ---- no row of an entry at one W and L

pub none_of_l : (m : Meaning) (entry : Entry) (w : Bool) (l : ℕ)
    → ((kind : Kind) (group : Option ℕ) → standard_of (row_at entry w l kind group) m ≡ None)
    → first m (choices_of_l entry w l) ≡ None
none_of_l m entry w l none = first_none m (choices_of_l entry w l) (λ row k.
    let at_kind = from-flat_map (choices_of_kind entry w l) row (kinds_of entry.form) k in
    let at_group = from-map (row_at entry w l at_kind.0) row (group_choices entry.form l) at_kind.2 in
    ap (λ r. standard_of r m) at_group.2 ∙ none at_kind.0 at_group.0)

-- ---- a group of another opcode

abbrev by_group : Option (Opcode × Opcode) → Bool → List (ℕ × Opcode) → ℕ → Opcode → Opcode
by_group (Some both) memory gs reg announced = if memory then both.1 else both.0
by_group None memory gs reg announced = group_opcode gs (Some reg) announced

opcode_by_group : (entry : Entry) (w : Bool) (l : ℕ) (kind : Kind) (reg : ℕ)
    → opcode_of (row_at entry w l kind (Some reg))
    ≡ by_group (form_row entry.form).opcodes (is_memory kind) (groups entry.form l) reg entry.opcode
unfolding opcode_of
opcode_by_group entry w l kind reg = by (form_row entry.form).opcodes where
  by : (opcodes : Option (Opcode × Opcode))
      → Rattle.vex_rows.specs.Row.opcode_by opcodes (row_at entry w l kind (Some reg))
      ≡ by_group opcodes (is_memory kind) (groups entry.form l) reg entry.opcode
  by None = refl
  by (Some both) = refl

groups_told : (form : Form) (l : ℕ) (memory : Bool) (announced : Opcode)
    → list_all (λ g. opcode_number (by_group (form_row form).opcodes memory (groups form l) g.0 announced) ==
    opcode_number g.1) (groups form l) ≡ true
unfolding groups form_row opcode_number
groups_told form_name.Nothing l memory announced = refl
groups_told _ l memory announced = refl

-- the row of a group has the group's opcode
pub other_group : (entry : Entry) (w : Bool) (l : ℕ) (kind : Kind) (group : ℕ × Opcode) (m : Meaning)
    → Among group (groups entry.form l) → (m.opcode ≡ group.1 → ⊥)
    → standard_of (row_at entry w l kind (Some group.0)) m ≡ None
unfolding gives
other_group entry w l kind group m among never =
    let row = row_at entry w l kind (Some group.0) in
    none_there row m (λ bytes e.
    let told = opcode_number_injective _ _
    (eqb-true _ _ (from-list_all (λ g. opcode_number
    (by_group (form_row entry.form).opcodes (is_memory kind) (groups entry.form l) g.0 entry.opcode) ==
    opcode_number g.1) group (groups entry.form l) (groups_told entry.form l (is_memory kind) entry.opcode)
    among)) in
    never (sym (ap (λ (m : Meaning). m.opcode) (made row m bytes e).means) ∙ opcode_by_group entry w l kind group.0
    ∙ told))

-- and the row of an entry with groups has the group
group_row : (entry : Entry) (w l memory : Bool) (group : ℕ × Opcode)
    → Among group (groups entry.form (if l then 1 else 0))
    → row_for entry w l memory group.0 ≡ row_at entry w (if l then 1 else 0) (kind_for entry.form memory) (Some group.0)
group_row entry w l memory group among =
    ap (λ has. row_at entry w (if l then 1 else 0) (kind_for entry.form memory) (if has then Some group.0 else None))
    (grouped entry.form (if l then 1 else 0) ∙ some (groups entry.form (if l then 1 else 0)) among) where
      some : (gs : List (ℕ × Opcode)) → Among group gs → any_group gs ≡ true
      some [] m = absurd m
      some (g ∷ gs) m = refl

pub other_group_row : (entry : Entry) (w l memory : Bool) (group : ℕ × Opcode) (m : Meaning)
    → Among group (groups entry.form (if l then 1 else 0)) → (m.opcode ≡ group.1 → ⊥)
    → None ≡ standard_of (row_for entry w l memory group.0) m
other_group_row entry w l memory group m among never =
    sym (ap (λ row. standard_of row m) (group_row entry w l memory group among)
    ∙ other_group entry w (if l then 1 else 0) (kind_for entry.form memory) group m among never)

-- ---- what the code tests

l_again : (l : Bool) → ((if l then 1 else 0) == 1) ≡ l
l_again true = refl
l_again false = refl

-- no row of an entry at a W and an L that its rules refuse
pub none_by_rules : (entry : Entry) (w l : Bool) (m : Meaning) → rules_allow entry w l ≡ false
    → first m (choices_of_l entry w (if l then 1 else 0)) ≡ None
none_by_rules entry w l m h = none_of_l m entry w (if l then 1 else 0) (λ kind group.
    by kind group (allows entry.w w) refl) where
      by : (kind : Kind) (group : Option ℕ) (b : Bool) → allows entry.w w ≡ b
          → standard_of (row_at entry w (if l then 1 else 0) kind group) m ≡ None
      by kind group false e = other_w (row_at entry w (if l then 1 else 0) kind group) m e
      by kind group true e = other_l (row_at entry w (if l then 1 else 0) kind group) m
          (ap (allows entry.l) (l_again l) ∙ rw e at h)

-- what is read at a place of the groups is one of them
pub group_at : (form : Form) (l : ℕ) (gs : List (ℕ × Opcode)) (i : ℕ) (g : ℕ × Opcode) → gs ≡ groups form l
    → i < length gs → Among (get_or gs i g) (groups form l)
group_at form l gs i g e h = subst (λ all. Among (get_or gs i g) all) e (among_at gs i g h)
