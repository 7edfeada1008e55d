-- Rows that the bank of the first operand excludes, and rows with W 1 of a form that doesn't go by W.
use Rattle.std.specs.Prelude.{◌≡◌, refl, ℕ, ◌≤◌, Bool, true, false, not, ◌||◌, ◌&&◌, ◌==◌, List, [], ◌∷◌}
use Rattle.std.specs.Prelude.{Option, Some, None, if◌then◌else◌}
use Rattle.std.specs.List.{list_any}
use Rattle.std.proofs.Common.{inl, inr, arith, sym, ap, subst, ◌∙◌}
use Rattle.x86_opcode.specs.declared.Opcode.{Opcode}
use Rattle.x86_operand.specs.declared.register.RegisterBank.{RegisterBank}
use Rattle.x86_operand.specs.Kind.{Kind, WithoutModRM, InRegister, InMemory, VectorIndexed}
use Rattle.x86_operand.specs.Meaning.{OperandMeaning, register, memory, Meaning}
use Rattle.vex_rows.specs.declared.entry.Entry.{Entry}
use Rattle.vex_rows.specs.FormRows.{form_row, gathers}
use Rattle.vex_rows.specs.Rules.{allows}
use Rattle.vex_rows.specs.Steps.{steps}
use Rattle.vex_rows.specs.Table.{table}
use Rattle.vex_rows.specs.Row.{Row, Among, IsRow, exists, row_at, is_memory, is_register, kinds_of, group_choices}
use Rattle.vex_rows.specs.Row.{choices_of_kind, choices_of_l, choices_of_w, mark_of, opcode_of, opcode_by}
use Rattle.vex_rows.specs.Row.Lemmas.{Chosen, row-chosen}
use Rattle.vex_rows.specs.Row.Lists.{both-parts, parts-both, from-flat_map, from-map, among-flat_map, among-map}
use Rattle.vex_forms.specs.declared.slot.Slot.{Slot}
use Rattle.vex_forms.specs.declared.slot.Slot.TheVariants.{G, V, E, U8, I8, R4}
use Rattle.vex_forms.specs.Slots.{slots, first_of, index_bank, goes_by_w}
use Rattle.vex_forms.specs.Slots.Lemmas.{same_slots, same_size}
use Rattle.vex_forms.specs.Layout.{kind_at, kind_for}
use Rattle.vex_forms.specs.Layout.Lemmas.{kinds}
use Rattle.vex_decode.specs.Spelling.{bytes_of}
use Rattle.vex_encode.specs.Standard.{candidate}
use Rattle.vex_encode.specs.Encode.{standard_of, first, is_address}
use Rattle.vex_encode.specs.Conditions.{CanGive, MayBegin, OperandsFit, PlacedFits, first_bank}
use Rattle.vex_encode.proofs.Conditions.{standard_is_some}
use Rattle.vex_encode.proofs.Entries.{first_of_l, standard_given}
use Rattle.vex_encode.proofs.PassedOver.{there, none_there}
use Rattle.vex_encode.proofs.Search.{first_given, first_none}

-- a row that gives a meaning can give it
can_give : (row : Row) (m : Meaning) (bytes : List ℕ) → IsRow row → standard_of row m ≡ Some bytes → CanGive row m
can_give row m bytes is_row e =
    let given = rw (there row m bytes e) at e in
    (standard_is_some row m is_row).0 (rw given refl)

-- a choice of an entry of the table that exists is a row
module _ (entry : Entry) (w : Bool) (l : ℕ) (kind : Kind) (group : Option ℕ) where
  chosen_there : Among entry table → l ≤ 1 → Among kind (kinds_of entry.form) → Among group (group_choices entry.form l)
      → exists (row_at entry w l kind group) ≡ true → Chosen (row_at entry w l kind group)
  unfolding exists
  chosen_there listed one_bit among_kind among_group h =
      let both = both-parts (allows entry.w w && allows entry.l (l == 1)) _ h in
      let rules = both-parts (allows entry.w w) (allows entry.l (l == 1)) both.0 in
      record {
        listed = listed;
        w = rules.0;
        l = rules.1;
        one_bit = one_bit;
        kind = among_kind;
        group = among_group;
        checks = both.1;
      }

-- ---- the first operand

-- the operand at a first slot E
begins_e : (kind : Kind) (index_bank bank : RegisterBank) (in_memory : Bool) (operand : OperandMeaning)
    (operands : List OperandMeaning) → (is_memory kind ≡ true → in_memory ≡ true)
    → (is_register kind ≡ true → in_memory ≡ false) → PlacedFits kind index_bank bank operand
    → first_bank (operand ∷ operands) ≡ (if in_memory then None else Some bank)
begins_e WithoutModRM index_bank bank in_memory operand operands h k fit = absurd fit
begins_e InRegister index_bank bank in_memory (register reg) operands h k fit = rw (k refl) (ap Some fit.bank)
begins_e InRegister index_bank bank in_memory _ operands h k fit = absurd fit
begins_e InMemory index_bank bank in_memory (memory address) operands h k fit = rw (h refl) refl
begins_e InMemory index_bank bank in_memory _ operands h k fit = absurd fit
begins_e VectorIndexed index_bank bank in_memory (memory address) operands h k fit = rw (h refl) refl
begins_e VectorIndexed index_bank bank in_memory _ operands h k fit = absurd fit

-- operands that fit begin as the first slot asks
begins : (kind : Kind) (index_bank : RegisterBank) (in_memory : Bool) (slots : List Slot)
    (operands : List OperandMeaning) → (is_memory kind ≡ true → in_memory ≡ true)
    → (is_register kind ≡ true → in_memory ≡ false) → OperandsFit kind index_bank slots operands
    → MayBegin (first_of slots) in_memory (first_bank operands)
begins kind index_bank in_memory [] operands h k fit = tt
begins kind index_bank in_memory (slot ∷ slots) [] h k fit = absurd fit
begins kind index_bank in_memory (G bank ∷ slots) (register reg ∷ operands) h k fit = ap Some fit.0.bank
begins kind index_bank in_memory (G bank ∷ slots) (_ ∷ operands) h k fit = absurd fit.0
begins kind index_bank in_memory (V bank ∷ slots) (register reg ∷ operands) h k fit = ap Some fit.0.bank
begins kind index_bank in_memory (V bank ∷ slots) (_ ∷ operands) h k fit = absurd fit.0
begins kind index_bank in_memory (E bank ∷ slots) (operand ∷ operands) h k fit =
    begins_e kind index_bank bank in_memory operand operands h k fit.0
begins kind index_bank in_memory (U8 ∷ slots) (operand ∷ operands) h k fit = tt
begins kind index_bank in_memory (I8 ∷ slots) (operand ∷ operands) h k fit = tt
begins kind index_bank in_memory (R4 bank ∷ slots) (operand ∷ operands) h k fit = tt

-- the kind of a form says where its operand E is
in_memory_there : (modrm vector in_memory : Bool) → is_memory (kind_at modrm vector in_memory) ≡ true
    → in_memory ≡ true
in_memory_there true vector true h = refl
in_memory_there true vector false h = cc
in_memory_there false vector in_memory h = cc

in_register_there : (modrm vector in_memory : Bool) → is_register (kind_at modrm vector in_memory) ≡ true
    → in_memory ≡ false
in_register_there true true true h = cc
in_register_there true false true h = cc
in_register_there true vector false h = refl
in_register_there false vector in_memory h = cc

among_kinds : (modrm vector in_memory : Bool) → Among (kind_at modrm vector in_memory) (kinds vector modrm)
among_kinds true vector true = inr (inl refl)
among_kinds true vector false = inl refl
among_kinds false vector in_memory = inl refl

bit_within : (l : Bool) → (if l then 1 else 0) ≤ 1
bit_within true = omega arith
bit_within false = omega arith

-- no row of an entry at a W and an L gives a meaning whose first operand can't stand at their first slot
pub none_begins : (entry : Entry) (w l in_memory : Bool) (m : Meaning) (slot : Option Slot) → Among entry table
    → in_memory ≡ list_any is_address m.operands
    → ((group : Option ℕ) → slot ≡ first_of (slots
    (row_at entry w (if l then 1 else 0) (kind_for entry.form in_memory) group)))
    → (MayBegin slot in_memory (first_bank m.operands) → ⊥)
    → first m (choices_of_l entry w (if l then 1 else 0)) ≡ None
none_begins entry w l in_memory m slot listed is first_is never =
    let bit : ℕ = if l then 1 else 0 in
    let kind = kind_for entry.form in_memory in
    let modrm = (steps entry.form).modrm in
    let vector = gathers entry.form in
    first_of_l m entry w bit in_memory is
    ∙ first_none m (choices_of_kind entry w bit kind) (λ row among.
    let at = from-map (row_at entry w bit kind) row (group_choices entry.form bit) among in
    let at_row = row_at entry w bit kind at.0 in
    ap (λ r. standard_of r m) at.2 ∙ none_there at_row m (λ bytes e.
    let chosen = chosen_there entry w bit kind at.0 listed (bit_within l) (among_kinds modrm vector in_memory) at.1
    (there at_row m bytes e) in
    let gives = can_give at_row m bytes (row-chosen at_row chosen) e in
    never (subst (λ s. MayBegin s in_memory (first_bank m.operands)) (sym (first_is at.0))
    (begins kind (index_bank at_row) in_memory (slots at_row) m.operands (in_memory_there modrm vector in_memory)
    (in_register_there modrm vector in_memory) gives.operands))))

-- ---- W

-- the opcode of a row doesn't go by W
same_opcode_by : (entry : Entry) (l : ℕ) (kind : Kind) (group : Option ℕ) (opcodes : Option (Opcode × Opcode))
    → opcode_by opcodes (row_at entry true l kind group) ≡ opcode_by opcodes (row_at entry false l kind group)
same_opcode_by entry l kind group None = refl
same_opcode_by entry l kind group (Some both) = refl

module _ (entry : Entry) (l : ℕ) (kind : Kind) (group : Option ℕ) where
  -- what a row with W 1 can give, that with W 0 can, where the form doesn't go by W
  can_give_without : (m : Meaning) → goes_by_w entry.form ≡ false → CanGive (row_at entry true l kind group) m
      → CanGive (row_at entry false l kind group) m
  unfolding mark_of opcode_of index_bank
  can_give_without m h gives = record {
    mark = gives.mark;
    opcode = gives.opcode ∙ same_opcode_by entry l kind group (form_row entry.form).opcodes;
    size = gives.size ∙ same_size entry l kind group h;
    operands =
        subst (λ s. OperandsFit kind (index_bank (row_at entry true l kind group)) s m.operands)
        (same_slots entry l kind group h) gives.operands;
  }

  -- and it is a row too, where the entry's rules allow W 0
  chosen_without : allows entry.w false ≡ true → Chosen (row_at entry true l kind group)
      → Chosen (row_at entry false l kind group)
  chosen_without allowed chosen = record {
    listed = chosen.listed;
    w = allowed;
    l = chosen.l;
    one_bit = chosen.one_bit;
    kind = chosen.kind;
    group = chosen.group;
    checks =
        chosen.checks;
  }

  exists_chosen : (w : Bool) → Chosen (row_at entry w l kind group) → exists (row_at entry w l kind group) ≡ true
  unfolding exists
  exists_chosen w chosen = parts-both _ _ (parts-both _ _ chosen.w chosen.l) chosen.checks

  given_without : (m : Meaning) (bytes : List ℕ) → allows entry.w false ≡ true → goes_by_w entry.form ≡ false
      → Chosen (row_at entry true l kind group) → standard_of (row_at entry true l kind group) m ≡ Some bytes
      → (other : List ℕ) × (standard_of (row_at entry false l kind group) m ≡ Some other)
  given_without m bytes allowed h chosen e =
      let row = row_at entry false l kind group in
      let gives = can_give (row_at entry true l kind group) m bytes
      (row-chosen (row_at entry true l kind group) chosen) e in
      let without = chosen_without allowed chosen in (
        bytes_of row (candidate row m),
        sym (standard_given row m (bytes_of row (candidate row m)) (row-chosen row without)
            (exists_chosen false without) (can_give_without m h gives) refl),
      )

one_of_two : (l : ℕ) → Among l (0 ∷ 1 ∷ []) → l ≤ 1
one_of_two l (inl e) = omega arith
one_of_two l (inr (inl e)) = omega arith
one_of_two l (inr (inr e)) = absurd e

neither : (a b : Bool) → (not a || b) ≡ false → (a ≡ true) × (b ≡ false)
neither true b h = (refl, h)
neither false b h = cc

-- no row with W 1 gives a meaning where none with W 0 does, but where W 0 isn't allowed or the form goes by W
pub none_without : (m : Meaning) (entry : Entry) → Among entry table
    → (not (allows entry.w false) || goes_by_w entry.form) ≡ false → first m (choices_of_w entry false) ≡ None
    → first m (choices_of_w entry true) ≡ None
none_without m entry listed h none =
    let parts = neither (allows entry.w false) (goes_by_w entry.form) h in
    first_none m (choices_of_w entry true) (λ row among.
    let at_l = from-flat_map (choices_of_l entry true) row (0 ∷ 1 ∷ []) among in
    let at_kind = from-flat_map (choices_of_kind entry true at_l.0) row (kinds_of entry.form) at_l.2 in
    let at_group = from-map (row_at entry true at_l.0 at_kind.0) row (group_choices entry.form at_l.0) at_kind.2 in
    let at_row = row_at entry true at_l.0 at_kind.0 at_group.0 in
    let other = row_at entry false at_l.0 at_kind.0 at_group.0 in
    let among_other = among-flat_map (choices_of_l entry false) at_l.0 other (0 ∷ 1 ∷ []) at_l.1
    (among-flat_map (choices_of_kind entry false at_l.0) at_kind.0 other (kinds_of entry.form) at_kind.1
    (among-map (row_at entry false at_l.0 at_kind.0) at_group.0 (group_choices entry.form at_l.0) at_group.1)) in
    ap (λ r. standard_of r m) at_group.2 ∙ none_there at_row m (λ bytes e.
    let chosen = chosen_there entry true at_l.0 at_kind.0 at_group.0 listed (one_of_two at_l.0 at_l.1) at_kind.1
    at_group.1 (there at_row m bytes e) in
    let given = given_without entry at_l.0 at_kind.0 at_group.0 m bytes parts.0 parts.1 chosen e in
    first_given m (choices_of_w entry false) other given.0 among_other given.1 none))
