-- Of the rows of an entry, the first that can give a meaning gives its shortest standard bytes.
use Rattle.std.specs.Prelude.{◌≡◌, refl, ℕ, ◌+◌, ◌<◌, ◌≤◌, Bool, true, false, not, ◌&&◌, ◌||◌, ◌==◌, IsTrue, List, []}
use Rattle.std.specs.Prelude.{◌∷◌, map, flat_map, length, drop, Option, Some, None, if◌then◌else◌, ◌++◌}
use Rattle.std.specs.List.{list_any}
use Rattle.std.proofs.Common.{zero, suc, get_or, add-one, eqb-true, inl, inr, arith, ap, ap₂, sym, ◌∙◌, subst}
use Rattle.std.proofs.lemmas.List.{map-append}
use Rattle.x86_opcode.specs.declared.Opcode.{Opcode}
use Rattle.x86_operand.specs.declared.register.RegisterBank.{RegisterBank}
use Rattle.x86_operand.specs.Kind.{Kind, WithoutModRM, InRegister, InMemory, VectorIndexed, is_vector, plain_kind}
use Rattle.x86_operand.specs.Kind.{memory_kind}
use Rattle.x86_operand.specs.Meaning.{OperandMeaning, Meaning}
use Rattle.x86_operand.specs.Same.{same_meaning}
use Rattle.x86_operand.specs.Same.Lemmas.{same_meaning_equal}
use Rattle.x86_address.specs.Place.{Place, NoPlace, Direct, Based, RipBased, Scaled, Baseless, Target, NoTarget, Number}
use Rattle.x86_address.specs.Place.{At, kind_of_target, target, place_bytes}
use Rattle.x86_address.specs.Shortest.{shortest, x_of, b_of}
use Rattle.x86_address.specs.Shortest.Lemmas.{kind_of-shortest, kind_of_target-target}
use Rattle.vex_rows.specs.declared.entry.Entry.{Entry}
use Rattle.vex_rows.specs.declared.form.Form.{Form}
use Rattle.vex_rows.specs.declared.form.Form.TheVariants.{Nothing}
use Rattle.vex_rows.specs.declared.form_row.SlotRule.{SlotRule}
use Rattle.vex_rows.specs.declared.form_row.SlotRule.TheVariants as slot_rule
use Rattle.vex_rows.specs.Few.{items}
use Rattle.vex_rows.specs.FormRows.{form_row, gathers}
use Rattle.vex_rows.specs.Rules.{map_number}
use Rattle.vex_rows.specs.Steps.{steps}
use Rattle.vex_rows.specs.Groups.{groups}
use Rattle.vex_rows.specs.Row.{Row, Among, IsRow, exists, has_groups, has_imm, kinds_of, group_choices, row_at, choices}
use Rattle.vex_rows.specs.Row.{choices_of_kind, choices_of_l, choices_of_w, is_memory}
use Rattle.vex_rows.specs.Row.Lists.{both-parts, parts-both, from-flat_map, from-map}
use Rattle.vex_forms.specs.declared.slot.Slot.{Slot}
use Rattle.vex_forms.specs.declared.slot.Slot.TheVariants.{G, V, E, U8, I8, R4}
use Rattle.vex_forms.specs.Slots.{slots, slots_at, slots_of, bank_at, names_e}
use Rattle.vex_forms.specs.Gives.{gives, slot_operand}
use Rattle.vex_forms.specs.Layout.{kind_for, may_be, row_for}
use Rattle.vex_forms.specs.Layout.Lemmas.{kinds, kind-again, is_memory-plain, is_memory-memory_kind}
use Rattle.vex_forms.specs.Fields.{Fields}
use Rattle.vex_decode.specs.Fields.{C4, C5, prefix_bytes, fits_two_bytes, shortest_form}
use Rattle.vex_decode.specs.Spelling.{bytes_of, meant, imm_bytes}
use Rattle.vex_encode.specs.Standard.{operand_of_kind, target_of, candidate, is_placed, is_given, standard}
use Rattle.vex_encode.specs.Encode.{standard_of, first_of, first, is_address, best}
use Rattle.vex_encode.specs.Conditions.{CanGive}
use Rattle.vex_encode.proofs.Conditions.{fits_given, standard_is_some}
use Rattle.vex_encode.proofs.Standard.{kind_asked, bytes_length, imm_length}
use Rattle.vex_encode.proofs.Search.{NoLonger, first-append, first_of-none, first_of_two, first_none, best-first_of_two}

true_not_false : true ≡ false → ⊥
true_not_false h = cc

-- ---- the operand E of rows of one entry and one kind stands at the same slot

-- which slots name it
v_hidden : (b c : Bool) (x y : RegisterBank) → b ≡ c
    → map names_e (if b then [] else V x ∷ []) ≡ map names_e (if c then [] else V y ∷ [])
v_hidden true true x y e = refl
v_hidden true false x y e = cc
v_hidden false true x y e = cc
v_hidden false false x y e = refl

rule_named : (row other : Row) (at : SlotRule) → row.kind ≡ other.kind
    → map names_e (slots_at row at) ≡ map names_e (slots_at other at)
rule_named row other (slot_rule.G bank) k = refl
rule_named row other (slot_rule.V bank) k = refl
rule_named row other (slot_rule.VInRegister bank) k =
    v_hidden (is_memory row.kind) (is_memory other.kind) (bank_at row bank) (bank_at other bank) (ap is_memory k)
rule_named row other (slot_rule.E bank) k = refl
rule_named row other slot_rule.U8 k = refl
rule_named row other slot_rule.I8 k = refl
rule_named row other (slot_rule.R4 bank) k = refl

rules_named : (row other : Row) (rules : List SlotRule) → row.kind ≡ other.kind
    → map names_e (flat_map (slots_at row) rules) ≡ map names_e (flat_map (slots_at other) rules)
rules_named row other [] k = refl
rules_named row other (at ∷ rules) k =
    map-append names_e (slots_at row at) (flat_map (slots_at row) rules)
    ∙ ap₂ ◌++◌ (rule_named row other at k) (rules_named row other rules k)
    ∙ sym (map-append names_e (slots_at other at) (flat_map (slots_at other) rules))

named_at : (form : Form) (row other : Row) → row.kind ≡ other.kind
    → map names_e (slots_of form row) ≡ map names_e (slots_of form other)
named_at form row other k = rules_named row other (items (form_row form).slots) k

-- the operand at the first place that is marked
abbrev marked : List Bool → List OperandMeaning → OperandMeaning
marked [] operands = Rattle.x86_operand.specs.Meaning.nothing
marked (b ∷ marks) [] = Rattle.x86_operand.specs.Meaning.nothing
marked (b ∷ marks) (operand ∷ operands) = if b then operand else marked marks operands

operand_marked : (is : Slot → Bool) (all : List Slot) (operands : List OperandMeaning)
    → operand_of_kind is all operands ≡ marked (map is all) operands
operand_marked is [] operands = refl
operand_marked is (slot ∷ rest) [] = refl
operand_marked is (slot ∷ rest) (operand ∷ operands) =
    ap (λ o. if is slot then operand else o) (operand_marked is rest operands)

same_e : (row other : Row) (operands : List OperandMeaning) → row.entry ≡ other.entry → row.kind ≡ other.kind
    → operand_of_kind names_e (slots row) operands ≡ operand_of_kind names_e (slots other) operands
unfolding slots
same_e row other operands e k =
    operand_marked names_e (slots_of row.entry.form row) operands
    ∙ ap (λ marks. marked marks operands) (named_at row.entry.form row other k
    ∙ ap (λ (entry : Entry). map names_e (slots_of entry.form other)) e)
    ∙ sym (operand_marked names_e (slots_of other.entry.form other) operands)

-- ---- their standard bytes differ in length by W alone

place_length : (reg other : ℕ) (place : Place) → length (place_bytes reg place) ≡ length (place_bytes other place)
place_length reg other NoPlace = refl
place_length reg other (Direct rm) = refl
place_length reg other (Based rm d) = refl
place_length reg other (RipBased n) = refl
place_length reg other (Scaled k i j d) = refl
place_length reg other (Baseless k i n) = refl

prefix_length : (f g : Fields) → (fits_two_bytes g ≡ true → fits_two_bytes f ≡ true)
    → length (prefix_bytes (shortest_form f) f) ≤ length (prefix_bytes (shortest_form g) g)
prefix_length f g h = by (fits_two_bytes f) (fits_two_bytes g) refl refl where
  by : (b c : Bool) → fits_two_bytes f ≡ b → fits_two_bytes g ≡ c
      → length (prefix_bytes (if b then C5 else C4) f) ≤ length (prefix_bytes (if c then C5 else C4) g)
  by true true p q = omega arith
  by true false p q = omega arith
  by false false p q = omega arith
  by false true p q = let yes : fits_two_bytes f ≡ true = h q in cc

not_false : (w : Bool) → not w ≡ true → w ≡ false
not_false true h = cc
not_false false h = refl

false_not : (w : Bool) → w ≡ false → not w ≡ true
false_not true h = cc
false_not false h = refl

module _ (row other : Row) (m : Meaning) (e : row.entry ≡ other.entry) (k : row.kind ≡ other.kind)
    (w : other.w ≡ false → row.w ≡ false) where
  asked : target_of row.kind (operand_of_kind names_e (slots row) m.operands)
      ≡ target_of other.kind (operand_of_kind names_e (slots other) m.operands)
  asked = ap₂ target_of k (same_e row other m.operands e k)

  fits_again : fits_two_bytes (candidate other m).fields ≡ true → fits_two_bytes (candidate row m).fields ≡ true
  unfolding candidate
  fits_again h =
      let at_b = both-parts (map_number other.entry.map == 1 && not other.w && not
      (x_of (target_of other.kind (operand_of_kind names_e (slots other) m.operands)))) _ h in
      let at_x = both-parts (map_number other.entry.map == 1 && not other.w) _ at_b.0 in
      let at_w = both-parts (map_number other.entry.map == 1) (not other.w) at_x.0 in
      parts-both _ _ (parts-both _ _ (parts-both _ _
      (ap (λ (entry : Entry). map_number entry.map == 1) e ∙ at_w.0)
      (false_not row.w (w (not_false other.w at_w.1))))
      (ap (λ e. not (x_of e)) asked ∙ at_x.1))
      (ap (λ e. not (b_of e)) asked ∙ at_b.1)

  place_same : length (place_bytes (candidate row m).reg (candidate row m).place)
      ≡ length (place_bytes (candidate other m).reg (candidate other m).place)
  unfolding candidate
  place_same = place_length _ _ _ ∙ ap (λ e. length (place_bytes (candidate other m).reg (shortest e))) asked

  form_is : (r : Row) → (candidate r m).form ≡ shortest_form (candidate r m).fields
  unfolding candidate
  form_is r = refl

  imm_same : length (imm_bytes (has_imm row) (candidate row m).imm)
      ≡ length (imm_bytes (has_imm other) (candidate other m).imm)
  unfolding has_imm
  imm_same = imm_length (has_imm row) _ (candidate other m).imm
      ∙ ap (λ (entry : Entry). length (imm_bytes (steps entry.form).imm (candidate other m).imm)) e

  prefix_no_longer : length (prefix_bytes (candidate row m).form (candidate row m).fields) ≤ length
      (prefix_bytes (candidate other m).form (candidate other m).fields)
  prefix_no_longer = rw (form_is row, form_is other)
      (prefix_length (candidate row m).fields (candidate other m).fields fits_again)

  no_longer : length (bytes_of row (candidate row m)) ≤ length (bytes_of other (candidate other m))
  no_longer = omega (
    arith,
    bytes_length row (candidate row m),
    bytes_length other (candidate other m),
    place_same,
    prefix_no_longer,
    imm_same,
  )

-- ---- what a row gives has an address exactly where its operand E is in memory

-- whether a target is an address
abbrev pub is_at : Target → Bool
is_at NoTarget = false
is_at (Number n) = false
is_at (At a) = true

is_at-memory : (e : Target) → is_at e ≡ is_memory (kind_of_target e)
is_at-memory NoTarget = refl
is_at-memory (Number n) = refl
is_at-memory (At a) = refl

module _ (index_bank : RegisterBank) (r v reg : ℕ) (e : Target) (imm : ℕ) where
  address_given : (slot : Slot) → is_address (slot_operand index_bank r v reg e imm slot) ≡ (names_e slot && is_at e)
  address_given (G bank) = refl
  address_given (V bank) = refl
  address_given (E bank) = by e where
    by : (e : Target) → is_address (slot_operand index_bank r v reg e imm (E bank)) ≡ is_at e
    by NoTarget = refl
    by (Number n) = refl
    by (At a) = refl
  address_given U8 = refl
  address_given I8 = refl
  address_given (R4 bank) = refl

  pub addresses_given : (slots : List Slot)
      → list_any is_address (map (slot_operand index_bank r v reg e imm) slots) ≡ (list_any names_e slots && is_at e)
  addresses_given [] = refl
  addresses_given (slot ∷ slots) = ap₂ ◌||◌ (address_given slot) (addresses_given slots)
      ∙ either (names_e slot) (list_any names_e slots) (is_at e) where
        either : (a b c : Bool) → ((a && c) || (b && c)) ≡ ((a || b) && c)
        either true true true = refl
        either true true false = refl
        either true false true = refl
        either true false false = refl
        either false b c = refl

-- with ModRM a slot names the operand E
abbrev has_e : Form → Row → Bool
has_e form row = not (steps form).modrm || list_any names_e (slots_of form row)

has_e_without : (form : Form) (row : Row) → has_e form (row_at row.entry row.w row.l WithoutModRM row.group) ≡ true
unfolding steps form_row
has_e_without Nothing row = refl
has_e_without _ row = refl

has_e_register : (form : Form) (row : Row) → has_e form (row_at row.entry row.w row.l InRegister row.group) ≡ true
unfolding steps form_row
has_e_register Nothing row = refl
has_e_register _ row = refl

has_e_memory : (form : Form) (row : Row) → has_e form (row_at row.entry row.w row.l InMemory row.group) ≡ true
unfolding steps form_row
has_e_memory Nothing row = refl
has_e_memory _ row = refl

has_e_vector : (form : Form) (row : Row) → has_e form (row_at row.entry row.w row.l VectorIndexed row.group) ≡ true
unfolding steps form_row
has_e_vector Nothing row = refl
has_e_vector _ row = refl

has_e_by : (form : Form) (row : Row) (kind : Kind) → has_e form (row_at row.entry row.w row.l kind row.group) ≡ true
has_e_by form row WithoutModRM = has_e_without form row
has_e_by form row InRegister = has_e_register form row
has_e_by form row InMemory = has_e_memory form row
has_e_by form row VectorIndexed = has_e_vector form row

other_part : (a b : Bool) → (not a || b) ≡ true → a ≡ true → b ≡ true
other_part true b h e = h
other_part false b h e = cc

pub with_e : (form : Form) (row : Row) → (steps form).modrm ≡ true → list_any names_e (slots_of form row) ≡ true
with_e form row h = other_part (steps form).modrm (list_any names_e (slots_of form row)) (has_e_by form row row.kind) h

memory_with_modrm : (vector modrm : Bool) (kind : Kind) → Among kind (kinds vector modrm) → is_memory kind ≡ true
    → modrm ≡ true
memory_with_modrm vector true kind m h = refl
memory_with_modrm vector false kind (inl e) h =
    let never : is_memory WithoutModRM ≡ true = ap is_memory (sym e) ∙ h in
    cc
memory_with_modrm vector false kind (inr m) h = absurd m

-- the meaning of the parts that are put together
address_meant : (row : Row) (m : Meaning) → Among row.kind (kinds_of row.entry.form)
    → list_any is_address (meant row (candidate row m)).operands ≡ is_memory row.kind
unfolding gives candidate slots
address_meant row m among =
    let e = target_of row.kind (operand_of_kind names_e (slots row) m.operands) in
    let named = target (is_vector row.kind) (shortest e) (x_of e) (b_of e) in
    let kind : kind_of_target named ≡ plain_kind row.kind =
    kind_of_target-target 1 (is_vector row.kind) (shortest e) (x_of e) (b_of e) ∙ kind_of-shortest 1 e
    ∙ kind_asked row.kind (operand_of_kind names_e (slots row) m.operands) in
    addresses_given _ _ _ _ named _ (slots row)
    ∙ ap (λ b. list_any names_e (slots row) && b) (is_at-memory named ∙ ap is_memory kind ∙ is_memory-plain row.kind)
    ∙ by (list_any names_e (slots row)) (is_memory row.kind)
    (λ h. with_e row.entry.form row (memory_with_modrm (gathers row.entry.form) (steps row.entry.form).modrm
    row.kind among h)) where
      by : (named memory : Bool) → (memory ≡ true → named ≡ true) → (named && memory) ≡ memory
      by true memory h = refl
      by false true h = let yes : false ≡ true = h refl in cc
      by false false h = refl

-- standard bytes are those of the parts that are put together, which mean the meaning
pub record Made (row : Row) (m : Meaning) (bytes : List ℕ) : Type 0 where
  pub written : bytes ≡ bytes_of row (candidate row m)
  pub means : meant row (candidate row m) ≡ m

pub made : (row : Row) (m : Meaning) (bytes : List ℕ) → standard_of row m ≡ Some bytes → Made row m bytes
unfolding standard
made row m bytes e = by (exists row) (is_given row m) refl e where
  by : (there same : Bool) → is_given row m ≡ same
      → (if there then (if same then Some (bytes_of row (candidate row m)) else None) else None) ≡ Some bytes
      → Made row m bytes
  by true true h e = record {
    written = cc;
    means =
        same_meaning_equal _ _ (both-parts (is_placed row.kind (candidate row m).place)
        (same_meaning (meant row (candidate row m)) m) h).1;
  }
  by true false h e = cc
  by false same h e = cc

-- so only rows of the kind of its operands can give a meaning
pub kind_made : (row : Row) (m : Meaning) (bytes : List ℕ) → Among row.kind (kinds_of row.entry.form)
    → standard_of row m ≡ Some bytes → list_any is_address m.operands ≡ is_memory row.kind
kind_made row m bytes among e = ap (λ (m : Meaning). list_any is_address m.operands) (sym (made row m bytes e).means)
    ∙ address_meant row m among

pub other_kind : (row : Row) (m : Meaning) → Among row.kind (kinds_of row.entry.form)
    → (list_any is_address m.operands ≡ is_memory row.kind → ⊥) → standard_of row m ≡ None
other_kind row m among never = by (standard_of row m) refl where
  by : (o : Option (List ℕ)) → standard_of row m ≡ o → o ≡ None
  by None e = refl
  by (Some bytes) e = absurd (never (kind_made row m bytes among e))

-- ---- the rows of an entry

-- a choice of an entry at a W
record ChoiceAt (entry : Entry) (w : Bool) (row : Row) : Type 0 where
  entry_is : row.entry ≡ entry
  w_is : row.w ≡ w
  kind : Among row.kind (kinds_of entry.form)

choice_at : (entry : Entry) (w : Bool) (row : Row) → Among row (choices_of_w entry w) → ChoiceAt entry w row
choice_at entry w row m =
    let at_l = from-flat_map (choices_of_l entry w) row (0 ∷ 1 ∷ []) m in
    let at_kind = from-flat_map (choices_of_kind entry w at_l.0) row (kinds_of entry.form) at_l.2 in
    let at_group = from-map (row_at entry w at_l.0 at_kind.0) row (group_choices entry.form at_l.0) at_kind.2 in
    let chosen : ChoiceAt entry w (row_at entry w at_l.0 at_kind.0 at_group.0) =
    record { entry_is = refl; w_is = refl; kind = at_kind.1 } in
    subst (ChoiceAt entry w) (sym at_group.2) chosen

one_kind : (vector modrm : Bool) (kind other : Kind) → Among kind (kinds vector modrm)
    → Among other (kinds vector modrm) → is_memory kind ≡ is_memory other → kind ≡ other
one_kind vector modrm kind other m n h =
    sym (kind-again vector modrm kind m)
    ∙ ap (λ memory. if modrm then (if memory then memory_kind vector else InRegister) else WithoutModRM) h
    ∙ kind-again vector modrm other n

-- of two choices of an entry the one gives no longer bytes, unless the other alone has W 0
no_longer_choice : (entry : Entry) (w other_w : Bool) (m : Meaning) (row other : Row) → (other_w ≡ false → w ≡ false)
    → ChoiceAt entry w row → ChoiceAt entry other_w other → NoLonger m row other
no_longer_choice entry w other_w m row other order at there a b e f =
    let same : row.entry ≡ other.entry = at.entry_is ∙ sym there.entry_is in
    let among = subst (λ (entry : Entry). Among row.kind (kinds_of entry.form)) (sym at.entry_is) at.kind in
    let among_other = subst (λ (entry : Entry). Among other.kind (kinds_of entry.form)) (sym there.entry_is) there.kind
    in
    let kind = one_kind (gathers entry.form) (steps entry.form).modrm row.kind other.kind at.kind there.kind
    (sym (kind_made row m a among e) ∙ kind_made other m b among_other f) in
    let fewer = no_longer row other m same kind (λ h. at.w_is ∙ order (sym there.w_is ∙ h)) in
    omega (arith, fewer, ap length (made row m a e).written, ap length (made other m b f).written)

-- the first row of an entry that can give a meaning
pub best_of_entry : (m : Meaning) (entry : Entry)
    → best m (choices entry) ≡ first_of (first m (choices_of_w entry false)) (first m (choices_of_w entry true))
unfolding choices
best_of_entry m entry =
    best-first_of_two m (choices_of_w entry) false true
    (λ x y h k. no_longer_choice entry false false m x y (λ e. e) (choice_at entry false x h)
    (choice_at entry false y k))
    (λ x y h k. no_longer_choice entry true true m x y (λ e. e) (choice_at entry true x h) (choice_at entry true y k))
    (λ x y h k. no_longer_choice entry false true m x y (λ e. refl) (choice_at entry false x h)
    (choice_at entry true y k))

-- ---- the rows of an entry at one W and L

-- a kind that isn't the meaning's gives nothing
passed_over : (m : Meaning) (entry : Entry) (w : Bool) (l : ℕ) (kind : Kind) → Among kind (kinds_of entry.form)
    → (list_any is_address m.operands ≡ is_memory kind → ⊥) → first m (choices_of_kind entry w l kind) ≡ None
passed_over m entry w l kind among never = first_none m (choices_of_kind entry w l kind) (λ row k.
    let at = from-map (row_at entry w l kind) row (group_choices entry.form l) k in
    ap (λ r. standard_of r m) at.2 ∙ other_kind (row_at entry w l kind at.0) m among never)

pub first_of_l : (m : Meaning) (entry : Entry) (w : Bool) (l : ℕ) (memory : Bool)
    → memory ≡ list_any is_address m.operands →
    first m (choices_of_l entry w l) ≡ first m (choices_of_kind entry w l (kind_for entry.form memory))
first_of_l m entry w l memory is = by (steps entry.form).modrm refl memory is where
  by : (modrm : Bool) → (steps entry.form).modrm ≡ modrm → (memory : Bool) → memory ≡ list_any is_address m.operands →
      first m (flat_map (choices_of_kind entry w l)
      (if modrm then InRegister ∷ memory_kind (gathers entry.form) ∷ [] else WithoutModRM ∷ []))
      ≡ first m (choices_of_kind entry w l
      (if modrm then (if memory then memory_kind (gathers entry.form) else InRegister) else WithoutModRM))
  by true h true is =
      first_of_two m (choices_of_kind entry w l) InRegister (memory_kind (gathers entry.form))
      ∙ ap (λ o. first_of o (first m (choices_of_kind entry w l (memory_kind (gathers entry.form)))))
      (passed_over m entry w l InRegister (rw h (inl refl)) (λ k. true_not_false (is ∙ k)))
  by true h false is =
      first_of_two m (choices_of_kind entry w l) InRegister (memory_kind (gathers entry.form))
      ∙ ap (first_of (first m (choices_of_kind entry w l InRegister)))
      (passed_over m entry w l (memory_kind (gathers entry.form)) (rw h (inr (inl refl)))
      (λ k. true_not_false (sym (is ∙ k ∙ is_memory-memory_kind (gathers entry.form)))))
      ∙ first_of-none _
  by false h memory is = first-append m (choices_of_kind entry w l WithoutModRM) [] ∙ first_of-none _

-- a form has groups exactly where there are some
abbrev pub any_group : List (ℕ × Opcode) → Bool
any_group [] = false
any_group (group ∷ gs) = true

pub grouped : (form : Form) (l : ℕ) → has_groups form ≡ any_group (groups form l)
unfolding has_groups steps groups form_row
grouped Nothing l = refl
grouped _ l = refl

any_length : (gs : List (ℕ × Opcode)) (b : Bool) → (length gs == 0) ≡ b → any_group gs ≡ not b
any_length [] true h = refl
any_length [] false h = cc
any_length (group ∷ gs) true h = absurd (omega (arith, eqb-true (length (group ∷ gs)) 0 h))
any_length (group ∷ gs) false h = refl

-- without groups there is one row
pub first_alone : (m : Meaning) (entry : Entry) (w l memory : Bool) → memory ≡ list_any is_address m.operands
    → (length (groups entry.form (if l then 1 else 0)) == 0) ≡ true →
    first m (choices_of_l entry w (if l then 1 else 0)) ≡ standard_of (row_for entry w l memory 0) m
first_alone m entry w l memory is none =
    let alone : has_groups entry.form ≡ false =
    grouped entry.form (if l then 1 else 0) ∙ any_length (groups entry.form (if l then 1 else 0)) true none in
    first_of_l m entry w (if l then 1 else 0) memory is ∙ by (has_groups entry.form) alone where
      by : (has : Bool) → has ≡ false → first m
          (map (row_at entry w (if l then 1 else 0) (kind_for entry.form memory))
          (if has then map (λ g. Some g.0) (groups entry.form (if l then 1 else 0)) else None ∷ []))
          ≡ standard_of (row_at entry w (if l then 1 else 0) (kind_for entry.form memory)
          (if has then Some 0 else None)) m
      by true h = cc
      by false h = first_of-none _

-- with groups there is one for each
pub first_grouped : (m : Meaning) (entry : Entry) (w l memory : Bool) → memory ≡ list_any is_address m.operands
    → (length (groups entry.form (if l then 1 else 0)) == 0) ≡ false →
    first m (choices_of_l entry w (if l then 1 else 0))
    ≡ first m (map (λ g. row_for entry w l memory g.0) (groups entry.form (if l then 1 else 0)))
first_grouped m entry w l memory is some =
    let has : has_groups entry.form ≡ true =
    grouped entry.form (if l then 1 else 0) ∙ any_length (groups entry.form (if l then 1 else 0)) false some in
    first_of_l m entry w (if l then 1 else 0) memory is
    ∙ by (has_groups entry.form) has (groups entry.form (if l then 1 else 0)) where
      by : (has : Bool) → has ≡ true → (gs : List (ℕ × Opcode))
          → first m (map (row_at entry w (if l then 1 else 0) (kind_for entry.form memory))
          (if has then map (λ g. Some g.0) gs else None ∷ []))
          ≡ first m (map (λ g. row_at entry w (if l then 1 else 0) (kind_for entry.form memory)
          (if has then Some g.0 else None)) gs)
      by false h gs = cc
      by true h [] = refl
      by true h (g ∷ gs) = ap (first_of (standard_of
          (row_at entry w (if l then 1 else 0) (kind_for entry.form memory) (Some g.0)) m)) (by true refl gs)

-- one more of some rows, and none left
pub first_step : {A : Type 0} (m : Meaning) (f : A → Row) (xs : List A) (i : ℕ) (x : A) → i < length xs →
    first m (map f (drop i xs)) ≡ first_of (standard_of (f (get_or xs i x)) m) (first m (map f (drop (i + 1) xs)))
first_step m f [] i x h = absurd (omega arith)
first_step m f (y ∷ xs) zero x h = refl
first_step m f (y ∷ xs) (suc i) x h = rw add-one (first_step m f xs i x (omega arith) ∙ rw add-one refl)

pub first_end : {A : Type 0} (m : Meaning) (f : A → Row) (xs : List A) (i : ℕ) → length xs ≤ i
    → first m (map f (drop i xs)) ≡ None
first_end m f [] zero h = refl
first_end m f [] (suc i) h = refl
first_end m f (y ∷ xs) zero h = absurd (omega arith)
first_end m f (y ∷ xs) (suc i) h = first_end m f xs i (omega arith)

-- ---- a choice that isn't a row

and_true : (x y : Bool) → y ≡ true → ((x && y) ≡ true → ⊥) → x ≡ false
and_true true y h never = absurd (never h)
and_true false y h never = refl

neither : (a b : Bool) → (a || not b) ≡ false → (a ≡ false) × (b ≡ true)
neither true b h = cc
neither false true h = (refl, refl)
neither false false h = cc

pub no_row : (entry : Entry) (w l memory : Bool) (group : ℕ) (m : Meaning) → memory ≡ list_any is_address m.operands
    → ((may_be entry memory && exists (row_for entry w l memory group)) ≡ true → ⊥)
    → None ≡ standard_of (row_for entry w l memory group) m
no_row entry w l memory group m is never = by (exists (row_for entry w l memory group)) refl where
  by : (b : Bool) → exists (row_for entry w l memory group) ≡ b → None ≡ standard_of (row_for entry w l memory group) m
  by false e = rw e refl
  by true e =
      let parts = neither (steps entry.form).modrm memory
      (and_true (may_be entry memory) (exists (row_for entry w l memory group)) e never) in
      let among : Among (kind_for entry.form memory) (kinds_of entry.form) = rw (parts.0) (inl refl) in
      let kind : is_memory (kind_for entry.form memory) ≡ false =
      ap (λ modrm. is_memory (if modrm then (if memory then memory_kind (gathers entry.form) else InRegister)
      else WithoutModRM)) parts.0 in
      sym (other_kind (row_for entry w l memory group) m among (λ k. true_not_false (sym parts.1 ∙ is ∙ k ∙ kind)))

-- ---- a choice that is one

pub first_true : (a b : Bool) → IsTrue (a && b) → a ≡ true
first_true true b h = refl
first_true false b h = cc

pub second_true : (a b : Bool) → IsTrue (a && b) → b ≡ true
second_true true b h = h
second_true false b h = cc

pub standard_given : (row : Row) (m : Meaning) (bytes : List ℕ) → IsRow row → exists row ≡ true → CanGive row m
    → bytes ≡ bytes_of row (candidate row m) → Some bytes ≡ standard_of row m
unfolding standard
standard_given row m bytes is_row there gives b =
    rw (there, fits_given row m is_row gives) (ap Some b)

pub standard_refused : (row : Row) (m : Meaning) → IsRow row → exists row ≡ true → (CanGive row m → ⊥)
    → None ≡ standard_of row m
standard_refused row m is_row there never = rw there (by (standard row m) refl) where
  by : (o : Option (List ℕ)) → standard row m ≡ o → None ≡ o
  by None e = refl
  by (Some bytes) e = absurd (never ((standard_is_some row m is_row).0 (rw e refl)))
