-- The slots of every row fit its steps.
use Rattle.std.specs.Prelude.{◌≡◌, refl, ℕ, ◌≤◌, nat_le, length, Bool, true, false, not, ◌&&◌, ◌||◌, if◌then◌else◌}
use Rattle.std.specs.Prelude.{List, [], ◌∷◌, ◌++◌, find, flat_map, Option, Some}
use Rattle.std.proofs.Common.{ap, ap₂}
use Rattle.x86_opcode.specs.declared.Opcode.{Opcode}
use Rattle.vex_rows.specs.declared.entry.Entry.{Entry}
use Rattle.vex_rows.specs.declared.form_row.BankRule.{BankRule}
use Rattle.vex_rows.specs.declared.form_row.BankRule.TheVariants as rule
use Rattle.vex_rows.specs.declared.form_row.ByteCount.{ByteCount}
use Rattle.vex_rows.specs.declared.form_row.ByteCount.TheVariants as count
use Rattle.vex_rows.specs.declared.form_row.SizeRule.{SizeRule}
use Rattle.vex_rows.specs.declared.form_row.SizeRule.TheVariants.{Always, ByOpcode}
use Rattle.vex_rows.specs.declared.form_row.SlotRule.{SlotRule}
use Rattle.vex_rows.specs.declared.form_row.SlotRule.TheVariants as slot_rule
use Rattle.vex_rows.specs.Few.{items}
use Rattle.vex_forms.specs.declared.slot.Slot.TheVariants.{G, V, E, U8, I8, R4}
use Rattle.x86_operand.specs.Kind.{Kind, WithoutModRM, InRegister, InMemory, VectorIndexed}
use Rattle.vex_rows.specs.declared.form.Form.{Form}
use Rattle.vex_rows.specs.declared.form.Form.TheVariants.{Nothing}
use Rattle.vex_rows.specs.FormRows.{form_row, sizes}
use Rattle.vex_rows.specs.Steps.{steps}
use Rattle.vex_rows.specs.Row.{Row, row_at, has_groups, is_memory}
use Rattle.std.specs.List.{list_any}
use Rattle.std.proofs.lemmas.Bool.{leb-true}
use Rattle.vex_rows.specs.Row.Lists.{both-parts}
use Rattle.vex_forms.specs.declared.slot.VvvvRule.TheVariants.{Named, Zero, Free}
use Rattle.vex_forms.specs.Slots.{slots, slots_at, slots_of, names_g, names_v, demands_v, v_rule, bank_at, bytes_at}
use Rattle.vex_forms.specs.Slots.{is_of, found_or, size_at, size_of, goes_by_w, bank_goes_by_w, slot_goes_by_w}
use Rattle.vex_forms.specs.Slots.{count_goes_by_w, size_goes_by_w}
use Rattle.vex_forms.specs.WellFormed.{is_sound, is_distinct, is_free, immediates, has_few}

neither : (a b : Bool) → (a || b) ≡ false → (a ≡ false) × (b ≡ false)
neither true b h = cc
neither false b h = (refl, h)

-- by the kind of a row, on which the slots of some forms depend
by_kind : (test : Kind → Bool) → test WithoutModRM ≡ true → test InRegister ≡ true → test InMemory ≡ true
    → test VectorIndexed ≡ true → (kind : Kind) → test kind ≡ true
by_kind test a b c d WithoutModRM = a
by_kind test a b c d InRegister = b
by_kind test a b c d InMemory = c
by_kind test a b c d VectorIndexed = d

sound_without : (form : Form) (row : Row) → is_sound form (row_at row.entry row.w row.l WithoutModRM row.group) ≡ true
unfolding steps form_row
sound_without Nothing row = refl
sound_without _ row = refl

sound_register : (form : Form) (row : Row) → is_sound form (row_at row.entry row.w row.l InRegister row.group) ≡ true
unfolding steps form_row
sound_register Nothing row = refl
sound_register _ row = refl

sound_memory : (form : Form) (row : Row) → is_sound form (row_at row.entry row.w row.l InMemory row.group) ≡ true
unfolding steps form_row
sound_memory Nothing row = refl
sound_memory _ row = refl

sound_vector : (form : Form) (row : Row) → is_sound form (row_at row.entry row.w row.l VectorIndexed row.group) ≡ true
unfolding steps form_row
sound_vector Nothing row = refl
sound_vector _ row = refl

pub sound : (form : Form) (row : Row) → is_sound form row ≡ true
sound form row = by_kind (λ kind. is_sound form (row_at row.entry row.w row.l kind row.group)) (sound_without form row)
    (sound_register form row) (sound_memory form row) (sound_vector form row) row.kind

-- no form names a field twice
distinct_without : (form : Form) (row : Row)
    → is_distinct (slots_of form (row_at row.entry row.w row.l WithoutModRM row.group)) ≡ true
unfolding form_row
distinct_without Nothing row = refl
distinct_without _ row = refl

distinct_register : (form : Form) (row : Row)
    → is_distinct (slots_of form (row_at row.entry row.w row.l InRegister row.group)) ≡ true
unfolding form_row
distinct_register Nothing row = refl
distinct_register _ row = refl

distinct_memory : (form : Form) (row : Row)
    → is_distinct (slots_of form (row_at row.entry row.w row.l InMemory row.group)) ≡ true
unfolding form_row
distinct_memory Nothing row = refl
distinct_memory _ row = refl

distinct_vector : (form : Form) (row : Row)
    → is_distinct (slots_of form (row_at row.entry row.w row.l VectorIndexed row.group)) ≡ true
unfolding form_row
distinct_vector Nothing row = refl
distinct_vector _ row = refl

pub distinct : (form : Form) (row : Row) → is_distinct (slots_of form row) ≡ true
distinct form row = by_kind (λ kind. is_distinct (slots_of form (row_at row.entry row.w row.l kind row.group)))
    (distinct_without form row) (distinct_register form row) (distinct_memory form row) (distinct_vector form row)
    row.kind

-- no form names a field that isn't free
free_without : (form : Form) (row : Row) → is_free form (row_at row.entry row.w row.l WithoutModRM row.group) ≡ true
unfolding steps has_groups form_row
free_without Nothing row = refl
free_without _ row = refl

free_register : (form : Form) (row : Row) → is_free form (row_at row.entry row.w row.l InRegister row.group) ≡ true
unfolding steps has_groups form_row
free_register Nothing row = refl
free_register _ row = refl

free_memory : (form : Form) (row : Row) → is_free form (row_at row.entry row.w row.l InMemory row.group) ≡ true
unfolding steps has_groups form_row
free_memory Nothing row = refl
free_memory _ row = refl

free_vector : (form : Form) (row : Row) → is_free form (row_at row.entry row.w row.l VectorIndexed row.group) ≡ true
unfolding steps has_groups form_row
free_vector Nothing row = refl
free_vector _ row = refl

pub free : (form : Form) (row : Row) → is_free form row ≡ true
free form row = by_kind (λ kind. is_free form (row_at row.entry row.w row.l kind row.group)) (free_without form row)
    (free_register form row) (free_memory form row) (free_vector form row) row.kind

-- no form has more than four slots
few_without : (form : Form) (row : Row) → has_few form (row_at row.entry row.w row.l WithoutModRM row.group) ≡ true
unfolding form_row
few_without Nothing row = refl
few_without _ row = refl

few_register : (form : Form) (row : Row) → has_few form (row_at row.entry row.w row.l InRegister row.group) ≡ true
unfolding form_row
few_register Nothing row = refl
few_register _ row = refl

few_memory : (form : Form) (row : Row) → has_few form (row_at row.entry row.w row.l InMemory row.group) ≡ true
unfolding form_row
few_memory Nothing row = refl
few_memory _ row = refl

few_vector : (form : Form) (row : Row) → has_few form (row_at row.entry row.w row.l VectorIndexed row.group) ≡ true
unfolding form_row
few_vector Nothing row = refl
few_vector _ row = refl

pub few : (form : Form) (row : Row) → has_few form row ≡ true
few form row = by_kind (λ kind. has_few form (row_at row.entry row.w row.l kind row.group)) (few_without form row)
    (few_register form row) (few_memory form row) (few_vector form row) row.kind

-- every row has at most four slots
pub few_slots : (row : Row) → length (slots row) ≤ 4
unfolding slots
few_slots row = leb-true (length (slots_of row.entry.form row)) 4 (few row.entry.form row)

-- vvvv isn't both named by a slot and demanded to be 0
abbrev pub named : Row → Bool
named row = list_any names_v (slots_of row.entry.form row)

abbrev pub demanded : Row → Bool
demanded row = list_any (demands_v row.kind) (steps row.entry.form).before_modrm || list_any (demands_v row.kind)
    (steps row.entry.form).after_address

-- the parts of the test of a row
pub record Sound (row : Row) : Type 0 where
  pub immediates : nat_le (immediates (slots_of row.entry.form row)) (if (steps row.entry.form).imm then 1 else 0)
      ≡ true
  pub v : not (named row && demanded row) ≡ true
  pub alone : ((steps row.entry.form).modrm || not (list_any names_g (slots_of row.entry.form row))) ≡ true

pub sound_row : (row : Row) → Sound row
sound_row row =
    let all = both-parts (nat_le (immediates (slots_of row.entry.form row))
    (if (steps row.entry.form).imm then 1 else 0) && not (named row && demanded row))
    ((steps row.entry.form).modrm || not (list_any names_g (slots_of row.entry.form row)))
    (sound row.entry.form row) in
    let two = both-parts (nat_le (immediates (slots_of row.entry.form row))
    (if (steps row.entry.form).imm then 1 else 0)) (not (named row && demanded row)) all.0 in
    record { immediates = two.0; v = two.1; alone = all.1 }

-- what a row asks of vvvv, by what its slots name and its steps demand
rule_demanded : (named demanded : Bool) → not (named && demanded) ≡ true → demanded ≡ true
    → (if named then Named else if demanded then Zero else Free) ≡ Zero
rule_demanded true true h e = cc
rule_demanded true false h e = cc
rule_demanded false true h e = refl
rule_demanded false false h e = cc

rule_zero : (named demanded : Bool) → (if named then Named else if demanded then Zero else Free) ≡ Zero
    → (named ≡ false) × (demanded ≡ true)
rule_zero true demanded e = cc
rule_zero false true e = (refl, refl)
rule_zero false false e = cc

pub v_rule-demanded : (row : Row) → demanded row ≡ true → v_rule row ≡ Zero
unfolding v_rule slots
v_rule-demanded row h = rule_demanded (named row) (demanded row) (sound_row row).v h

-- where vvvv is to be 0, a step demands it, and no slot names it
pub v_rule-zero : (row : Row) → v_rule row ≡ Zero → (named row ≡ false) × (demanded row ≡ true)
unfolding v_rule slots
v_rule-zero row h = rule_zero (named row) (demanded row) h

-- ---- where a form doesn't go by W, its rows have the same slots and sizes at both

module _ (entry : Entry) (l : ℕ) (kind : Kind) (group : Option ℕ) where
  abbrev at_w : Bool → Row
  at_w w = row_at entry w l kind group

  same_bank : (bank : BankRule) → bank_goes_by_w bank ≡ false → bank_at (at_w true) bank ≡ bank_at (at_w false) bank
  same_bank rule.X h = refl
  same_bank rule.Y h = refl
  same_bank rule.D h = refl
  same_bank rule.Q h = refl
  same_bank rule.ByL h = refl
  same_bank rule.ByW h = cc
  same_bank rule.Element h = refl
  same_bank rule.Gather h = refl

  same_slots_at : (slot : SlotRule) → slot_goes_by_w slot ≡ false → slots_at (at_w true) slot ≡ slots_at (at_w false) slot
  same_slots_at (slot_rule.G bank) h = ap (λ b. G b ∷ []) (same_bank bank h)
  same_slots_at (slot_rule.V bank) h = ap (λ b. V b ∷ []) (same_bank bank h)
  same_slots_at (slot_rule.VInRegister bank) h =
      ap (λ b. if is_memory kind then [] else V b ∷ []) (same_bank bank h)
  same_slots_at (slot_rule.E bank) h = ap (λ b. E b ∷ []) (same_bank bank h)
  same_slots_at slot_rule.U8 h = refl
  same_slots_at slot_rule.I8 h = refl
  same_slots_at (slot_rule.R4 bank) h = ap (λ b. R4 b ∷ []) (same_bank bank h)

  same_slots_of : (rules : List SlotRule) → list_any slot_goes_by_w rules ≡ false
      → flat_map (slots_at (at_w true)) rules ≡ flat_map (slots_at (at_w false)) rules
  same_slots_of [] h = refl
  same_slots_of (slot ∷ rules) h =
      let none = neither (slot_goes_by_w slot) (list_any slot_goes_by_w rules) h in
      ap₂ ◌++◌ (same_slots_at slot none.0) (same_slots_of rules none.1)

  same_bytes : (count : ByteCount) → count_goes_by_w count ≡ false → bytes_at (at_w true) count ≡ bytes_at (at_w false) count
  same_bytes count.Nothing h = refl
  same_bytes (count.Is n) h = refl
  same_bytes (count.ByL narrow wide) h = refl
  same_bytes (count.ByW narrow wide) h = cc

  -- the size that is found in a list doesn't go by W where none of them does
  found_kept : (p : Opcode × ByteCount → Bool) (list : List (Opcode × ByteCount)) (other : ByteCount)
      → count_goes_by_w other ≡ false → list_any (λ size. count_goes_by_w size.1) list ≡ false
      → count_goes_by_w (found_or (find p list) other) ≡ false
  found_kept p [] other h k = h
  found_kept p (size ∷ list) other h k =
      let none = neither (count_goes_by_w size.1) (list_any (λ size. count_goes_by_w size.1) list) k in
      by (p size) none.0 (found_kept p list other h none.1) where
        by : (b : Bool) → count_goes_by_w size.1 ≡ false → count_goes_by_w (found_or (find p list) other) ≡ false
            → count_goes_by_w (found_or (if b then Some size else find p list) other) ≡ false
        by true here later = here
        by false here later = later

  same_size_at : (size : SizeRule) → size_goes_by_w size ≡ false → size_at (at_w true) size ≡ size_at (at_w false) size
  same_size_at (Always count) h = same_bytes count h
  same_size_at (ByOpcode list other) h =
      let none = neither (count_goes_by_w other) (list_any (λ size. count_goes_by_w size.1) (sizes list)) h in
      same_bytes (found_or (find (is_of entry.opcode) (sizes list)) other)
      (found_kept (is_of entry.opcode) (sizes list) other none.0 none.1)

  pub same_slots : goes_by_w entry.form ≡ false → slots (at_w true) ≡ slots (at_w false)
  unfolding slots goes_by_w
  same_slots h =
      let sizes_too = neither (list_any slot_goes_by_w (items (form_row entry.form).slots) || size_goes_by_w
      (form_row entry.form).size) (count_goes_by_w (form_row entry.form).register_size) h in
      same_slots_of (items (form_row entry.form).slots)
      (neither (list_any slot_goes_by_w (items (form_row entry.form).slots))
      (size_goes_by_w (form_row entry.form).size) sizes_too.0).0

  pub same_size : goes_by_w entry.form ≡ false → size_of (at_w true) ≡ size_of (at_w false)
  unfolding size_of goes_by_w
  same_size h =
      let parts = neither (list_any slot_goes_by_w (items (form_row entry.form).slots) || size_goes_by_w
      (form_row entry.form).size) (count_goes_by_w (form_row entry.form).register_size) h in
      let size = (neither (list_any slot_goes_by_w (items (form_row entry.form).slots))
      (size_goes_by_w (form_row entry.form).size) parts.0).1 in
      ap₂ (λ a b. if is_memory kind then a else b) (same_size_at (form_row entry.form).size size)
      (same_bytes (form_row entry.form).register_size parts.1)
