-- A row has standard bytes of a meaning exactly where the conditions on its slots hold.
use Rattle.std.specs.Prelude.{◌≡◌, ◌≢◌, refl, ◌⊎◌, ℕ, ◌+◌, ◌*◌, ◌/◌, ◌%◌, ◌<◌, ◌≤◌, ℤ, FitsSigned, Bool, true, false}
use Rattle.std.specs.Prelude.{not, ◌&&◌, ◌||◌, nat_le, List, [], ◌∷◌, map, Option, Some, None, IsSome, if◌then◌else◌}
use Rattle.std.specs.Prelude.{cond}
use Rattle.std.specs.Int.{cast_signed, cast_unsigned, w8}
use Rattle.std.specs.List.{list_any, count_by}
use Rattle.std.proofs.Common.{arith, ap, ap₂, sym, ◌∙◌, inl, inr, subst, rules}
use Rattle.std.proofs.lemmas.Bool.{leb-true}
use Rattle.std.proofs.lemmas.Int.{to_z-of_z}
use Rattle.std.proofs.lemmas.List.Sums.{sum_by-cons}
use Rattle.std.proofs.Math.Facts.{Fits-of_z}
use Rattle.x86_operand.specs.declared.register.RegisterBank.{RegisterBank}
use Rattle.x86_operand.specs.declared.address.Address.{Address}
use Rattle.x86_operand.specs.declared.address.Index.{Index}
use Rattle.x86_operand.specs.Register.{Register}
use Rattle.x86_operand.specs.Kind.{Kind, WithoutModRM, InRegister, InMemory, VectorIndexed, is_vector, plain_kind}
use Rattle.x86_operand.specs.Meaning.{number_of, OperandMeaning, register, signed, unsigned, memory, Meaning}
use Rattle.x86_operand.specs.Same.{same_meaning}
use Rattle.x86_operand.specs.Same.Lemmas.{same_meaning_refl}
use Rattle.x86_address.specs.Place.{Place, Base, NoBase, Rip, Numbered, PlainAddress, Target, Number, At, IsOfKind}
use Rattle.x86_address.specs.Place.{kind_of_target, has_sib, IsPlace, target}
use Rattle.x86_address.specs.Shortest.{plain, plain_base, plain_index, base_in, base_register, index_register, in_banks}
use Rattle.x86_address.specs.Shortest.{shortest, x_of, b_of, IsBase, IsIndex, IsSpellableAddress, IsSpellable}
use Rattle.x86_address.specs.Spells.Lemmas.{power_of_scale, scale_of_power}
use Rattle.x86_address.specs.Shortest.Lemmas.{kind_of_target-target, names-shortest, sib-shortest, IsSpellable-target}
use Rattle.vex_rows.specs.FormRows.{gathers}
use Rattle.vex_rows.specs.Steps.{steps}
use Rattle.vex_rows.specs.Groups.{groups}
use Rattle.vex_rows.specs.Row.{Row, IsRow, Among, has_groups, has_imm, is_memory}
use Rattle.vex_rows.specs.Row.Lists.{both-parts, parts-both}
use Rattle.vex_rows.specs.Row.Lemmas.{chosen-row}
use Rattle.vex_forms.specs.declared.slot.Slot.{Slot}
use Rattle.vex_forms.specs.declared.slot.Slot.TheVariants.{G, V, E, U8, I8, R4}
use Rattle.vex_forms.specs.Slots.{slots, slots_of, index_bank, names_g, names_v, names_e, names_imm}
use Rattle.vex_forms.specs.Gives.{gives, slot_operand, target_operand}
use Rattle.vex_forms.specs.WellFormed.{immediates}
use Rattle.vex_forms.specs.Slots.Lemmas.{sound_row, distinct, free}
use Rattle.vex_forms.specs.Layout.Lemmas.{kinds, is_memory-memory_kind}
use Rattle.vex_decode.specs.Spelling.{Syntax, meant, IsSyntax}
use Rattle.vex_encode.specs.Standard.{operand_of_kind, imm_of, target_of, reg_for, candidate, is_placed}
use Rattle.vex_encode.specs.Standard.{is_given, standard}
use Rattle.vex_encode.specs.Conditions.{RegisterFits, SlotBaseFits, SlotIndexFits, AddressFits, PlacedFits, OperandFits}
use Rattle.vex_encode.specs.Conditions.{OperandsFit, CanGive}
use Rattle.vex_encode.specs.Laws.{StandardIsSome}
use Rattle.vex_encode.specs.Assembly.{IsPlaced}
use Rattle.vex_encode.proofs.Candidate.{no_operand}
use Rattle.vex_encode.proofs.Fitting.{placed}
use Rattle.vex_encode.proofs.Standard.{reg_below, imm_byte, few_at_most, group_none, or_false, placed_with, least_sib}
use Rattle.vex_encode.proofs.Standard.{standard_spells}

-- ---- what a row gives fits

-- an address that bytes can name fits, once its registers have banks
base_given : (index_bank : RegisterBank) (base : Base) (index : Option (ℕ × ℕ)) → IsBase base
    → (base ≡ Rip → index ≡ None) → SlotBaseFits (base_register base) (index_register index_bank index)
base_given index_bank NoBase index is alone = tt
base_given index_bank Rip index is alone = inr (refl, ap (index_register index_bank) (alone refl))
base_given index_bank (Numbered n) index is alone = inl (record { bank = refl; num = omega arith })

index_given : (vector : Bool) (bank : RegisterBank) (index : Option (ℕ × ℕ)) → IsIndex vector index
    → SlotIndexFits vector bank (index_register bank index)
index_given vector bank None is = is
index_given vector bank (Some index) is =
    (record { bank = refl; num = omega arith }, is.1, scale_of_power index.1 (is.2, is.3, is.4))

address_given : (vector : Bool) (index_bank : RegisterBank) (a : PlainAddress) → IsSpellableAddress vector a
    → AddressFits vector index_bank (in_banks index_bank a)
address_given vector index_bank a is = record {
  base = base_given index_bank a.base a.index is.base is.alone;
  index = index_given vector index_bank a.index is.index;
  disp = is.disp;
}

-- so does what stands in the place of E, in a row of its kind
placed_given : (kind : Kind) (index_bank bank : RegisterBank) (e : Target) → IsSpellable (is_vector kind) e
    → kind_of_target e ≡ plain_kind kind → kind ≢ WithoutModRM
    → PlacedFits kind index_bank bank (target_operand bank index_bank e)
placed_given WithoutModRM index_bank bank e is k other = absurd (other refl)
placed_given InRegister index_bank bank (Number n) is k other = record { bank = refl; num = omega arith }
placed_given InMemory index_bank bank (At a) is k other = address_given false index_bank a is
placed_given VectorIndexed index_bank bank (At a) is k other = address_given true index_bank a is
placed_given _ index_bank bank _ is k other = cc

-- so does each operand that a spelling gives
module _ (index_bank : RegisterBank) (kind : Kind) (r v reg : ℕ) (place : Place) (x b : Bool) (imm : ℕ)
    (r_fits : r ≤ 1) (v_fits : v ≤ 15) (reg_fits : reg < 8) (imm_fits : imm < 256) (is_place : IsPlace place)
    (is_kind : IsOfKind kind place) where
  operand_given : (slot : Slot) → (kind ≡ WithoutModRM → names_e slot ≡ false)
      → OperandFits kind index_bank slot (slot_operand index_bank r v reg (target (is_vector kind) place x b) imm slot)
  operand_given (G bank) alone = record { bank = refl; num = omega arith }
  operand_given (V bank) alone = record { bank = refl; num = v_fits }
  operand_given (E bank) alone =
      let spellable = IsSpellable-target (is_vector kind) place x b (inl refl) is_place is_kind.sib in
      let kinds = kind_of_target-target 1 (is_vector kind) place x b ∙ is_kind.plain in
      placed_given kind index_bank bank (target (is_vector kind) place x b) spellable kinds with_e
    where
      with_e : kind ≢ WithoutModRM
      with_e k = let never = alone k in cc
  operand_given U8 alone = omega arith
  operand_given I8 alone = search rules
  operand_given (R4 bank) alone = record { bank = refl; num = omega arith }

  operands_given : (slots : List Slot) → (kind ≡ WithoutModRM → list_any names_e slots ≡ false)
      → OperandsFit kind index_bank slots (map
      (slot_operand index_bank r v reg (target (is_vector kind) place x b) imm) slots)
  operands_given [] alone = tt
  operands_given (slot ∷ slots) alone = (
    operand_given slot (λ k. (neither _ _ (alone k)).0),
    operands_given slots (λ k. (neither _ _ (alone k)).1),
  ) where
    neither : (b c : Bool) → (b || c) ≡ false → (b ≡ false) × (c ≡ false)
    neither true c h = cc
    neither false c h = (refl, h)

-- ---- what fits is given again

-- an address that fits is one that bytes can name, and is again what it is without banks
base_again : (base : Option Register) (index : Option Index) → SlotBaseFits base index
    → base_register (plain_base base) ≡ base
base_again None index fits = refl
base_again (Some reg) index (inl fits) =
    ap (λ bank. base_register (base_in bank reg.num)) fits.bank
    ∙ (λ i. Some (record { bank = sym fits.bank i; num = reg.num }))
base_again (Some reg) index (inr fits) =
    ap (λ (reg : Register). base_register (base_in reg.bank reg.num)) fits.0 ∙ sym (ap Some fits.0)

base_named : (base : Option Register) (index : Option Index) → SlotBaseFits base index → IsBase (plain_base base)
base_named None index fits = tt
base_named (Some reg) index (inl fits) = subst (λ bank. IsBase (base_in bank reg.num)) (sym fits.bank) (omega arith)
base_named (Some reg) index (inr fits) = subst (λ (reg : Register). IsBase (base_in reg.bank reg.num)) (sym fits.0) tt

base_alone : (base : Option Register) (index : Option Index) → SlotBaseFits base index → plain_base base ≡ Rip
    → plain_index index ≡ None
base_alone None index fits h = cc
base_alone (Some reg) index (inl fits) h =
    let never : Numbered reg.num ≡ Rip = subst (λ bank. base_in bank reg.num ≡ Rip) fits.bank h in
    cc
base_alone (Some reg) index (inr fits) h = ap plain_index fits.1

index_again : (vector : Bool) (bank : RegisterBank) (index : Option Index) → SlotIndexFits vector bank index
    → index_register bank (plain_index index) ≡ index
index_again vector bank None fits = refl
index_again vector bank (Some index) fits =
    ap (λ bank. Some (record { reg = record { bank = bank; num = index.reg.num }; scale = index.scale }))
    (sym fits.0.bank)

index_named : (vector : Bool) (bank : RegisterBank) (index : Option Index) → SlotIndexFits vector bank index
    → IsIndex vector (plain_index index)
index_named vector bank None fits = fits
index_named vector bank (Some index) fits =
    let power = power_of_scale index.scale fits.2 in
    (omega arith, fits.1, power.0, power.1, power.2)

address_again : (vector : Bool) (index_bank : RegisterBank) (a : Address) → AddressFits vector index_bank a
    → in_banks index_bank (plain a) ≡ a
address_again vector index_bank a fits =
    let base = base_again a.base a.index fits.base in
    let index = index_again vector index_bank a.index fits.index in
    λ i. record { base = base i; index = index i; disp = a.disp }

address_named : (vector : Bool) (index_bank : RegisterBank) (a : Address) → AddressFits vector index_bank a
    → IsSpellableAddress vector (plain a)
address_named vector index_bank a fits = record {
  base = base_named a.base a.index fits.base;
  index = index_named vector index_bank a.index fits.index;
  disp = fits.disp;
  alone = base_alone a.base a.index fits.base;
}

-- a register of a bank, by its number
register_again : (bank : RegisterBank) (reg : Register) (n : ℕ) → RegisterFits bank reg → n ≡ reg.num
    → register (record { bank = bank; num = n }) ≡ register reg
register_again bank reg n fits e = λ i. register (record { bank = sym fits.bank i; num = e i })

-- what is asked of the place of E gives the operand
placed_again : (kind : Kind) (index_bank bank : RegisterBank) (operand : OperandMeaning)
    → PlacedFits kind index_bank bank operand →
    let e = target_of kind operand in target_operand bank index_bank
    (target (is_vector kind) (shortest e) (x_of e) (b_of e)) ≡ operand
placed_again InRegister index_bank bank (register reg) fits =
    ap (target_operand bank index_bank) (names-shortest false (Number reg.num) (inl refl) (omega arith))
    ∙ register_again bank reg reg.num fits refl
placed_again InMemory index_bank bank (memory a) fits =
    ap (target_operand bank index_bank) (names-shortest false (At (plain a)) (inl refl) (address_named false index_bank a fits))
    ∙ ap memory (address_again false index_bank a fits)
placed_again VectorIndexed index_bank bank (memory a) fits =
    ap (target_operand bank index_bank) (names-shortest true (At (plain a)) (inl refl) (address_named true index_bank a fits))
    ∙ ap memory (address_again true index_bank a fits)
placed_again _ index_bank bank _ fits = absurd fits

-- ---- an operand and its slot stand at the same place of their lists

abbrev Paired : Slot → OperandMeaning → List Slot → List OperandMeaning → Type 0
Paired slot operand (s ∷ slots) (o ∷ operands) = ((slot ≡ s) × (operand ≡ o)) ⊎ Paired slot operand slots operands
Paired slot operand _ _ = ⊥

-- a slot is counted where it passes the test
count_cons : (is : Slot → Bool) (s : Slot) (slots : List Slot)
    → count_by is (s ∷ slots) ≡ (if is s then 1 else 0) + count_by is slots
count_cons is s slots = sum_by-cons (λ x. cond (is x) 1 0) s slots

-- a slot that passes a test is counted
counted : (is : Slot → Bool) (slot : Slot) (operand : OperandMeaning) (slots : List Slot)
    (operands : List OperandMeaning) → Paired slot operand slots operands → is slot ≡ true → 1 ≤ count_by is slots
counted is slot operand [] [] p h = absurd p
counted is slot operand [] (o ∷ operands) p h = absurd p
counted is slot operand (s ∷ slots) [] p h = absurd p
counted is slot operand (s ∷ slots) (o ∷ operands) (inl p) h =
    let passes : is s ≡ true = ap is (sym p.0) ∙ h in
    rw (count_cons is s slots, passes) (omega arith)
counted is slot operand (s ∷ slots) (o ∷ operands) (inr p) h =
    rw (count_cons is s slots) (more (is s) (counted is slot operand slots operands p h)) where
      more : (b : Bool) → 1 ≤ count_by is slots → 1 ≤ (if b then 1 else 0) + count_by is slots
      more true k = omega arith
      more false k = omega arith

-- the operand of the only slot that passes is found
found : (is : Slot → Bool) (slot : Slot) (operand : OperandMeaning) (slots : List Slot)
    (operands : List OperandMeaning) → count_by is slots ≤ 1 → Paired slot operand slots operands → is slot ≡ true
    → operand_of_kind is slots operands ≡ operand
found is slot operand [] [] few p h = absurd p
found is slot operand [] (o ∷ operands) few p h = absurd p
found is slot operand (s ∷ slots) [] few p h = absurd p
found is slot operand (s ∷ slots) (o ∷ operands) few (inl p) h =
    let passes : is s ≡ true = ap is (sym p.0) ∙ h in
    rw passes (sym p.1)
found is slot operand (s ∷ slots) (o ∷ operands) few (inr p) h =
    by (is s) (rw (count_cons is s slots) at few) (counted is slot operand slots operands p h)
    (λ k. found is slot operand slots operands k p h) where
      by : (b : Bool) → (if b then 1 else 0) + count_by is slots ≤ 1 → 1 ≤ count_by is slots
          → (count_by is slots ≤ 1 → operand_of_kind is slots operands ≡ operand)
          → (if b then o else operand_of_kind is slots operands) ≡ operand
      by true few one next = absurd (omega arith)
      by false few one next = next (omega arith)

-- there is such a slot
any_paired : (is : Slot → Bool) (slot : Slot) (operand : OperandMeaning) (slots : List Slot)
    (operands : List OperandMeaning) → Paired slot operand slots operands → is slot ≡ true → list_any is slots ≡ true
any_paired is slot operand [] [] p h = absurd p
any_paired is slot operand [] (o ∷ operands) p h = absurd p
any_paired is slot operand (s ∷ slots) [] p h = absurd p
any_paired is slot operand (s ∷ slots) (o ∷ operands) (inl p) h =
    let passes : is s ≡ true = ap is (sym p.0) ∙ h in
    rw passes refl
any_paired is slot operand (s ∷ slots) (o ∷ operands) (inr p) h =
    more (is s) (list_any is slots) (any_paired is slot operand slots operands p h) where
      more : (b c : Bool) → c ≡ true → (b || c) ≡ true
      more true c k = refl
      more false c k = k

-- operands that fit are given again, where each is that fits its slot
given_again : (kind : Kind) (index_bank : RegisterBank) (f : Slot → OperandMeaning) (slots : List Slot)
    (operands : List OperandMeaning) → OperandsFit kind index_bank slots operands
    → ((slot : Slot) (operand : OperandMeaning) → Paired slot operand slots operands
    → OperandFits kind index_bank slot operand → f slot ≡ operand)
    → map f slots ≡ operands
given_again kind index_bank f [] [] fit each = refl
given_again kind index_bank f [] (o ∷ operands) fit each = absurd fit
given_again kind index_bank f (s ∷ slots) [] fit each = absurd fit
given_again kind index_bank f (s ∷ slots) (o ∷ operands) fit each =
    ap₂ ◌∷◌ (each s o (inl (refl, refl)) fit.0)
    (given_again kind index_bank f slots operands fit.1 (λ slot operand p. each slot operand (inr p)))

immediates_counted : (slots : List Slot) → immediates slots ≡ count_by names_imm slots
immediates_counted [] = refl
immediates_counted (slot ∷ slots) = sym (count_cons names_imm slot slots
    ∙ sym (ap (λ n. (if names_imm slot then 1 else 0) + n) (immediates_counted slots)))

signed_again : (imm : ℤ) → FitsSigned w8 imm → cast_signed w8 (cast_unsigned w8 imm % 256) ≡ imm
signed_again imm fits =
    let byte : cast_unsigned w8 imm < 256 = (Fits-of_z fits).fits in
    ap (cast_signed w8) (omega arith) ∙ to_z-of_z w8 imm fits

-- each slot gives its operand again, of the parts that are put together
module _ (index_bank : RegisterBank) (kind : Kind) (group : Option ℕ) (slots : List Slot)
    (operands : List OperandMeaning)
    (one_g : count_by names_g slots ≤ 1) (one_v : count_by names_v slots ≤ 1) (one_e : count_by names_e slots ≤ 1)
    (one_imm : count_by names_imm slots ≤ 1)
    (no_group : list_any names_g slots ≡ true → group ≡ None) where
  slot_given : (slot : Slot) (operand : OperandMeaning) → Paired slot operand slots operands
      → OperandFits kind index_bank slot operand →
      let g = number_of (operand_of_kind names_g slots operands) in
      let e = target_of kind (operand_of_kind names_e slots operands) in
      slot_operand index_bank ((g / 8) % 2) (number_of (operand_of_kind names_v slots operands) % 16) (reg_for group g)
      (target (is_vector kind) (shortest e) (x_of e) (b_of e)) (imm_of (operand_of_kind names_imm slots operands))
      slot
      ≡ operand
  slot_given (G bank) (register reg) p fits =
      let none = no_group (any_paired names_g (G bank) (register reg) slots operands p refl) in
      let g : number_of (operand_of_kind names_g slots operands) ≡ reg.num =
      ap number_of (found names_g (G bank) (register reg) slots operands one_g p refl) in
      let num : reg_for group (number_of (operand_of_kind names_g slots operands)) + 8
      * ((number_of (operand_of_kind names_g slots operands) / 8) % 2) ≡ reg.num = rw (none, g) (omega arith) in
      register_again bank reg _ fits num
  slot_given (V bank) (register reg) p fits =
      let v : number_of (operand_of_kind names_v slots operands) ≡ reg.num =
      ap number_of (found names_v (V bank) (register reg) slots operands one_v p refl) in
      register_again bank reg _ fits (omega arith)
  slot_given (R4 bank) (register reg) p fits =
      let imm : imm_of (operand_of_kind names_imm slots operands) ≡ (16 * reg.num) % 256 =
      ap imm_of (found names_imm (R4 bank) (register reg) slots operands one_imm p refl) in
      register_again bank reg _ fits (omega arith)
  slot_given U8 (unsigned n) p fits =
      let imm : imm_of (operand_of_kind names_imm slots operands) ≡ n % 256 =
      ap imm_of (found names_imm U8 (unsigned n) slots operands one_imm p refl) in
      ap unsigned (omega arith)
  slot_given I8 (signed n) p fits =
      let imm : imm_of (operand_of_kind names_imm slots operands) ≡ cast_unsigned w8 n % 256 =
      ap imm_of (found names_imm I8 (signed n) slots operands one_imm p refl) in
      ap signed (ap (cast_signed w8) imm ∙ signed_again n fits)
  slot_given (E bank) operand p fits =
      let e = found names_e (E bank) operand slots operands one_e p refl in
      ap (λ o. target_operand bank index_bank
      (target (is_vector kind) (shortest (target_of kind o)) (x_of (target_of kind o)) (b_of (target_of kind o))))
      e ∙ placed_again kind index_bank bank operand fits
  slot_given _ _ p fits = absurd fits

-- ---- the slots of a row

-- the slots of a row name no field twice
record Once (slots : List Slot) : Type 0 where
  g : count_by names_g slots ≤ 1
  v : count_by names_v slots ≤ 1
  e : count_by names_e slots ≤ 1
  imm : count_by names_imm slots ≤ 1

once : (row : Row) → Once (slots row)
unfolding slots
once row =
    let all = slots_of row.entry.form row in
    let three = both-parts (nat_le (count_by names_g all) 1 && nat_le (count_by names_v all) 1)
    (nat_le (count_by names_e all) 1) (distinct row.entry.form row) in
    let two = both-parts (nat_le (count_by names_g all) 1) (nat_le (count_by names_v all) 1) three.0 in
    record {
      g = leb-true (count_by names_g all) 1 two.0;
      v = leb-true (count_by names_v all) 1 two.1;
      e = leb-true (count_by names_e all) 1 three.1;
      imm = subst (λ n. n ≤ 1) (immediates_counted all)
          (few_at_most (steps row.entry.form).imm _ (sound_row row).immediates);
    }

-- a group stands in the field reg
grouped : (has any : Bool) → (not has || not any) ≡ true → any ≡ true → has ≡ false
grouped true true h k = cc
grouped true false h k = cc
grouped false any h k = refl

-- a kind with ModRM isn't the kind without
with_modrm : (vector modrm : Bool) (kind : Kind) → Among kind (kinds vector modrm) → kind ≡ WithoutModRM → modrm ≡ false
with_modrm vector true kind (inl e) k = let never : InRegister ≡ WithoutModRM = sym e ∙ k in cc
with_modrm vector true kind (inr (inl e)) k =
    let never : true ≡ false = sym (is_memory-memory_kind vector) ∙ ap is_memory (sym e ∙ k) in
    cc
with_modrm vector true kind (inr (inr e)) k = absurd e
with_modrm vector false kind m k = refl

-- an address that fits, whose index is a vector register, has a SIB byte
sib_there : (kind : Kind) (bank : RegisterBank) (operand : OperandMeaning) → is_vector kind ≡ true
    → IsPlaced kind bank operand → has_sib (shortest (target_of kind operand)) ≡ true
sib_there VectorIndexed bank (memory a) vector fits = sib-shortest 1 (At (plain a)) refl (address_named true bank a fits)
sib_there VectorIndexed bank _ vector fits = absurd fits
sib_there _ bank operand vector fits = cc

module _ (row : Row) (m : Meaning) (is_row : IsRow row) where
  -- with a group no slot names the field reg
  ungrouped : list_any names_g (slots row) ≡ true → row.group ≡ None
  unfolding slots
  ungrouped named =
      let parts = both-parts (not (has_groups row.entry.form) || not (list_any names_g (slots_of row.entry.form row)))
      ((steps row.entry.form).modrm || not (list_any names_e (slots_of row.entry.form row)))
      (free row.entry.form row) in
      group_none (has_groups row.entry.form) (groups row.entry.form row.l) row.group (grouped _ _ parts.0 named)
      (chosen-row row is_row).group

  -- without ModRM no slot names the operand E
  unplaced : row.kind ≡ WithoutModRM → list_any names_e (slots row) ≡ false
  unfolding slots
  unplaced kind =
      let parts = both-parts (not (has_groups row.entry.form) || not (list_any names_g (slots_of row.entry.form row)))
      ((steps row.entry.form).modrm || not (list_any names_e (slots_of row.entry.form row)))
      (free row.entry.form row) in
      or_false (steps row.entry.form).modrm (list_any names_e (slots_of row.entry.form row)) parts.1
      (with_modrm (gathers row.entry.form) (steps row.entry.form).modrm row.kind (chosen-row row is_row).kind kind)

  -- what the row gives fits it
  given_fits : (s : Syntax) → IsSyntax row s → CanGive row (meant row s)
  unfolding gives has_imm
  given_fits s is = record {
    mark = refl;
    opcode = refl;
    size = refl;
    operands = operands_given (index_bank row) row.kind s.fields.r s.fields.v s.reg s.place s.fields.x s.fields.b s.imm
        is.prefix.r is.prefix.v (reg_below _ _ is.reg) (imm_byte _ _ is.imm) is.place is.kind (slots row) unplaced;
  }

  -- so does what has standard bytes by it
  there_fits : IsSome (standard row m) → CanGive row m
  there_fits there = by (standard row m) refl there where
    by : (o : Option (List ℕ)) → standard row m ≡ o → IsSome o → CanGive row m
    by None e h = cc
    by (Some bytes) e h =
        let by = standard_spells row m is_row bytes e in
        subst (λ m. CanGive row m) (sym by.means) (given_fits by.parts by.fits)

  -- what fits the row is meant by the parts that are put together for it
  pub fits_meant : CanGive row m → meant row (candidate row m) ≡ m
  unfolding candidate gives
  fits_meant fits =
      let one = once row in
      let operands = given_again row.kind (index_bank row) _ (slots row) m.operands fits.operands
      (slot_given (index_bank row) row.kind row.group (slots row) m.operands one.g one.v one.e one.imm
      ungrouped) in
      λ i. record { evex = sym fits.mark i; opcode = sym fits.opcode i; operands = operands i; size = sym fits.size i }

  -- and their place is of the row's kind
  fits_placed : CanGive row m → is_placed row.kind (candidate row m).place ≡ true
  unfolding candidate
  fits_placed fits = placed_with row.kind _ (by (list_any names_e (slots row)) refl) where
    by : (b : Bool) → list_any names_e (slots row) ≡ b → is_vector row.kind ≡ true
        → has_sib (shortest (target_of row.kind (operand_of_kind names_e (slots row) m.operands))) ≡ true
    by true named vector =
        sib_there row.kind (index_bank row) (operand_of_kind names_e (slots row) m.operands) vector
        (placed row.kind (index_bank row) (slots row) m.operands fits.operands (λ memory. named))
    by false none vector =
        subst (λ o. has_sib (shortest (target_of row.kind o)) ≡ true)
        (sym (no_operand names_e (slots row) m.operands none)) (least_sib row.kind vector)

  pub fits_given : CanGive row m → is_given row m ≡ true
  fits_given fits = parts-both _ _ (fits_placed fits)
      (ap (λ n. same_meaning n m) (fits_meant fits) ∙ same_meaning_refl m)

  fits_there : CanGive row m → IsSome (standard row m)
  unfolding standard
  fits_there fits = rw (fits_given fits) refl

pub standard_is_some : StandardIsSome
standard_is_some row m is_row = (there_fits row m is_row, fits_there row m is_row)
