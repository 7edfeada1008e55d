-- The parts that are put together for a meaning are those of a spelling by the row, and mean it where anything of the
-- row does.
use Rattle.std.specs.Prelude.{◌≡◌, refl, ℕ, ◌+◌, ◌*◌, ◌/◌, ◌%◌, ◌<◌, ◌≤◌, Bool, true, false, ◌||◌, List, [], ◌∷◌}
use Rattle.std.specs.Prelude.{map, Option, Some, None, if◌then◌else◌}
use Rattle.std.specs.Int.{cast_signed, w8}
use Rattle.std.specs.List.{list_any}
use Rattle.std.proofs.Common.{arith, ap, ap₂, sym, ◌∙◌, inl, inr, subst}
use Rattle.x86_operand.specs.declared.register.RegisterBank.{RegisterBank}
use Rattle.x86_operand.specs.Kind.{Kind, is_vector}
use Rattle.x86_operand.specs.Meaning.{number_of, OperandMeaning, register, signed, unsigned, nothing}
use Rattle.x86_address.specs.Place.{Place, Target, NoTarget, IsOfKind, IsPlace, target}
use Rattle.x86_address.specs.Shortest.{shortest, x_of, b_of}
use Rattle.x86_address.specs.Shortest.Lemmas.{kind_of_target-target, names-shortest, IsSpellable-target}
use Rattle.vex_rows.specs.Row.{Among}
use Rattle.vex_forms.specs.declared.slot.Slot.{Slot}
use Rattle.vex_forms.specs.declared.slot.Slot.TheVariants.{G, V, E, U8, I8, R4}
use Rattle.vex_forms.specs.Gives.{slot_operand, target_operand}
use Rattle.vex_forms.specs.WellFormed.{immediates}
use Rattle.vex_forms.specs.Slots.{names_g, names_v, names_e, names_imm}
use Rattle.vex_decode.specs.Spelling.{FitsGroup}
use Rattle.vex_encode.specs.Standard.{operand_of_kind, imm_of, target_of, reg_for}
use Rattle.vex_encode.specs.Standard.Lemmas.{first_operand, g_given, v_given, e_given, signed_again}

-- no operand where no slot passes
pub no_operand : (is : Slot → Bool) (slots : List Slot) (operands : List OperandMeaning) → list_any is slots ≡ false
    → operand_of_kind is slots operands ≡ nothing
no_operand is [] operands h = refl
no_operand is (s ∷ slots) [] h = refl
no_operand is (s ∷ slots) (operand ∷ operands) h = by (is s) (list_any is slots) h (no_operand is slots operands) where
  by : (b c : Bool) → (b || c) ≡ false → (c ≡ false → operand_of_kind is slots operands ≡ nothing)
      → (if b then operand else operand_of_kind is slots operands) ≡ nothing
  by true c h next = cc
  by false c h next = next h

-- an immediate slot makes the count at least 1
counted : (slot : Slot) (slots : List Slot) → Among slot slots → names_imm slot ≡ true → 1 ≤ immediates slots
counted slot [] m h = absurd m
counted slot (s ∷ slots) (inl e) h = let t : names_imm s ≡ true = ap names_imm (sym e) ∙ h in rw t (omega arith)
counted slot (s ∷ slots) (inr m) h = omega (arith, counted slot slots m h)

-- at most one slot reads the immediate byte
only_immediate : (slots : List Slot) (a b : Slot) → immediates slots ≤ 1 → Among a slots → Among b slots
    → names_imm a ≡ true → names_imm b ≡ true → a ≡ b
only_immediate [] a b few m n h k = absurd m
only_immediate (s ∷ slots) a b few (inl e) (inl f) h k = e ∙ sym f
only_immediate (s ∷ slots) a b few (inl e) (inr n) h k =
    let t : names_imm s ≡ true = ap names_imm (sym e) ∙ h in
    let few' : 1 + immediates slots ≤ 1 = subst (λ c. (if c then 1 else 0) + immediates slots ≤ 1) t few in
    absurd (omega (arith, counted b slots n k))
only_immediate (s ∷ slots) a b few (inr m) (inl f) h k =
    let t : names_imm s ≡ true = ap names_imm (sym f) ∙ k in
    let few' : 1 + immediates slots ≤ 1 = subst (λ c. (if c then 1 else 0) + immediates slots ≤ 1) t few in
    absurd (omega (arith, counted a slots m h))
only_immediate (s ∷ slots) a b few (inr m) (inr n) h k = only_immediate slots a b (omega arith) m n h k

fourth_again : (imm : ℕ) → imm < 256 → ((16 * (imm / 16)) % 256) / 16 ≡ imm / 16
fourth_again imm h = omega arith

-- an immediate slot says the same of the byte that is made for it
imm_given : (index_bank : RegisterBank) (r v reg : ℕ) (e e' : Target) (r' v' reg' imm : ℕ) (slot : Slot) → imm < 256
    → names_imm slot ≡ true →
    slot_operand index_bank r' v' reg' e' (imm_of (slot_operand index_bank r v reg e imm slot)) slot
    ≡ slot_operand index_bank r v reg e imm slot
imm_given index_bank r v reg e e' r' v' reg' imm U8 h k = ap unsigned (omega arith)
imm_given index_bank r v reg e e' r' v' reg' imm I8 h k = ap (λ n. signed (cast_signed w8 n)) (signed_again imm h)
imm_given index_bank r v reg e e' r' v' reg' imm (R4 bank) h k =
    ap (λ n. register (record { bank = bank; num = n })) (fourth_again imm h)
imm_given index_bank r v reg e e' r' v' reg' imm (G bank) h k = cc
imm_given index_bank r v reg e e' r' v' reg' imm (V bank) h k = cc
imm_given index_bank r v reg e e' r' v' reg' imm (E bank) h k = cc

-- the operand of G, from the field reg and the bit R that its number demands
g_number : (group : Option ℕ) (reg r g : ℕ) → reg < 8 → r ≤ 1 → g ≡ reg + 8 * r → FitsGroup group reg
    → reg_for group g + 8 * ((g / 8) % 2) ≡ reg + 8 * r
g_number None reg r g hreg hr e fits = omega arith
g_number (Some group) reg r g hreg hr e fits = omega (arith, fits)

pub map_same : {A B : Type 0} (f g : A → B) (xs : List A) → ((x : A) → Among x xs → f x ≡ g x) → map f xs ≡ map g xs
map_same f g [] h = refl
map_same f g (x ∷ xs) h = ap₂ ◌∷◌ (h x (inl refl)) (map_same f g xs (λ y m. h y (inr m)))

-- each slot says the same of the parts that are put together as of the parts that were read
module _ (index_bank : RegisterBank) (slots : List Slot) (kind : Kind) (group : Option ℕ) (r v reg : ℕ) (place : Place)
    (x b : Bool) (imm : ℕ)
    (few : immediates slots ≤ 1) (r_fits : r ≤ 1) (v_fits : v ≤ 15) (reg_fits : reg < 8) (imm_fits : imm < 256)
    (is_place : IsPlace place) (is_kind : IsOfKind kind place) (in_group : FitsGroup group reg) where
  immediate_again : (e' : Target) (r' v' reg' : ℕ) (slot : Slot) → Among slot slots → names_imm slot ≡ true →
      slot_operand index_bank r' v' reg' e' (imm_of
      (operand_of_kind names_imm slots (map
      (slot_operand index_bank r v reg (target (is_vector kind) place x b) imm) slots))) slot
      ≡ slot_operand index_bank r v reg (target (is_vector kind) place x b) imm slot
  immediate_again e' r' v' reg' slot m h =
      let first = first_operand names_imm (slot_operand index_bank r v reg (target (is_vector kind) place x b) imm)
      slots slot m h in
      let same = only_immediate slots first.slot slot few first.among m first.passes h in
      let imm_is = ap imm_of first.operand ∙ ap
      (λ s. imm_of (slot_operand index_bank r v reg (target (is_vector kind) place x b) imm s)) same in
      ap (λ n. slot_operand index_bank r' v' reg' e' n slot) imm_is
      ∙ imm_given index_bank r v reg (target (is_vector kind) place x b) e' r' v' reg' imm slot imm_fits h

  pub slot_again : (slot : Slot) → Among slot slots →
      let operands = map (slot_operand index_bank r v reg (target (is_vector kind) place x b) imm) slots in
      let g = number_of (operand_of_kind names_g slots operands) in
      let e = target_of kind (operand_of_kind names_e slots operands) in
      slot_operand index_bank ((g / 8) % 2) (number_of (operand_of_kind names_v slots operands) % 16) (reg_for group g)
      (target (is_vector kind) (shortest e) (x_of e) (b_of e)) (imm_of (operand_of_kind names_imm slots operands))
      slot
      ≡ slot_operand index_bank r v reg (target (is_vector kind) place x b) imm slot
  slot_again (G bank) m =
      let first = first_operand names_g (slot_operand index_bank r v reg (target (is_vector kind) place x b) imm) slots
      (G bank) m refl in
      let g_is = ap number_of first.operand ∙ g_given index_bank r v reg (target (is_vector kind) place x b) imm
      first.slot first.passes in
      ap (λ n. register (record { bank = bank; num = n })) (g_number group reg r _ reg_fits r_fits g_is in_group)
  slot_again (V bank) m =
      let first = first_operand names_v (slot_operand index_bank r v reg (target (is_vector kind) place x b) imm) slots
      (V bank) m refl in
      let v_is = ap number_of first.operand ∙ v_given index_bank r v reg (target (is_vector kind) place x b) imm
      first.slot first.passes in
      ap (λ n. register (record { bank = bank; num = n })) (ap (λ n. n % 16) v_is ∙ omega arith)
  slot_again (E bank) m =
      let first = first_operand names_e (slot_operand index_bank r v reg (target (is_vector kind) place x b) imm) slots
      (E bank) m refl in
      let e_is = ap (target_of kind) first.operand
      ∙ e_given index_bank r v reg (target (is_vector kind) place x b) imm kind first.slot first.passes
      (kind_of_target-target 1 (is_vector kind) place x b ∙ is_kind.plain) in
      ap (target_operand bank index_bank) (ap (λ e. target (is_vector kind) (shortest e) (x_of e) (b_of e)) e_is
      ∙ names-shortest (is_vector kind) _ (inl refl)
      (IsSpellable-target (is_vector kind) place x b (inl refl) is_place is_kind.sib))
  slot_again U8 m = immediate_again NoTarget 0 0 0 U8 m refl
  slot_again I8 m = immediate_again NoTarget 0 0 0 I8 m refl
  slot_again (R4 bank) m = immediate_again NoTarget 0 0 0 (R4 bank) m refl
