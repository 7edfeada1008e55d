-- Lemmas on the operands of a row's slots, which no contract cites.
use Rattle.std.specs.Prelude.{◌≡◌, refl, ◌⊎◌, ℕ, ◌+◌, ◌*◌, ◌%◌, ◌<◌, Bool, true, false, List, [], ◌∷◌, map}
use Rattle.std.specs.Int.{cast_signed, cast_unsigned, w8}
use Rattle.std.specs.List.{list_any}
use Rattle.std.proofs.Common.{arith, ap, inl, inr}
use Rattle.std.proofs.lemmas.Int.{of_z-to_z}
use Rattle.x86_operand.specs.declared.register.RegisterBank.{RegisterBank}
use Rattle.x86_operand.specs.Kind.{Kind, WithoutModRM, InRegister, InMemory, VectorIndexed, plain_kind}
use Rattle.x86_operand.specs.Meaning.{number_of, OperandMeaning, nothing}
use Rattle.x86_address.specs.Place.{Target, NoTarget, Number, At, kind_of_target}
use Rattle.x86_address.specs.Shortest.Lemmas.{plain-in_banks}
use Rattle.vex_rows.specs.Row.{Among}
use Rattle.vex_forms.specs.declared.slot.Slot.{Slot}
use Rattle.vex_forms.specs.declared.slot.Slot.TheVariants.{G, V, E, U8, I8, R4}
use Rattle.vex_forms.specs.Gives.{slot_operand, target_operand}
use Rattle.vex_forms.specs.Slots.{names_g, names_v, names_e}
use Rattle.vex_encode.specs.Standard.{operand_of_kind, target_of}

-- the first operand whose slot passes a test, among operands that a function gives of the slots
pub record First (is : Slot → Bool) (f : Slot → OperandMeaning) (slots : List Slot) : Type 0 where
  pub slot : Slot
  pub among : Among slot slots
  pub passes : is slot ≡ true
  pub operand : operand_of_kind is slots (map f slots) ≡ f slot

pub first_operand : (is : Slot → Bool) (f : Slot → OperandMeaning) (slots : List Slot) (slot : Slot) → Among slot slots
    → is slot ≡ true → First is f slots
first_operand is f [] slot m h = absurd m
first_operand is f (s ∷ slots) slot m h = by (is s) refl m (λ k. first_operand is f slots slot k h) where
  by : (b : Bool) → is s ≡ b → Among slot (s ∷ slots) → (Among slot slots → First is f slots) → First is f (s ∷ slots)
  by true e k next = record { slot = s; among = inl refl; passes = e; operand = rw e refl }
  by false e (inl k) next = absurd (cc)
  by false e (inr k) next =
      let later = next k in
      record { slot = later.slot; among = inr later.among; passes = later.passes; operand = rw e later.operand }

-- there is such a slot, or none passes and there is no operand
pub first_or_none : (is : Slot → Bool) (f : Slot → OperandMeaning) (slots : List Slot)
    → First is f slots ⊎ ((operand_of_kind is slots (map f slots) ≡ nothing) × (list_any is slots ≡ false))
first_or_none is f [] = inr (refl, refl)
first_or_none is f (s ∷ slots) = by (is s) refl (first_or_none is f slots) where
  by : (b : Bool) → is s ≡ b → First is f slots
      ⊎ ((operand_of_kind is slots (map f slots) ≡ nothing) × (list_any is slots ≡ false))
      → First is f (s ∷ slots) ⊎ ((operand_of_kind is (s ∷ slots) (map f (s ∷ slots)) ≡ nothing)
      × (list_any is (s ∷ slots) ≡ false))
  by true e next = inl (record { slot = s; among = inl refl; passes = e; operand = rw e refl })
  by false e (inl later) = inl (record {
    slot = later.slot;
    among = inr later.among;
    passes = later.passes;
    operand =
        rw e later.operand;
  })
  by false e (inr none) = inr (rw e none.0, rw e none.1)

-- a slot that is there is found
pub found : (is : Slot → Bool) (f : Slot → OperandMeaning) (slots : List Slot) → list_any is slots ≡ true
    → First is f slots
found is f slots h = elim (first_or_none is f slots)
    [ inl first ↦ first | inr none ↦ absurd (no (list_any is slots) h none.1) ] where
      no : (b : Bool) → b ≡ true → b ≡ false → ⊥
      no b h k = cc

module _ (index_bank : RegisterBank) (r v reg : ℕ) (e : Target) (imm : ℕ) where
  -- what the first slot of each kind says
  pub g_given : (slot : Slot) → names_g slot ≡ true
      → number_of (slot_operand index_bank r v reg e imm slot) ≡ reg + 8 * r
  g_given (G bank) h = refl
  g_given (V bank) h = cc
  g_given (E bank) h = cc
  g_given U8 h = cc
  g_given I8 h = cc
  g_given (R4 bank) h = cc

  pub v_given : (slot : Slot) → names_v slot ≡ true → number_of (slot_operand index_bank r v reg e imm slot) ≡ v
  v_given (V bank) h = refl
  v_given (G bank) h = cc
  v_given (E bank) h = cc
  v_given U8 h = cc
  v_given I8 h = cc
  v_given (R4 bank) h = cc

  e_operand : (bank : RegisterBank) (kind : Kind) (e : Target) → kind_of_target e ≡ plain_kind kind
      → target_of kind (target_operand bank index_bank e) ≡ e
  e_operand bank WithoutModRM NoTarget h = refl
  e_operand bank InRegister (Number n) h = refl
  e_operand bank InMemory (At a) h = ap At (plain-in_banks index_bank a)
  e_operand bank VectorIndexed (At a) h = ap At (plain-in_banks index_bank a)
  e_operand bank _ _ h = cc

  pub e_given : (kind : Kind) (slot : Slot) → names_e slot ≡ true → kind_of_target e ≡ plain_kind kind
      → target_of kind (slot_operand index_bank r v reg e imm slot) ≡ e
  e_given kind (E bank) h k = e_operand bank kind e k
  e_given kind (G bank) h k = cc
  e_given kind (V bank) h k = cc
  e_given kind U8 h k = cc
  e_given kind I8 h k = cc
  e_given kind (R4 bank) h k = cc

-- a byte that is read as signed is that byte
pub signed_again : (imm : ℕ) → imm < 256 → cast_unsigned w8 (cast_signed w8 imm) % 256 ≡ imm
signed_again imm h = let e : cast_unsigned w8 (cast_signed w8 imm) ≡ imm = of_z-to_z w8 imm h in rw e (omega arith)
