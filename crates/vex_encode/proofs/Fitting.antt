-- Operands that fit their slots, place by place, and the address among them.
use Rattle.std.specs.Prelude.{◌≡◌, refl, ℕ, ◌+◌, ◌<◌, ◌≤◌, true, List, [], ◌∷◌, length, drop, slice_index_or}
use Rattle.std.specs.List.{list_any}
use Rattle.std.proofs.Common.{zero, suc, get_or, add-one, arith}
use Rattle.x86_operand.specs.declared.register.RegisterBank.{RegisterBank}
use Rattle.x86_operand.specs.Kind.{Kind, WithoutModRM, InRegister, InMemory, VectorIndexed}
use Rattle.x86_operand.specs.Meaning.{OperandMeaning, memory, nothing}
use Rattle.vex_rows.specs.Row.{is_memory}
use Rattle.vex_forms.specs.declared.slot.Slot.{Slot}
use Rattle.vex_forms.specs.declared.slot.Slot.TheVariants.{G, V, E, U8, I8, R4}
use Rattle.vex_forms.specs.Slots.{names_e}
use Rattle.vex_encode.specs.declared.operand_walk.Asked.{Asked}
use Rattle.vex_encode.specs.Assembly.{IsAsked, IsPlaced}
use Rattle.vex_encode.specs.Conditions.{PlacedFits, OperandFits, OperandsFit}
use Rattle.vex_encode.specs.Standard.{operand_of_kind}

module _ (kind : Kind) (index_bank : RegisterBank) where
  -- there are as many operands as slots
  pub fit_length : (slots : List Slot) (operands : List OperandMeaning) → OperandsFit kind index_bank slots operands
      → length operands ≡ length slots
  fit_length [] [] fit = refl
  fit_length [] (o ∷ operands) fit = absurd fit
  fit_length (s ∷ slots) [] fit = absurd fit
  fit_length (s ∷ slots) (o ∷ operands) fit = omega (arith, fit_length slots operands fit.1)

  -- those from a place on fit where the one there does, and those after it
  pub fit_here : (slots : List Slot) (operands : List OperandMeaning) (i : ℕ) (s : Slot) → i < length slots
      → length operands ≡ length slots →
      OperandFits kind index_bank (get_or slots i s) (slice_index_or operands i nothing)
      → OperandsFit kind index_bank (drop (i + 1) slots) (drop (i + 1) operands) →
      OperandsFit kind index_bank (drop i slots) (drop i operands)
  fit_here [] operands i s h e here later = absurd (omega arith)
  fit_here (x ∷ slots) [] i s h e here later = absurd (omega arith)
  fit_here (x ∷ slots) (o ∷ operands) zero s h e here later = (here, later)
  fit_here (x ∷ slots) (o ∷ operands) (suc i) s h e here later =
      fit_here slots operands i s (omega arith) (omega arith) here (rw add-one (rw add-one at later))

  -- and only there
  pub fit_parts : (slots : List Slot) (operands : List OperandMeaning) (i : ℕ) (s : Slot) → i < length slots
      → length operands ≡ length slots →
      OperandsFit kind index_bank (drop i slots) (drop i operands) →
      OperandFits kind index_bank (get_or slots i s) (slice_index_or operands i nothing)
      × OperandsFit kind index_bank (drop (i + 1) slots) (drop (i + 1) operands)
  fit_parts [] operands i s h e fit = absurd (omega arith)
  fit_parts (x ∷ slots) [] i s h e fit = absurd (omega arith)
  fit_parts (x ∷ slots) (o ∷ operands) zero s h e fit = fit
  fit_parts (x ∷ slots) (o ∷ operands) (suc i) s h e fit =
      let parts = fit_parts slots operands i s (omega arith) (omega arith) fit in
      let later = parts.1 in
      (parts.0, rw add-one (rw add-one at later))

  -- where all fit, those from a place on do
  pub fit_drop : (slots : List Slot) (operands : List OperandMeaning) (i : ℕ)
      → OperandsFit kind index_bank slots operands → OperandsFit kind index_bank (drop i slots) (drop i operands)
  fit_drop slots operands zero fit = fit
  fit_drop [] [] (suc i) fit = tt
  fit_drop [] (o ∷ operands) (suc i) fit = absurd fit
  fit_drop (x ∷ slots) [] (suc i) fit = absurd fit
  fit_drop (x ∷ slots) (o ∷ operands) (suc i) fit = fit_drop slots operands i fit.1

  -- past the last there is none that doesn't
  pub fit_end : (slots : List Slot) (operands : List OperandMeaning) (i : ℕ) → i ≡ length slots
      → length operands ≡ length slots → OperandsFit kind index_bank (drop i slots) (drop i operands)
  fit_end [] [] zero h e = tt
  fit_end [] [] (suc i) h e = tt
  fit_end [] (o ∷ operands) i h e = absurd (omega arith)
  fit_end (x ∷ slots) [] i h e = absurd (omega arith)
  fit_end (x ∷ slots) (o ∷ operands) zero h e = absurd (omega arith)
  fit_end (x ∷ slots) (o ∷ operands) (suc i) h e = fit_end slots operands i (omega arith) (omega arith)

-- what operands ask for from a place on, by the one there and those after it
pub asked_here : (all : List OperandMeaning) (slots : List Slot) (operands : List OperandMeaning) (i : ℕ) (s : Slot)
    (asked : Asked) → i < length slots → length operands ≡ length slots →
    IsAsked all (get_or slots i s ∷ drop (i + 1) slots) (slice_index_or operands i nothing ∷ drop (i + 1) operands)
    asked → IsAsked all (drop i slots) (drop i operands) asked
asked_here all [] operands i s asked h e is = absurd (omega arith)
asked_here all (x ∷ slots) [] i s asked h e is = absurd (omega arith)
asked_here all (x ∷ slots) (o ∷ operands) zero s asked h e is = is
asked_here all (x ∷ slots) (o ∷ operands) (suc i) s asked h e is =
    asked_here all slots operands i s asked (omega arith) (omega arith) (rw add-one (rw add-one at is))

-- past the last they ask for nothing
pub asked_end : (all : List OperandMeaning) (slots : List Slot) (operands : List OperandMeaning) (i : ℕ)
    (asked : Asked) → i ≡ length slots → length operands ≡ length slots → IsAsked all [] [] asked
    → IsAsked all (drop i slots) (drop i operands) asked
asked_end all [] [] zero asked h e is = is
asked_end all [] [] (suc i) asked h e is = is
asked_end all [] (o ∷ operands) i asked h e is = absurd (omega arith)
asked_end all (x ∷ slots) [] i asked h e is = absurd (omega arith)
asked_end all (x ∷ slots) (o ∷ operands) zero asked h e is = absurd (omega arith)
asked_end all (x ∷ slots) (o ∷ operands) (suc i) asked h e is =
    asked_end all slots operands i asked (omega arith) (omega arith) is

-- no operand stands past the last
pub past_end : (operands : List OperandMeaning) (i : ℕ) → length operands ≤ i
    → slice_index_or operands i nothing ≡ nothing
past_end [] i h = refl
past_end (o ∷ operands) zero h = absurd (omega arith)
past_end (o ∷ operands) (suc i) h = past_end operands i (omega arith)

address_placed : (kind : Kind) (index_bank bank : RegisterBank) (operand : OperandMeaning)
    → PlacedFits kind index_bank bank operand → IsPlaced kind index_bank operand
address_placed WithoutModRM index_bank bank operand fit = tt
address_placed InRegister index_bank bank operand fit = tt
address_placed InMemory index_bank bank (memory address) fit = fit
address_placed InMemory index_bank bank _ fit = absurd fit
address_placed VectorIndexed index_bank bank (memory address) fit = fit
address_placed VectorIndexed index_bank bank _ fit = absurd fit

placed_memory : (kind : Kind) (index_bank : RegisterBank) (slots : List Slot) (operands : List OperandMeaning)
    → OperandsFit kind index_bank slots operands → list_any names_e slots ≡ true
    → IsPlaced kind index_bank (operand_of_kind names_e slots operands)
placed_memory kind index_bank [] [] fit h = cc
placed_memory kind index_bank [] (o ∷ operands) fit h = absurd fit
placed_memory kind index_bank (s ∷ slots) [] fit h = absurd fit
placed_memory kind index_bank (E bank ∷ slots) (o ∷ operands) fit h = address_placed kind index_bank bank o fit.0
placed_memory kind index_bank (G bank ∷ slots) (o ∷ operands) fit h =
    placed_memory kind index_bank slots operands fit.1 h
placed_memory kind index_bank (V bank ∷ slots) (o ∷ operands) fit h =
    placed_memory kind index_bank slots operands fit.1 h
placed_memory kind index_bank (R4 bank ∷ slots) (o ∷ operands) fit h =
    placed_memory kind index_bank slots operands fit.1 h
placed_memory kind index_bank (U8 ∷ slots) (o ∷ operands) fit h = placed_memory kind index_bank slots operands fit.1 h
placed_memory kind index_bank (I8 ∷ slots) (o ∷ operands) fit h = placed_memory kind index_bank slots operands fit.1 h

-- in a row with its operand E in memory, the operand there is an address that fits
pub placed : (kind : Kind) (index_bank : RegisterBank) (slots : List Slot) (operands : List OperandMeaning)
    → OperandsFit kind index_bank slots operands → (is_memory kind ≡ true → list_any names_e slots ≡ true)
    → IsPlaced kind index_bank (operand_of_kind names_e slots operands)
placed WithoutModRM index_bank slots operands fit named = tt
placed InRegister index_bank slots operands fit named = tt
placed InMemory index_bank slots operands fit named = placed_memory InMemory index_bank slots operands fit (named refl)
placed VectorIndexed index_bank slots operands fit named =
    placed_memory VectorIndexed index_bank slots operands fit (named refl)
