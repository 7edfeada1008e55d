-- The search for the first slot of a kind, place by place.
use Rattle.std.specs.Prelude.{◌≡◌, refl, ℕ, ◌+◌, ◌<◌, Bool, true, false, List, [], ◌∷◌, length, drop}
use Rattle.std.specs.Prelude.{if◌then◌else◌}
use Rattle.std.proofs.Common.{zero, suc, arith, sym, ◌∙◌, get_or, add-one}
use Rattle.x86_operand.specs.Meaning.{OperandMeaning, nothing}
use Rattle.vex_forms.specs.declared.slot.Slot.{Slot}
use Rattle.vex_encode.specs.Standard.{operand_of_kind}

no_operands : (is : Slot → Bool) (slots : List Slot) → operand_of_kind is slots [] ≡ nothing
no_operands is [] = refl
no_operands is (s ∷ slots) = refl

chosen_later : (b : Bool) (x y : OperandMeaning) → b ≡ false → (if b then x else y) ≡ y
chosen_later true x y h = cc
chosen_later false x y h = refl

-- at a slot that isn't, the search goes on
pub later_at : (is : Slot → Bool) (slots : List Slot) (operands : List OperandMeaning) (i : ℕ) (s : Slot)
    → i < length slots → is (get_or slots i s) ≡ false
    → operand_of_kind is (drop i slots) (drop i operands)
    ≡ operand_of_kind is (drop (i + 1) slots) (drop (i + 1) operands)
later_at is [] operands i s h k = absurd (omega arith)
later_at is (x ∷ slots) [] zero s h k = sym (no_operands is slots)
later_at is (x ∷ slots) (o ∷ operands) zero s h k = chosen_later (is x) o (operand_of_kind is slots operands) k
later_at is (x ∷ slots) [] (suc i) s h k =
    no_operands is (drop i slots) ∙ rw add-one (sym (no_operands is (drop (suc i) slots)))
later_at is (x ∷ slots) (o ∷ operands) (suc i) s h k =
    rw add-one (later_at is slots operands i s (omega arith) k ∙ rw add-one refl)
