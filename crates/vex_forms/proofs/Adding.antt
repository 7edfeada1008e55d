-- An instruction that was given one operand more.
use Rattle.std.proofs.Common.{◌≡◌, ℕ, zero, suc, ◌+◌, ◌<◌, ◌≤◌, false, Option, List, [], ◌∷◌, ◌++◌, map, length, take}
use Rattle.std.proofs.Common.{get_or, ap, sym, ◌∙◌, arith}
use Rattle.std.proofs.lemmas.List.{map-append, take_more, length-map, length-take-le}
use Rattle.x86_opcode.specs.declared.Opcode.{Opcode}
use Rattle.x86_operand.specs.Meaning.{OperandMeaning, Decoded, Meaning}
use Rattle.vex_forms.specs.declared.slot.Slot.{Slot}
use Rattle.vex_forms.specs.Operands.{Adds}

-- the operands of the first slots, and that of the next
mapped_more : (g : Slot → OperandMeaning) (slots : List Slot) (i : ℕ) (s : Slot) → i < length slots
    → s ≡ get_or slots i s → map g (take i slots) ++ g s ∷ [] ≡ map g (take (i + 1) slots)
mapped_more g slots i s in_slots read =
    ap (λ last. map g (take i slots) ++ g last ∷ []) read
    ∙ sym (map-append g (take i slots) (get_or slots i s ∷ []))
    ∙ ap (map g) (sym (take_more slots i s in_slots))

-- so the instruction has the operands of the first slots, and then that of the next
pub meaning_more : (g : Slot → OperandMeaning) (slots : List Slot) (i : ℕ) (s : Slot) (opcode : Opcode)
    (size : Option ℕ) (before after : Decoded) →
    Adds (g s) before after → length slots ≤ 4 → i < length slots → s ≡ get_or slots i s →
    before.meaning ≡ record { evex = false; opcode = opcode; operands = map g (take i slots); size = size } →
    after.meaning ≡ record { evex = false; opcode = opcode; operands = map g (take (i + 1) slots); size = size }
meaning_more g slots i s opcode size before after adds few in_slots read so_far =
    let long : length before.meaning.operands ≡ i =
    ap (λ meaning. length meaning.operands) so_far ∙ length-map (take i slots) g
    ∙ length-take-le i slots (omega arith) in
    ap (λ d. d.meaning) (adds (omega arith))
    ∙ ap {A = Meaning} (λ meaning. record meaning { operands = meaning.operands ++ g s ∷ [] }) so_far
    ∙ ap (λ operands. record { evex = false; opcode = opcode; operands = operands; size = size })
    (mapped_more g slots i s in_slots read)

-- the first of four slots, where the number of them is cut down to four
pub first_of_four : (n m : ℕ) (a b c d : Slot) → (n ≤ 4 → m ≡ n) → (4 ≤ n → m ≡ 4)
    → take m (a ∷ b ∷ c ∷ d ∷ []) ≡ take n (a ∷ b ∷ c ∷ d ∷ [])
first_of_four (suc (suc (suc (suc (suc n))))) m a b c d few many =
    ap (λ k. take k (a ∷ b ∷ c ∷ d ∷ [])) (many (omega arith))
first_of_four (suc (suc (suc (suc zero)))) m a b c d few many =
    ap (λ k. take k (a ∷ b ∷ c ∷ d ∷ [])) (few (omega arith))
first_of_four (suc (suc (suc zero))) m a b c d few many =
    ap (λ k. take k (a ∷ b ∷ c ∷ d ∷ [])) (few (omega arith))
first_of_four (suc (suc zero)) m a b c d few many = ap (λ k. take k (a ∷ b ∷ c ∷ d ∷ [])) (few (omega arith))
first_of_four (suc zero) m a b c d few many = ap (λ k. take k (a ∷ b ∷ c ∷ d ∷ [])) (few (omega arith))
first_of_four zero m a b c d few many = ap (λ k. take k (a ∷ b ∷ c ∷ d ∷ [])) (few (omega arith))
