-- One more triple, where only the first so many are kept.
use Rattle.std.proofs.Common.{◌≡◌, ℕ, ◌<◌, ◌≤◌, ◌↔◌, IsTrue, Bool, false, List, [], ◌∷◌, ◌++◌, ◌∙◌, ap, sym, subst}
use Rattle.std.proofs.Common.{length, take, arith}
use Rattle.std.proofs.lemmas.Grind.{common_steps}
use Rattle.x86_reader.specs.Sink.{Triple, TripleList, HoldsFirst, most_kept}

-- there is room for it
take-push_room : {A : Type 0} (n : ℕ) (given : List A) (x : A) → length (take n given) < n
    → take n (given ++ x ∷ []) ≡ take n given ++ x ∷ []
take-push_room n given x room = grind (arith, common_steps)

-- there is no room for it
take-push_full : {A : Type 0} (n : ℕ) (given : List A) (x : A) → n ≤ length (take n given)
    → take n (given ++ x ∷ []) ≡ take n given
take-push_full n given x full = grind (arith, common_steps)

length-push_room : {A : Type 0} (n : ℕ) (given : List A) (x : A) → length (take n given) < n
    → (length given ≤ n) ↔ (length (given ++ x ∷ []) ≤ n)
length-push_room n given x room = grind (arith, common_steps)

length-push_full : {A : Type 0} (n : ℕ) (given : List A) (x : A) → n ≤ length (take n given)
    → length (given ++ x ∷ []) ≤ n → ⊥
length-push_full n given x full = grind (arith, common_steps)

module _ {D : Type 0} (given : List (Triple D)) (x : Triple D) (old new : TripleList D) (first : HoldsFirst given old)
  where
    -- one more is kept
    pub HoldsFirst-kept : length old.kept < most_kept → new.kept ≡ old.kept ++ x ∷ [] → new.whole ≡ old.whole
        → HoldsFirst (given ++ x ∷ []) new
    HoldsFirst-kept room kept whole =
        let space = subst (λ (xs : List (Triple D)). length xs < most_kept) first.kept room in
        let same = length-push_room most_kept given x space in
        record {
          kept = kept ∙ ap (λ xs. xs ++ x ∷ []) first.kept ∙ sym (take-push_room most_kept given x space);
          whole = subst (λ (b : Bool). IsTrue b ↔ (length (given ++ x ∷ []) ≤ most_kept)) (sym whole)
              (λ h. same.0 (first.whole.0 h), λ h. first.whole.1 (same.1 h));
        }

    -- one is dropped
    pub HoldsFirst-dropped : most_kept ≤ length old.kept → new.kept ≡ old.kept → new.whole ≡ false
        → HoldsFirst (given ++ x ∷ []) new
    HoldsFirst-dropped full kept whole =
        let none = subst (λ (xs : List (Triple D)). most_kept ≤ length xs) first.kept full in
        record {
          kept = kept ∙ first.kept ∙ sym (take-push_full most_kept given x none);
          whole = subst (λ (b : Bool). IsTrue b ↔ (length (given ++ x ∷ []) ≤ most_kept)) (sym whole)
              (λ h. cc, λ h. absurd (length-push_full most_kept given x none h));
        }
