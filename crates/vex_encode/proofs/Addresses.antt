-- The search for an element that passes a test, place by place.
use Rattle.std.specs.Prelude.{◌≡◌, refl, ℕ, ◌+◌, ◌<◌, ◌≤◌, Bool, true, false, ◌||◌, List, [], ◌∷◌, length, drop}
use Rattle.std.specs.Prelude.{slice_index_or}
use Rattle.std.specs.List.{list_any}
use Rattle.std.proofs.Common.{zero, suc, add-one, arith, ap, ◌∙◌}

-- at an element that passes
pub any_found : {A : Type 0} (p : A → Bool) (xs : List A) (i : ℕ) (d : A) → i < length xs
    → p (slice_index_or xs i d) ≡ true → list_any p (drop i xs) ≡ true
any_found p [] i d h k = absurd (omega arith)
any_found p (x ∷ xs) zero d h k = ap (λ b. b || list_any p xs) k
any_found p (x ∷ xs) (suc i) d h k = any_found p xs i d (omega arith) k

-- past one that doesn't
pub any_later : {A : Type 0} (p : A → Bool) (xs : List A) (i : ℕ) (d : A) → i < length xs
    → p (slice_index_or xs i d) ≡ false → list_any p (drop i xs) ≡ list_any p (drop (i + 1) xs)
any_later p [] i d h k = absurd (omega arith)
any_later p (x ∷ xs) zero d h k = ap (λ b. b || list_any p xs) k
any_later p (x ∷ xs) (suc i) d h k = rw add-one (any_later p xs i d (omega arith) k ∙ rw add-one refl)

-- past the last
pub any_end : {A : Type 0} (p : A → Bool) (xs : List A) (i : ℕ) → length xs ≤ i → list_any p (drop i xs) ≡ false
any_end p [] zero h = refl
any_end p [] (suc i) h = refl
any_end p (x ∷ xs) zero h = absurd (omega arith)
any_end p (x ∷ xs) (suc i) h = any_end p xs i (omega arith)
