-- A loop that changes each vector in place.
use Rattle.std.proofs.Common.{◌≡◌, refl, ap, ℕ, zero, suc, ◌<◌, List, [], ◌∷◌, ◌++◌, length, map, take, drop, get_or}
use Rattle.std.proofs.Common.{replicate, slice_set, arith}

-- one step of it
pub advance : {A : Type 0} (f : A → A) (i : ℕ) (xs : List A) (d : A) → i < length xs
    → slice_set (map f (take i xs) ++ drop i xs) i (f (get_or (map f (take i xs) ++ drop i xs) i d))
    ≡ map f (take (suc i) xs) ++ drop (suc i) xs
advance f i [] d lt = absurd (omega arith)
advance f zero (x ∷ xs) d lt = refl
advance f (suc i) (x ∷ xs) d lt = ap (λ l. f x ∷ l) (advance f i xs d (omega arith))

-- where each gets the same, that is all there is
pub all-same : {A : Type 0} (z : A) (xs : List A) → map (λ x. z) xs ≡ replicate (length xs) z
all-same z [] = refl
all-same z (x ∷ xs) = ap (λ l. z ∷ l) (all-same z xs)
