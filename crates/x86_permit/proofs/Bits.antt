-- Setting a further bit.
use Rattle.std.proofs.Common.{◌≡◌, ℕ, suc, zero, Bool, true, List, [], ◌∷◌, refl}
use Rattle.std.proofs.lemmas.Bool.{and_parts, and_from}
use Rattle.x86_settings.specs.Bits.{is_set, with_set}
use Rattle.x86_settings.specs.Sets.{all_set}

-- a bit that is set stays so
is_set-set : (s : List Bool) (i j : ℕ) → is_set s j ≡ true → is_set (with_set s i) j ≡ true
is_set-set [] i j h = h
is_set-set (b ∷ bs) zero zero h = refl
is_set-set (b ∷ bs) zero (suc j) h = h
is_set-set (b ∷ bs) (suc i) zero h = h
is_set-set (b ∷ bs) (suc i) (suc j) h = is_set-set bs i j h

-- bits that are all set stay so
pub all_set-set : (s : List Bool) (i : ℕ) (places : List ℕ) → all_set s places ≡ true
    → all_set (with_set s i) places ≡ true
all_set-set s i [] h = refl
all_set-set s i (j ∷ places) h =
    and_from _ _ (is_set-set s i j (and_parts _ _ h).0) (all_set-set s i places (and_parts _ _ h).1)
