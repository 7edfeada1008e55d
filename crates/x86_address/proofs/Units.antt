-- The displacement that the code chooses is the shortest one.
use Rattle.std.proofs.Common.{◌≡◌, ◌≢◌, ◌⊎◌, inl, inr, ℕ, suc, Bool, true, ℤ, pos, negsuc, refl, arith, w8, w32, of_z}
use Rattle.std.proofs.Common.{FitsSigned}
use Rattle.std.specs.Prelude.{int_div, int_rem}
use Rattle.std.proofs.lemmas.Bool.Decides.{nat_tests}
use Rattle.std.proofs.lemmas.Int.{ints}
use Rattle.x86_address.specs.Bytes.{Short, Long, IsUnit}
use Rattle.x86_address.specs.Bytes.Lemmas.{for_unit}
use Rattle.x86_address.specs.Shortest.{shortest_displacement, doubleword_of}

-- as many units as a value has fit where it does
pub quotient_fits : {unit : ℕ} (z : ℤ) → IsUnit unit → FitsSigned w32 z → FitsSigned w32 (int_div z (pos unit))
quotient_fits (pos n) is =
    for_unit (λ unit. FitsSigned w32 (pos n) → FitsSigned w32 (int_div (pos n) (pos unit)))
    (λ fits. grind (arith, ints, nat_tests)) (λ fits. grind (arith, ints, nat_tests))
    (λ fits. grind (arith, ints, nat_tests)) (λ fits. grind (arith, ints, nat_tests)) is
quotient_fits (negsuc n) is =
    for_unit (λ unit. FitsSigned w32 (negsuc n) → FitsSigned w32 (int_div (negsuc n) (pos unit)))
    (λ fits. grind (arith, ints, nat_tests)) (λ fits. grind (arith, ints, nat_tests))
    (λ fits. grind (arith, ints, nat_tests)) (λ fits. grind (arith, ints, nat_tests)) is

-- a byte, where the value is that many units
pub short_is : {unit : ℕ} (must : Bool) (z : ℤ) → IsUnit unit → (z ≢ pos 0) ⊎ (must ≡ true)
    → of_z w32 (int_rem z (pos unit)) ≡ 0 → FitsSigned w8 (int_div z (pos unit))
    → Short (of_z w8 (int_div z (pos unit))) ≡ shortest_displacement unit must z
short_is must (pos n) is =
    for_unit (λ unit. (pos n ≢ pos 0) ⊎ (must ≡ true) → of_z w32 (int_rem (pos n) (pos unit)) ≡ 0
    → FitsSigned w8 (int_div (pos n) (pos unit))
    → Short (of_z w8 (int_div (pos n) (pos unit))) ≡ shortest_displacement unit must (pos n))
    (λ some rest fits. grind (arith, ints, nat_tests)) (λ some rest fits. grind (arith, ints, nat_tests))
    (λ some rest fits. grind (arith, ints, nat_tests)) (λ some rest fits. grind (arith, ints, nat_tests)) is
short_is must (negsuc n) is =
    for_unit (λ unit. (negsuc n ≢ pos 0) ⊎ (must ≡ true) → of_z w32 (int_rem (negsuc n) (pos unit)) ≡ 0
    → FitsSigned w8 (int_div (negsuc n) (pos unit))
    → Short (of_z w8 (int_div (negsuc n) (pos unit))) ≡ shortest_displacement unit must (negsuc n))
    (λ some rest fits. grind (arith, ints, nat_tests)) (λ some rest fits. grind (arith, ints, nat_tests))
    (λ some rest fits. grind (arith, ints, nat_tests)) (λ some rest fits. grind (arith, ints, nat_tests)) is

-- a doubleword, where no byte has so many
pub long_is : {unit : ℕ} (must : Bool) (z : ℤ) → IsUnit unit → (z ≢ pos 0) ⊎ (must ≡ true)
    → (FitsSigned w8 (int_div z (pos unit)) → ⊥) → Long (doubleword_of z) ≡ shortest_displacement unit must z
long_is must (pos n) is =
    for_unit (λ unit. (pos n ≢ pos 0) ⊎ (must ≡ true) → (FitsSigned w8 (int_div (pos n) (pos unit)) → ⊥)
    → Long (doubleword_of (pos n)) ≡ shortest_displacement unit must (pos n))
    (λ some fits. grind (arith, ints, nat_tests)) (λ some fits. grind (arith, ints, nat_tests))
    (λ some fits. grind (arith, ints, nat_tests)) (λ some fits. grind (arith, ints, nat_tests)) is
long_is must (negsuc n) is =
    for_unit (λ unit. (negsuc n ≢ pos 0) ⊎ (must ≡ true) → (FitsSigned w8 (int_div (negsuc n) (pos unit)) → ⊥)
    → Long (doubleword_of (negsuc n)) ≡ shortest_displacement unit must (negsuc n))
    (λ some fits. grind (arith, ints, nat_tests)) (λ some fits. grind (arith, ints, nat_tests))
    (λ some fits. grind (arith, ints, nat_tests)) (λ some fits. grind (arith, ints, nat_tests)) is
