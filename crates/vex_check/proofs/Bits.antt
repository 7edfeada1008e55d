-- Bits of settings, and the five that VEX opcodes need.
use Rattle.std.proofs.Common.{add-zero, zero-add, nat_lt, ◌≡◌, ℕ, zero, suc, ◌+◌, ◌<◌, Bool, true, false, List, []}
use Rattle.std.proofs.Common.{◌∷◌, map, refl, sym, ap, ◌∙◌, arith}
use Rattle.std.specs.Prelude.{◌==◌, ◌&&◌, ◌||◌}
use Rattle.std.specs.List.{list_all, range_with_len}
use Rattle.std.proofs.lemmas.Bool.{and_parts, eqb-true}
use Rattle.std.proofs.lemmas.Bool.Decides.{nat_tests}
use Rattle.std.proofs.Math.Bool.{or-true}
use Rattle.x86_opcode.specs.declared.Opcode.{Opcode}
use Rattle.x86_opcode.specs.declared.Opcode.TheVariants.{Integer, Float}
use Rattle.x86_opcode.specs.declared.IntegerOpcode.{IntegerOpcode}
use Rattle.x86_opcode.specs.declared.IntegerOpcode.TheVariants as integer
use Rattle.x86_opcode.specs.declared.FloatOpcode.{FloatOpcode}
use Rattle.x86_opcode.specs.declared.FloatOpcode.TheVariants as float
use Rattle.x86_settings.specs.Bits.{is_set}
use Rattle.x86_settings.specs.Sets.{all_set, is_among}
use Rattle.x86_settings.specs.Settings.{aesni, avx, bmi1, bmi2, f16c}
use Rattle.x86_permit.specs.LeastSettings.{least}

-- the bits that VEX opcodes need, ascending
abbrev pub five : List ℕ
five = aesni ∷ avx ∷ bmi1 ∷ bmi2 ∷ f16c ∷ []

integer-five : (o : IntegerOpcode) → list_all (is_among five) (least (Integer o)) ≡ true
unfolding least
integer-five integer.ANDN = refl
integer-five _ = refl

float-five : (o : FloatOpcode) → list_all (is_among five) (least (Float o)) ≡ true
unfolding least
float-five float.VCVTPH2PS = refl
float-five _ = refl

least-five : (o : Opcode) → list_all (is_among five) (least o) ≡ true
unfolding least
least-five (Integer o) = integer-five o
least-five (Float o) = float-five o
least-five _ = refl

pub false-is-not-true : false ≡ true → ⊥
false-is-not-true h = cc

true-is-not-false : true ≡ false → ⊥
true-is-not-false h = cc

same-bit : (i : ℕ) → (i == i) ≡ true
same-bit i = grind (arith, nat_tests)

-- what all of a list have, each of it has
each : (p : ℕ → Bool) (places : List ℕ) (i : ℕ) → list_all p places ≡ true → is_among places i ≡ true → p i ≡ true
each p [] i h m = cc
each p (j ∷ places) i h m = by (j == i) refl m (λ k. each p places i (and_parts _ _ h).1 k) where
  by : (b : Bool) → (j == i) ≡ b → (b || is_among places i) ≡ true → (is_among places i ≡ true → p i ≡ true)
      → p i ≡ true
  by true e m later = ap p (sym (eqb-true j i e)) ∙ (and_parts _ _ h).0
  by false e m later = later m

-- where all of a list are among others, each of it is
pub each-among : (places others : List ℕ) (i : ℕ) → list_all (is_among others) places ≡ true → is_among places i ≡ true
    → is_among others i ≡ true
each-among places others i h m = each (is_among others) places i h m

-- a bit that an opcode needs is one of the five
pub needed-five : (o : Opcode) (i : ℕ) → is_among (least o) i ≡ true → is_among five i ≡ true
needed-five o i m = each (is_among five) (least o) i (least-five o) m

-- each of these bits that is set in the settings
pub set-each : (s : List Bool) (places : List ℕ) (i : ℕ) → all_set s places ≡ true → is_among places i ≡ true
    → is_set s i ≡ true
set-each s places i h m = each (is_set s) places i h m

-- a bit among these that isn't set, where not all are
pub record Lacks (s : List Bool) (places : List ℕ) : Type 0 where
  pub bit : ℕ
  pub among : is_among places bit ≡ true
  pub lacked : is_set s bit ≡ false

pub lacking : (s : List Bool) (places : List ℕ) → all_set s places ≡ false → Lacks s places
lacking s [] h = absurd (true-is-not-false h)
lacking s (i ∷ places) h = by (is_set s i) refl h (λ k. lacking s places k) where
  here : (b : Bool) → ((i == i) || b) ≡ true
  here b = rw (same-bit i) refl

  further : (j : ℕ) → is_among places j ≡ true → ((i == j) || is_among places j) ≡ true
  further j m = rw (m) (or-true (i == j))

  by : (b : Bool) → is_set s i ≡ b → (b && all_set s places) ≡ false → (all_set s places ≡ false → Lacks s places)
      → Lacks s (i ∷ places)
  by true e h later = let l = later h in record { bit = l.bit; among = further l.bit l.among; lacked = l.lacked }
  by false e h later = record { bit = i; among = here (is_among places i); lacked = e }

-- ---- settings made from a test of each bit

-- the bit at a place of settings that are made from a test
at-made : (f : ℕ → Bool) (n a i : ℕ) → is_set (map f (range_with_len a n)) i ≡ true → (i < n) × (f (a + i) ≡ true)
at-made f zero a i h = absurd (true-is-not-false (sym h))
at-made f (suc n) a zero h = (omega arith, ap f (add-zero a) ∙ h)
at-made f (suc n) a (suc i) h =
    let l = at-made f n (a + 1) i h in
    let e : a + suc i ≡ a + 1 + i = omega arith in
    (omega (arith, l.0), ap f e ∙ l.1)

pub made-at : (f : ℕ → Bool) (n a i : ℕ) → i < n → is_set (map f (range_with_len a n)) i ≡ f (a + i)
made-at f zero a i h = absurd (omega (arith, h))
made-at f (suc n) a zero h = ap f (sym (add-zero a))
made-at f (suc n) a (suc i) h =
    let e : a + 1 + i ≡ a + suc i = omega arith in
    made-at f n (a + 1) i (omega (arith, h)) ∙ ap f e

-- a bit is set exactly where it is below 128 and passes the test
pub from-made : (f : ℕ → Bool) (i : ℕ) → is_set (map f (range_with_len 0 128)) i ≡ true → f i ≡ true
from-made f i h = ap f (sym (zero-add i)) ∙ (at-made f 128 0 i h).1

pub to-made : (f : ℕ → Bool) (i : ℕ) → i < 128 → f i ≡ true → is_set (map f (range_with_len 0 128)) i ≡ true
to-made f i below h = made-at f 128 0 i below ∙ ap f (zero-add i) ∙ h

-- each of the five bits is below 128
five-below : list_all (λ i. nat_lt i 128) five ≡ true
five-below = refl

pub below : (i : ℕ) → is_among five i ≡ true → i < 128
below i m = let lt : nat_lt i 128 ≡ true = each (λ i. nat_lt i 128) five i five-below m in grind (arith, nat_tests)
