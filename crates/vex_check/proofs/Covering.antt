-- The test whether settings have every bit of others.
use Rattle.std.proofs.Common.{◌≡◌, ℕ, zero, suc, ◌+◌, ◌<◌, Bool, true, false, not, ◌||◌, List, length, IsTrue}
use Rattle.std.proofs.Common.{arith, refl, sym, ap, ◌∙◌, inl, inr, zero-add, add-zero}
use Rattle.std.specs.Prelude.{◌↔◌}
use Rattle.std.specs.List.{list_all, range_with_len}
use Rattle.std.proofs.lemmas.Bool.{and_from, and_parts, cases_lt}
use Rattle.std.proofs.lemmas.List.{get_or_past}
use Rattle.x86_settings.specs.Bits.{is_set}
use Rattle.vex_decode.specs.Laws.{AreWithin}
use Rattle.vex_check.specs.Accepted.{covers}
use Rattle.vex_check.proofs.Bits.{false-is-not-true}

-- what holds of each number of a range
all-in : (p : ℕ → Bool) (n a i : ℕ) → list_all p (range_with_len a n) ≡ true → i < n → p (a + i) ≡ true
all-in p zero a i h below = absurd (omega (arith, below))
all-in p (suc n) a zero h below = ap p (add-zero a) ∙ (and_parts _ _ h).0
all-in p (suc n) a (suc i) h below =
    let e : a + suc i ≡ a + 1 + i = omega arith in
    ap p e ∙ all-in p n (a + 1) i (and_parts _ _ h).1 (omega (arith, below))

in-all : (p : ℕ → Bool) (n a : ℕ) → ((i : ℕ) → i < n → p (a + i) ≡ true) → list_all p (range_with_len a n) ≡ true
in-all p zero a h = refl
in-all p (suc n) a h =
    and_from _ _ (ap p (sym (add-zero a)) ∙ h 0 (omega arith))
    (in-all p n (a + 1) (λ i below.
    let e : a + 1 + i ≡ a + suc i = omega arith in
    ap p e ∙ h (suc i) (omega (arith, below))))

either : (b c : Bool) → (b ≡ true → c ≡ true) → (not b || c) ≡ true
either true c h = h refl
either false c h = refl

of-either : (b c : Bool) → (not b || c) ≡ true → b ≡ true → c ≡ true
of-either true c h k = h
of-either false c h k = absurd (false-is-not-true k)

from-within : (settings wanted : List Bool) → AreWithin wanted settings → covers settings wanted ≡ true
unfolding covers
from-within settings wanted within =
    in-all (λ bit. not (is_set wanted bit) || is_set settings bit) (length wanted) 0
    (λ i _. either (is_set wanted (0 + i)) (is_set settings (0 + i)) (within (0 + i)))

to-within : (settings wanted : List Bool) → covers settings wanted ≡ true → AreWithin wanted settings
unfolding covers
to-within settings wanted all i h = elim (cases_lt i (length wanted)) [
  | inl below ↦
      let e = zero-add i in
      let test = all-in (λ bit. not (is_set wanted bit) || is_set settings bit) (length wanted) 0 i all below in
      of-either (is_set wanted i) (is_set settings i)
      (ap (λ j. not (is_set wanted j) || is_set settings j) (sym e) ∙ test) h
  | inr above ↦ absurd (false-is-not-true (sym (get_or_past wanted i false above) ∙ h))
]

-- the answer to whether settings have every bit is the test
pub covers-decided : (settings wanted : List Bool) (answer : Bool) → IsTrue answer ↔ AreWithin wanted settings
    → answer ≡ covers settings wanted
covers-decided settings wanted true is = sym (from-within settings wanted (is.0 refl))
covers-decided settings wanted false is = by (covers settings wanted) refl where
  by : (b : Bool) → covers settings wanted ≡ b → false ≡ b
  by true e = is.1 (to-within settings wanted e)
  by false e = refl
