-- A word and its bits.
use Rattle.std.proofs.Common.{◌≡◌, ℕ, zero, suc, ◌-◌, ◌*◌, ◌/◌, ◌%◌, ◌^◌, ◌<◌, ◌≤◌, Bool, true, false, List, ◌++◌, ◌==◌}
use Rattle.std.proofs.Common.{length, take, drop, bit_or, refl, sym, ap, ◌∙◌, inl, inr, arith}
use Rattle.std.specs.Bool.{beq, Decides, one_answer}
use Rattle.std.specs.Cmp.{booleans_Decides}
use Rattle.std.specs.Cmp.Lexicographic.{pointwise, pointwise_decides}
use Rattle.std.specs.Int.{bit_at, w64}
use Rattle.std.proofs.lemmas.Bool.{cases_eq}
use Rattle.std.proofs.lemmas.List.{ext_get_or, length-set, length-append, get_or-set_same, get_or-set_other}
use Rattle.std.proofs.lemmas.List.{get_or_append_left, get_or-append_right, set-append_left, set-append_right}
use Rattle.std.proofs.lemmas.Nat.Bits.{bit_at_lowest, bit_at-suc, bit_at_set_same, bit_at_set_other}
use Rattle.x86_settings.specs.Bits.{is_set, with_set}
use Rattle.x86_settings.specs.Words.{bits, word, length-bits, word-take, word-drop}

-- a bit of a word, as shift and mask read it
pub is_set-bits : (n w i : ℕ) → i < n → is_set (bits n w) i ≡ (bit_at w i == 1)
unfolding bits
is_set-bits zero w i h = absurd (omega arith)
is_set-bits (suc n) w zero h = ap (λ (b : ℕ). b == 1) (sym (bit_at_lowest w))
is_set-bits (suc n) w (suc i) h = is_set-bits n (w / 2) i (omega arith) ∙ ap (λ (b : ℕ). b == 1) (sym (bit_at-suc w i))

-- the word `w | 1 << i` has bit i set, and the others as they were
pub bits-bit_or : (w i : ℕ) → i < 64 → bits 64 (bit_or w (1 * 2 ^ i % 2 ^ 64)) ≡ with_set (bits 64 w) i
bits-bit_or w i h =
    let changed = bit_or w (1 * 2 ^ i % 2 ^ 64) in
    let long : length (bits 64 w) ≡ 64 = length-bits 64 w in
    ext_get_or false (bits 64 changed) (with_set (bits 64 w) i)
    (length-bits 64 changed ∙ sym (length-set (bits 64 w) i true ∙ long))
    (λ k below.
    let within : k < 64 = rw (length-bits 64 changed) at below in
    is_set-bits 64 changed k within
    ∙ (elim (cases_eq k i) [
      | inl same ↦ rw (same, bit_at_set_same w64 w i h, get_or-set_same (bits 64 w) i true false (omega (arith, long)))
          refl
      | inr other ↦ rw (bit_at_set_other w64 w i h k other, get_or-set_other (bits 64 w) i k true false other)
          (sym (is_set-bits 64 w k within))
    ]))

-- the bits of both words in a row
module _ (low high : ℕ) where
  -- there are 128
  pub length-both : length (bits 64 low ++ bits 64 high) ≡ 128
  length-both = length-append (bits 64 low) (bits 64 high) ∙ omega (arith, length-bits 64 low, length-bits 64 high)

  -- the first 64 are those of the low word
  pub is_set-low : (i : ℕ) → i < 64 → is_set (bits 64 low ++ bits 64 high) i ≡ is_set (bits 64 low) i
  is_set-low i h = get_or_append_left (bits 64 low) (bits 64 high) false i (omega (arith, length-bits 64 low))

  -- the others are those of the high word
  pub is_set-high : (i : ℕ) → 64 ≤ i → is_set (bits 64 low ++ bits 64 high) i ≡ is_set (bits 64 high) (i - 64)
  is_set-high i h = get_or-append_right (bits 64 low) (bits 64 high) 64 i false (length-bits 64 low) h

  -- to set one of the first 64 changes the low word alone
  pub with_set-low : (i : ℕ) → i < 64 → with_set (bits 64 low ++ bits 64 high) i
      ≡ with_set (bits 64 low) i ++ bits 64 high
  with_set-low i h = set-append_left (bits 64 low) (bits 64 high) i true (omega (arith, length-bits 64 low))

  -- and one of the others the high word alone
  pub with_set-high : (i : ℕ) → 64 ≤ i → with_set (bits 64 low ++ bits 64 high) i
      ≡ bits 64 low ++ with_set (bits 64 high) (i - 64)
  with_set-high i h = set-append_right (bits 64 low) (bits 64 high) 64 i true (length-bits 64 low) h

-- settings with the same bits have the same words
pub same_words : (l h l' h' : ℕ) → l < 2 ^ 64 → h < 2 ^ 64 → l' < 2 ^ 64 → h' < 2 ^ 64
    → bits 64 l ++ bits 64 h ≡ bits 64 l' ++ bits 64 h' → (l ≡ l') × (h ≡ h')
same_words l h l' h' fl fh fl' fh' e = (
  sym (word-take l h fl) ∙ ap (λ (s : List Bool). word (take 64 s)) e ∙ word-take l' h' fl',
  sym (word-drop l h fh) ∙ ap (λ (s : List Bool). word (drop 64 s)) e ∙ word-drop l' h' fh',
)

-- a test that is true exactly where the settings are the same answers what a test of each bit does
pub pointwise-beq : (b : Bool) (s t : List Bool) → Decides b (s ≡ t) → b ≡ pointwise beq s t
pointwise-beq b s t h = one_answer b (pointwise beq s t) h (pointwise_decides booleans_Decides s t)
