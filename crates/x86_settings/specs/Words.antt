-- The settings as words.
use Rattle.std.specs.Prelude.{◌≡◌, ℕ, zero, suc, ◌+◌, ◌*◌, ◌/◌, ◌%◌, ◌^◌, ◌<◌, ◌==◌, Bool, List, [], ◌∷◌, ◌++◌, length}
use Rattle.std.specs.Prelude.{take, drop, if◌then◌else◌, refl}
use Rattle.std.proofs.Common.{ap, ◌∙◌, arith}
use Rattle.std.proofs.Math.Nat.{pow-suc}
use Rattle.std.proofs.lemmas.Bool.Decides.{nat_tests}
use Rattle.std.proofs.lemmas.List.{take_at, drop_at}

-- the low n bits of a word, the lowest first
unfoldable pub bits : ℕ → ℕ → List Bool
bits zero word = []
bits (suc n) word = (word % 2 == 1) ∷ bits n (word / 2)

-- the word that has these bits, the lowest first
unfoldable pub word : List Bool → ℕ
word [] = 0
word (b ∷ bs) = (if b then 1 else 0) + 2 * word bs

-- as many bits as were asked for
pub length-bits : (n w : ℕ) → length (bits n w) ≡ n
unfolding bits
length-bits zero w = refl
length-bits (suc n) w = ap suc (length-bits n (w / 2))

-- a word is the word of its bits
pub word-bits : (n w : ℕ) → w < 2 ^ n → word (bits n w) ≡ w
unfolding bits word
word-bits zero w h = omega arith
word-bits (suc n) w h =
    let half : w / 2 < 2 ^ n = omega (arith, pow-suc 2 n) in
    let digit : (if w % 2 == 1 then 1 else 0) ≡ w % 2 = grind (arith, nat_tests) in
    omega (arith, digit, word-bits n (w / 2) half)

-- the low word comes back from the bits of both
pub word-take : (low high : ℕ) → low < 2 ^ 64 → word (take 64 (bits 64 low ++ bits 64 high)) ≡ low
word-take low high h = ap word (take_at (bits 64 low) (bits 64 high) 64 (length-bits 64 low)) ∙ word-bits 64 low h

-- and so does the high word
pub word-drop : (low high : ℕ) → high < 2 ^ 64 → word (drop 64 (bits 64 low ++ bits 64 high)) ≡ high
word-drop low high h = ap word (drop_at (bits 64 low) (bits 64 high) 64 (length-bits 64 low)) ∙ word-bits 64 high h
