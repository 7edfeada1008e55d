-- The number of spellings that a word asks for, by what `parse` reads of it.
use Rattle.std.proofs.Common.{◌≡◌, ℕ, ◌^◌, ◌<◌, ◌≤◌, ◌&&◌, Bool, true, false, nat_le, List, decimal, bytes_eq, Some}
use Rattle.std.proofs.Common.{None, Result, Ok, Err, sym, ap, subst, ◌∙◌, refl, arith, if◌then◌else◌}
use Rattle.std.specs.Str.Parse.{AllDigits, ParsesUnsigned, digits_value}
use Rattle.std.proofs.lemmas.Bool.Decides.{nat_tests}
use Rattle.std.proofs.lemmas.Fmt.{digits_value-decimal, parse-decimal}
use Rattle.std.proofs.lemmas.Slice.Eq.{bytes_eq-Decides}
use Rattle.std.proofs.lemmas.Str.Parse.{numerals_by_value, tells_digits}
use Rattle.vex_lines.specs.Command.{count_of, count_written}

at-least : (m n : ℕ) → m ≤ n → nat_le m n ≡ true
at-least m n h = grind (arith, nat_tests)

from-test : (m n : ℕ) → nat_le m n ≡ true → m ≤ n
from-test m n h = grind (arith, nat_tests)

-- what three tests give that are passed
passed : (a b c : Bool) (n : ℕ) → a ≡ true → b ≡ true → c ≡ true → (if a && b && c then Some n else None) ≡ Some n
passed true true true n _ _ _ = refl
passed false b c n p _ _ = cc
passed true false c n _ p _ = cc
passed true true false n _ _ p = cc

-- and where they can't all be passed
refused : (a b c : Bool) (n : ℕ) → (a ≡ true → b ≡ true → c ≡ true → ⊥) → (if a && b && c then Some n else None) ≡ None
refused true true true n h = absurd (h refl refl refl)
refused false b c n h = refl
refused true false c n h = refl
refused true true false n h = refl

-- the number that the digits of a number write
value : (n : ℕ) → n < 2 ^ 64 → digits_value 10 (decimal n) ≡ n
value n h = digits_value-decimal (numerals_by_value (AllDigits 10) tells_digits) n h

-- a word that writes a number
pub count-written : (word : List ℕ) (n : ℕ) → 1 ≤ n → n ≤ 1000000 → word ≡ decimal n → count_of word ≡ Some n
unfolding count_of
count-written word n h k e =
    ap (count_written word) (ap (digits_value 10) e ∙ value n (omega arith))
    ∙ passed (nat_le 1 n) (nat_le n 1000000) (bytes_eq word (decimal n)) n (at-least 1 n h) (at-least n 1000000 k)
    ((bytes_eq-Decides word (decimal n)).1 e)

-- a word of which `parse` reads none that it writes
pub count-refused : {E : Type 0} (word : List ℕ) (r : Result ℕ E) → ParsesUnsigned 32 10 word r
    → ((n : ℕ) → 1 ≤ n → n ≤ 1000000 → word ≡ decimal n → r ≡ Ok n → ⊥) → count_of word ≡ None
unfolding count_of
count-refused word r parsed none =
    let n = digits_value 10 word in
    refused (nat_le 1 n) (nat_le n 1000000) (bytes_eq word (decimal n)) n
    (λ a b c.
    let low = from-test 1 n a in
    let high = from-test n 1000000 b in
    let is = (bytes_eq-Decides word (decimal n)).0 c in
    none n low high is (parse-decimal 32 n word r (omega (arith, high)) (omega (arith, high)) is parsed))

-- three tests that are passed at once
all-passed : (a b c : Bool) → (a && b && c) ≡ true → (a ≡ true) × (b ≡ true) × (c ≡ true)
all-passed true true true e = (refl, refl, refl)
all-passed false b c e = cc
all-passed true false c e = cc
all-passed true true false e = cc

all-pass : (a b c : Bool) → a ≡ true → b ≡ true → c ≡ true → (a && b && c) ≡ true
all-pass true true true _ _ _ = refl
all-pass false b c p _ _ = cc
all-pass true false c _ p _ = cc
all-pass true true false _ _ p = cc

-- whether a word writes a number of spellings
abbrev writes : List ℕ → ℕ → Bool
writes word n = nat_le 1 n && nat_le n 1000000 && bytes_eq word (decimal n)

-- a word of which `parse` reads a number
pub count-read : {E : Type 0} (word : List ℕ) (r : Result ℕ E) (n : ℕ) → ParsesUnsigned 32 10 word r → r ≡ Ok n
    → count_written word n ≡ count_of word
count-read word r n parsed is = by (writes word n) refl where
  by : (b : Bool) → writes word n ≡ b → count_written word n ≡ count_of word
  by true e =
      let tests = all-passed (nat_le 1 n) (nat_le n 1000000) (bytes_eq word (decimal n)) e in
      ap (λ t. if t then Some n else None) e
      ∙ sym (count-written word n (from-test 1 n tests.0) (from-test n 1000000 tests.1)
      ((bytes_eq-Decides word (decimal n)).0 tests.2))
  by false e =
      ap (λ t. if t then Some n else None) e
      ∙ sym (count-refused word r parsed (λ m low high written read.
      let same : m ≡ n = cc in
      let all : writes word m ≡ true = all-pass (nat_le 1 m) (nat_le m 1000000) (bytes_eq word (decimal m))
      (at-least 1 m low) (at-least m 1000000 high) ((bytes_eq-Decides word (decimal m)).1 written) in
      let again : writes word n ≡ true = subst (λ k. writes word k ≡ true) same all in
      cc))

-- a word of which it reads none
pub count-unread : {E : Type 0} (word : List ℕ) (r : Result ℕ E) (error : E) → ParsesUnsigned 32 10 word r
    → r ≡ Err error → count_of word ≡ None
count-unread word r error parsed is = count-refused word r parsed (λ m low high written read. cc)
