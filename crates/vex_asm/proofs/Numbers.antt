-- Numbers: what is read is what is printed.
use Rattle.std.proofs.Common.{◌≡◌, ◌≢◌, ◌≤◌, ◌<◌, ◌+◌, ◌-◌, ◌*◌, ◌==◌, ◌&&◌, ℕ, zero, suc, ℤ, pos, negsuc, Bool, true}
use Rattle.std.proofs.Common.{false, cond, ◌⊎◌, inl, inr, List, [], ◌∷◌, Option, Some, None, option_map, length, get_or}
use Rattle.std.proofs.Common.{nat_lt, refl, sym, ap, ◌∙◌, rules, arith, decimal, lit<}
use Rattle.std.proofs.lemmas.Bool.{and_parts, eqb-true}
use Rattle.std.proofs.lemmas.Option.{same_Some}
use Rattle.std.proofs.lemmas.Fmt.{digits_decimal, digits_value-decimal, decimal-digits_value, decimal_digit}
use Rattle.std.proofs.lemmas.Fmt.{decimal_nonempty, first_decimal}
use Rattle.std.proofs.lemmas.Str.Parse.{IsNumeralModel, numerals_by_fold, not_in_digits}
use Rattle.std.specs.Str.{all_ascii_digits}
use Rattle.std.specs.Char.{is_ascii_digit}
use Rattle.std.specs.Fmt.{signed_decimal}
use lib.Signed.{mag}
use Rattle.vex_asm.specs.Parsed.{◌>>=◌, digits_on, may_be_number, number_of, negative, signed_of}

abbrev pub read : ℕ → List ℕ → ℕ
read n [] = n
read n (b ∷ bs) = read (n * 10 + (b - 48)) bs

pub own : IsNumeralModel (λ ds. all_ascii_digits ds ≡ true) (read 0)
own = numerals_by_fold _ (search rules) read (search rules)

-- what a test lets through
pub cond_found : {A : Type 0} (b : Bool) (x : Option A) (y : A) → cond b x None ≡ Some y → (b ≡ true) × (x ≡ Some y)
cond_found true x y e = (refl, e)
cond_found false x y e = cc

pub both : (a b : Bool) → a ≡ true → b ≡ true → (a && b) ≡ true
both true b h k = k
both false b h k = cc

read-grows : (n : ℕ) (ds : List ℕ) → n ≤ read n ds
read-grows n [] = omega arith
read-grows n (b ∷ bs) = omega (arith, read-grows (n * 10 + (b - 48)) bs)

digit_fits : (n b : ℕ) → is_ascii_digit b ≡ true → nat_lt n 1000000000 ≡ true → n * 10 + (b - 48) < 10000000000
digit_fits n b d h = grind arith

digits_on-found : (n : ℕ) (ds : List ℕ) (v : ℕ) → n < 10000000000 → digits_on n ds ≡ Some v
    → (all_ascii_digits ds ≡ true) × (read n ds ≡ v) × (v < 10000000000)
digits_on-found n [] v h e = let same : n ≡ v = same_Some n v e in (refl, same, omega arith)
digits_on-found n (b ∷ bs) v h e =
    let found : ((is_ascii_digit b && nat_lt n 1000000000) ≡ true) × (digits_on (n * 10 + (b - 48)) bs ≡ Some v) =
    cond_found _ _ _ e in
    let tests : (is_ascii_digit b ≡ true) × (nat_lt n 1000000000 ≡ true) = and_parts _ _ found.0 in
    let small : n * 10 + (b - 48) < 10000000000 = digit_fits n b tests.0 tests.1 in
    let rest = digits_on-found (n * 10 + (b - 48)) bs v small found.1 in
    (both _ _ tests.0 rest.0, rest.1, rest.2)

digits_on-reads : (n : ℕ) (ds : List ℕ) → all_ascii_digits ds ≡ true → read n ds < 10000000000
    → digits_on n ds ≡ Some (read n ds)
digits_on-reads n [] d h = refl
digits_on-reads n (b ∷ bs) d h =
    let parts : (is_ascii_digit b ≡ true) × (all_ascii_digits bs ≡ true) = and_parts _ _ d in
    let small : nat_lt n 1000000000 ≡ true = grind (arith, read-grows (n * 10 + (b - 48)) bs, h) in
    rw (parts.0, small) (digits_on-reads (n * 10 + (b - 48)) bs parts.1 h)

may_be-first : (ds : List ℕ) → 0 < length ds → 48 < get_or ds 0 0 → may_be_number ds ≡ true
may_be-first [] h k = grind arith
may_be-first (b ∷ bs) h k = grind arith

may_be-found : (ds : List ℕ) → may_be_number ds ≡ true → (0 < length ds) × (get_or ds 0 0 ≡ 48 → length ds ≡ 1)
may_be-found [] h = cc
may_be-found (b ∷ bs) h = (grind arith, grind arith)

digits_of-decimal : (n : ℕ) → n < 10000000000 → digits_on 0 (decimal n) ≡ Some n
digits_of-decimal n h =
    let value : read 0 (decimal n) ≡ n = digits_value-decimal own n (omega arith) in
    digits_on-reads 0 (decimal n) (digits_decimal own n (omega arith)) (rw value h) ∙ ap Some value

may_be-decimal : (n : ℕ) → n < 10000000000 → may_be_number (decimal n) ≡ true
may_be-decimal zero h = rw (decimal_digit 0 (lit< tt)) refl
may_be-decimal (suc n) h = may_be-first _ (decimal_nonempty (suc n) (omega arith))
    (first_decimal (suc n) (omega arith) (omega arith))

-- a number is read from its decimal text
pub number_of-decimal : (n : ℕ) → n < 10000000000 → number_of (decimal n) ≡ Some n
unfolding number_of
number_of-decimal n h = rw (may_be-decimal n h) (digits_of-decimal n h)

-- what a number is read from is its decimal text
pub decimal-number_of : (bs : List ℕ) (n : ℕ) → number_of bs ≡ Some n → (bs ≡ decimal n) × (n < 10000000000)
unfolding number_of
decimal-number_of bs n e =
    let found : (may_be_number bs ≡ true) × (digits_on 0 bs ≡ Some n) = cond_found _ _ _ e in
    let form = may_be-found bs found.0 in
    let read_so = digits_on-found 0 bs n (lit< tt) found.1 in (
      sym (decimal-digits_value own bs read_so.0 form.0 form.1 (omega (arith, read_so.1, read_so.2)))
          ∙ ap decimal read_so.1,
      read_so.2,
    )

pub not_minus : (n : ℕ) → n < 10000000000 → get_or (decimal n) 0 0 ≢ 45
not_minus n h = not_in_digits own (decimal n) 45 (digits_decimal own n (omega arith)) (λ r. omega (arith, r.0, r.1)) 0
    (decimal_nonempty n (omega arith))

plain_signed : (bs : List ℕ) → 0 < length bs → get_or bs 0 0 ≢ 45 → signed_of bs ≡ option_map pos (number_of bs)
unfolding signed_of
plain_signed [] h k = grind arith
plain_signed (c ∷ bs) h k = let no : (c == 45) ≡ false = grind arith in rw no refl

-- a signed number is read from its decimal text
pub signed_of-decimal : (z : ℤ) → mag z < 9999999999 → signed_of (signed_decimal z) ≡ Some z
unfolding signed_of
signed_of-decimal (pos n) h = plain_signed (decimal n) (decimal_nonempty n (omega arith)) (not_minus n (omega arith))
    ∙ ap (option_map pos) (number_of-decimal n (omega arith))
signed_of-decimal (negsuc n) h = rw (number_of-decimal (suc n) (omega arith)) refl

negative-found : (n : ℕ) (z : ℤ) → negative n ≡ Some z → signed_decimal z ≡ 45 ∷ decimal n
negative-found zero z e = cc
negative-found (suc n) z e = let same : negsuc n ≡ z = same_Some _ _ e in rw (← same) refl

pub bind_found : {A B : Type 0} (o : Option A) (f : A → Option B) (y : B) → (o >>= f) ≡ Some y
    → (x : A) × (o ≡ Some x) × (f x ≡ Some y)
bind_found None f y e = cc
bind_found (Some x) f y e = (x, refl, e)

pub map_found : {A B : Type 0} (o : Option A) (f : A → B) (y : B) → option_map f o ≡ Some y
    → (x : A) × (o ≡ Some x) × (f x ≡ y)
map_found None f y e = cc
map_found (Some x) f y e = (x, refl, same_Some _ _ e)

-- a test chooses one of two
pub chosen : {A : Type 0} (b : Bool) (x y z : A) → cond b x y ≡ z → ((b ≡ true) × (x ≡ z)) ⊎ ((b ≡ false) × (y ≡ z))
chosen true x y z e = inl (refl, e)
chosen false x y z e = inr (refl, e)

-- what a signed number is read from is its decimal text
pub decimal-signed_of : (bs : List ℕ) (z : ℤ) → signed_of bs ≡ Some z → bs ≡ signed_decimal z
unfolding signed_of
decimal-signed_of [] z e = cc
decimal-signed_of (b ∷ bs) z e = elim (chosen (b == 45) _ _ _ e) as (λ _. (b ∷ bs) ≡ signed_decimal z) [
  | inl w ↦ let found = bind_found _ _ _ w.1 in
      let minus : b ≡ 45 = eqb-true _ _ w.0 in
      let text : bs ≡ decimal found.0 = (decimal-number_of bs found.0 found.1).0 in
      rw (minus, text) (sym (negative-found found.0 z found.2))
  | inr w ↦ let found = map_found _ _ _ w.1 in
      (decimal-number_of (b ∷ bs) found.0 found.1).0 ∙ ap signed_decimal found.2
]
