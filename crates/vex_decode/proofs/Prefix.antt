use Rattle.std.specs.Prelude.{◌≡◌, refl, ℕ, ◌+◌, ◌-◌, ◌*◌, ◌/◌, ◌%◌, ◌<◌, ◌≤◌, Bool, true, false, List, [], ◌∷◌, ◌++◌}
use Rattle.std.specs.Prelude.{Ok, Option, Some, None, ◌==◌, ◌⊎◌}
use Rattle.std.proofs.Common.{arith, ap, sym, ◌∙◌, inl, inr, subst}
use Rattle.std.proofs.lemmas.Bool.{eqb-true}
use Rattle.vex_decode.proofs.Binds.{ok_same, went, chosen}
use Rattle.std.proofs.lemmas.Bool.Decides.{nat_tests}
use Rattle.x86_address.specs.Bytes.{bit, IsBytes}
use Rattle.x86_address.specs.Reading.{Reading, ◌>>=◌}
use Rattle.vex_rows.specs.declared.key.Map.{Map}
use Rattle.vex_rows.specs.declared.key.Map.TheVariants.{Map0F, Map0F38, Map0F3A}
use Rattle.vex_rows.specs.declared.key.Pp.{Pp}
use Rattle.vex_rows.specs.declared.key.Pp.TheVariants.{Plain, Prefix66, PrefixF3, PrefixF2}
use Rattle.vex_rows.specs.Rules.{map_number, pp_number}
use Rattle.vex_forms.specs.Fields.{Fields}
use Rattle.vex_decode.specs.Fields.{PrefixForm, C4, C5, low_byte, prefix_bytes, IsPrefix, FitsTwoBytes}
use Rattle.vex_decode.specs.Walk.{pp_of, map_of, fields_of_two, fields_of_three, fields_by_map, inverted, read_fields}
use Rattle.vex_decode.specs.Walk.{read_prefix, form_of}

-- the number pp and back
pp_of-number : (pp : Pp) → pp_of (pp_number pp) ≡ pp
pp_of-number Plain = refl
pp_of-number Prefix66 = refl
pp_of-number PrefixF3 = refl
pp_of-number PrefixF2 = refl

number-pp_of : (n : ℕ) → n < 4 → pp_number (pp_of n) ≡ n
number-pp_of n h = grind (arith, nat_tests)

pub pp_below : (pp : Pp) → pp_number pp < 4
pp_below Plain = omega arith
pp_below Prefix66 = omega arith
pp_below PrefixF3 = omega arith
pp_below PrefixF2 = omega arith

-- the number of a map and back
map_of-number : (map : Map) → map_of (map_number map) ≡ Some map
map_of-number Map0F = refl
map_of-number Map0F38 = refl
map_of-number Map0F3A = refl

number-map_of : (n : ℕ) (map : Map) → map_of n ≡ Some map → map_number map ≡ n
number-map_of n Map0F h = grind (arith, nat_tests)
number-map_of n Map0F38 h = grind (arith, nat_tests)
number-map_of n Map0F3A h = grind (arith, nat_tests)

pub map_below : (map : Map) → map_number map < 32
map_below Map0F = omega arith
map_below Map0F38 = omega arith
map_below Map0F3A = omega arith

pub bit_below : (b : Bool) → bit b ≤ 1
bit_below true = omega arith
bit_below false = omega arith

-- a bit that stands inverted, and back
inverted-bit : (b : Bool) → inverted (1 - bit b) ≡ b
inverted-bit true = refl
inverted-bit false = refl

bit-inverted : (n : ℕ) → n < 2 → 1 - bit (inverted n) ≡ n
bit-inverted n h = grind (arith, nat_tests)

-- a bit that stands as it is, and back
pub is_one-bit : (b : Bool) → (bit b == 1) ≡ b
is_one-bit true = refl
is_one-bit false = refl

pub bit-is_one : (n : ℕ) → n < 2 → bit (n == 1) ≡ n
bit-is_one n h = grind (arith, nat_tests)

module _ (t v l pp : ℕ) (ht : t ≤ 1) (hv : v ≤ 15) (hl : l ≤ 1) (hp : pp < 4) where
  low_pp : (128 * t + (8 * (15 - v) + 4 * l + pp)) % 4 ≡ pp
  low_pp = omega arith

  low_l : ((128 * t + (8 * (15 - v) + 4 * l + pp)) / 4) % 2 ≡ l
  low_l = omega arith

  low_v : 15 - ((128 * t + (8 * (15 - v) + 4 * l + pp)) / 8) % 16 ≡ v
  low_v = omega arith

  low_t : (128 * t + (8 * (15 - v) + 4 * l + pp)) / 128 ≡ t
  low_t = omega arith

module _ (r x b k : ℕ) (hr : r ≤ 1) (hx : x ≤ 1) (hb : b ≤ 1) (hk : k < 32) where
  high_r : (128 * r + 64 * x + 32 * b + k) / 128 ≡ r
  high_r = omega arith

  high_x : ((128 * r + 64 * x + 32 * b + k) / 64) % 2 ≡ x
  high_x = omega arith

  high_b : ((128 * r + 64 * x + 32 * b + k) / 32) % 2 ≡ b
  high_b = omega arith

  high_k : (128 * r + 64 * x + 32 * b + k) % 32 ≡ k
  high_k = omega arith

-- what is written of a two-byte prefix is read again
fields_of_two-again : (f : Fields) → f.l ≤ 1 → f.r ≤ 1 → f.v ≤ 15 → FitsTwoBytes f
    → fields_of_two (128 * (1 - f.r) + low_byte f) ≡ f
fields_of_two-again f hl hr hv fits =
    let below : pp_number f.pp < 4 = pp_below f.pp in
    let top : 1 - f.r ≤ 1 = omega arith in
    let pp : pp_of ((128 * (1 - f.r) + low_byte f) % 4) ≡ f.pp =
    ap pp_of (low_pp (1 - f.r) f.v f.l (pp_number f.pp) top hv hl below) ∙ pp_of-number f.pp in
    let l : ((128 * (1 - f.r) + low_byte f) / 4) % 2 ≡ f.l = low_l (1 - f.r) f.v f.l (pp_number f.pp) top hv hl below in
    let v : 15 - ((128 * (1 - f.r) + low_byte f) / 8) % 16 ≡ f.v =
    low_v (1 - f.r) f.v f.l (pp_number f.pp) top hv hl below in
    let t : (128 * (1 - f.r) + low_byte f) / 128 ≡ 1 - f.r = low_t (1 - f.r) f.v f.l (pp_number f.pp) top hv hl below in
    let r : 1 - (128 * (1 - f.r) + low_byte f) / 128 ≡ f.r = omega arith in
    λ i. record {
      map = sym fits.map i;
      pp = pp i;
      w = sym fits.w i;
      l = l i;
      r = r i;
      x = sym fits.x i;
      b =
          sym fits.b i;
      v = v i;
    }

-- what is written of a three-byte prefix is read again
fields_of_three-again : (f : Fields) → f.l ≤ 1 → f.r ≤ 1 → f.v ≤ 15 →
    fields_of_three f.map (128 * (1 - f.r) + 64 * (1 - bit f.x) + 32 * (1 - bit f.b) + map_number f.map)
    (128 * bit f.w + low_byte f) ≡ f
fields_of_three-again f hl hr hv =
    let below : pp_number f.pp < 4 = pp_below f.pp in
    let top : bit f.w ≤ 1 = bit_below f.w in
    let map : map_number f.map < 32 = map_below f.map in
    let hr' : 1 - f.r ≤ 1 = omega arith in
    let hx : 1 - bit f.x ≤ 1 = omega arith in
    let hb : 1 - bit f.b ≤ 1 = omega arith in
    let pp : pp_of ((128 * bit f.w + low_byte f) % 4) ≡ f.pp =
    ap pp_of (low_pp (bit f.w) f.v f.l (pp_number f.pp) top hv hl below) ∙ pp_of-number f.pp in
    let w : ((128 * bit f.w + low_byte f) / 128 == 1) ≡ f.w =
    ap (λ n. n == 1) (low_t (bit f.w) f.v f.l (pp_number f.pp) top hv hl below) ∙ is_one-bit f.w in
    let l : ((128 * bit f.w + low_byte f) / 4) % 2 ≡ f.l = low_l (bit f.w) f.v f.l (pp_number f.pp) top hv hl below in
    let v : 15 - ((128 * bit f.w + low_byte f) / 8) % 16 ≡ f.v =
    low_v (bit f.w) f.v f.l (pp_number f.pp) top hv hl below in
    let t = high_r (1 - f.r) (1 - bit f.x) (1 - bit f.b) (map_number f.map) hr' hx hb map in
    let r : 1 - (128 * (1 - f.r) + 64 * (1 - bit f.x) + 32 * (1 - bit f.b) + map_number f.map) / 128 ≡ f.r =
    omega arith in
    let x = ap inverted (high_x (1 - f.r) (1 - bit f.x) (1 - bit f.b) (map_number f.map) hr' hx hb map)
    ∙ inverted-bit f.x in
    let b = ap inverted (high_b (1 - f.r) (1 - bit f.x) (1 - bit f.b) (map_number f.map) hr' hx hb map)
    ∙ inverted-bit f.b in
    λ i. record { map = f.map; pp = pp i; w = w i; l = l i; r = r i; x = x i; b = b i; v = v i }

-- what is written of a prefix is read again, whatever follows it
pub read_prefix-again : (form : PrefixForm) (f : Fields) (rest : List ℕ) → IsPrefix form f
    → read_prefix (prefix_bytes form f ++ rest) ≡ Ok ((form, f), rest)
read_prefix-again C5 f rest is = ap (λ g. Ok ((C5, g), rest)) (fields_of_two-again f is.l is.r is.v is.can_say)
read_prefix-again C4 f rest is =
    let k = high_k (1 - f.r) (1 - bit f.x) (1 - bit f.b) (map_number f.map) (omega (arith, is.r)) (omega arith)
    (omega arith) (map_below f.map) in
    rw (k, map_of-number f.map) (ap (λ g. Ok ((C4, g), rest)) (fields_of_three-again f is.l is.r is.v))

-- what was read of a prefix, and how it was written
pub record ReadsPrefix (bytes : List ℕ) (read : (PrefixForm × Fields) × List ℕ) : Type 0 where
  pub is_prefix : IsPrefix read.0.0 read.0.1
  pub written : bytes ≡ prefix_bytes read.0.0 read.0.1 ++ read.1
  pub left : IsBytes read.1

form_of-cases : (first : ℕ) (rest : List ℕ) (read : PrefixForm × List ℕ) → form_of first rest ≡ Ok read
    → ((first ≡ 197) × ((C5, rest) ≡ read)) ⊎ ((first ≡ 196) × ((C4, rest) ≡ read))
form_of-cases first rest read e =
    elim (chosen (first == 197) _ _ _ e) [
      | inl h ↦ inl (eqb-true first 197 h.0, ok_same h.1)
      | inr h ↦ elim (chosen (first == 196) _ _ _ h.1) [
        | inl k ↦ inr (eqb-true first 196 k.0, ok_same k.1)
        | inr k ↦ cc (k.1)
      ]
    ]

-- a byte of a two-byte prefix is the one that its fields write
two_bytes-written : (p : ℕ) → p < 256 → p ≡ 128 * (1 - (fields_of_two p).r) + low_byte (fields_of_two p)
two_bytes-written p h = omega (arith, number-pp_of (p % 4) (omega arith))

-- the bytes of a three-byte prefix are those that its fields write
high_byte-written : (map : Map) (p q : ℕ) → p < 256 → map_number map ≡ p % 32 →
    p ≡ 128 * (1 - (fields_of_three map p q).r) + 64 * (1 - bit (fields_of_three map p q).x) + 32
    * (1 - bit (fields_of_three map p q).b) + map_number map
high_byte-written map p q h k = omega (
  arith,
  bit-inverted ((p / 64) % 2) (omega arith),
  bit-inverted ((p / 32) % 2) (omega arith),
)

low_byte-written : (map : Map) (p q : ℕ) → q < 256
    → q ≡ 128 * bit (fields_of_three map p q).w + low_byte (fields_of_three map p q)
low_byte-written map p q h = omega (arith, number-pp_of (q % 4) (omega arith), bit-is_one (q / 128) (omega arith))

-- what was read of a two-byte prefix
two-written : (p : ℕ) (rest : List ℕ) → p < 256 → IsBytes rest
    → ReadsPrefix (197 ∷ p ∷ rest) ((C5, fields_of_two p), rest)
two-written p rest small left = record {
  is_prefix = record {
    l = omega arith;
    r = omega arith;
    v = omega arith;
    can_say =
        record { map = refl; w = refl; x = refl; b = refl };
  };
  written = ap (λ n. 197 ∷ n ∷ rest) (two_bytes-written p small);
  left = left;
}

-- what was read of a three-byte prefix
three-written : (map : Map) (p q : ℕ) (rest : List ℕ) → p < 256 → q < 256 → map_of (p % 32) ≡ Some map → IsBytes rest →
    ReadsPrefix (196 ∷ p ∷ q ∷ rest) ((C4, fields_of_three map p q), rest)
three-written map p q rest hp hq k left = record {
  is_prefix = record { l = omega arith; r = omega arith; v = omega arith; can_say = tt };
  written =
      let high = high_byte-written map p q hp (number-map_of (p % 32) map k) in
      let low = low_byte-written map p q hq in
      λ i. 196 ∷ high i ∷ low i ∷ rest;
  left = left;
}

by_map : (k : Option Map) (p q : ℕ) (rest : List ℕ) (read : Fields × List ℕ) → fields_by_map k p q rest ≡ Ok read
    → (map : Map) × (k ≡ Some map) × ((fields_of_three map p q, rest) ≡ read)
by_map None p q rest read e = cc
by_map (Some map) p q rest read e = (map, refl, ok_same e)

-- what follows the first byte
abbrev pub after_form : PrefixForm × List ℕ → Reading (PrefixForm × Fields)
after_form form = read_fields form.0 form.1 >>= (λ fields. Ok ((form.0, fields.0), fields.1))

after_two : (rest : List ℕ) (read : (PrefixForm × Fields) × List ℕ) → IsBytes rest → after_form (C5, rest) ≡ Ok read
    → ReadsPrefix (197 ∷ rest) read
after_two [] read is e = cc
after_two (p ∷ rest) read is e = subst (ReadsPrefix (197 ∷ p ∷ rest)) (ok_same e) (two-written p rest is.0 is.1)

after_three : (rest : List ℕ) (read : (PrefixForm × Fields) × List ℕ) → IsBytes rest → after_form (C4, rest) ≡ Ok read
    → ReadsPrefix (196 ∷ rest) read
after_three [] read is e = cc
after_three (p ∷ []) read is e = cc
after_three (p ∷ q ∷ rest) read is e =
    let fields = went (fields_by_map (map_of (p % 32)) p q rest) _ _ e in
    let by = by_map (map_of (p % 32)) p q rest fields.read fields.was in
    let same = subst (λ f. ◌≡◌ {A = Reading (PrefixForm × Fields)} (Ok ((C4, f.0), f.1)) (Ok read)) (sym by.2)
    fields.after in
    subst (ReadsPrefix (196 ∷ p ∷ q ∷ rest)) (ok_same same) (three-written by.0 p q rest is.0 is.1.0 by.1 is.1.1)

-- what is read of a prefix was so written
pub read_prefix-written : (bytes : List ℕ) (read : (PrefixForm × Fields) × List ℕ) → IsBytes bytes
    → read_prefix bytes ≡ Ok read → ReadsPrefix bytes read
read_prefix-written [] read is e = cc
read_prefix-written (first ∷ rest) read is e =
    let form = went (form_of first rest) after_form _ e in
    elim (form_of-cases first rest form.read form.was) [
      | inl h ↦ subst (λ n. ReadsPrefix (n ∷ rest) read) (sym h.0)
          (after_two rest read is.1 (subst (λ f. after_form f ≡ Ok read) (sym h.1) form.after))
      | inr h ↦ subst (λ n. ReadsPrefix (n ∷ rest) read) (sym h.0)
          (after_three rest read is.1 (subst (λ f. after_form f ≡ Ok read) (sym h.1) form.after))
    ]
