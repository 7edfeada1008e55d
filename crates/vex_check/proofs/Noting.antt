-- The first places that need each of the five bits, instruction by instruction.
use Rattle.std.proofs.Common.{◌≡◌, ℕ, ◌<◌, ◌||◌, Bool, true, false, List, [], ◌∷◌, ◌++◌, Option, Some, None, refl}
use Rattle.std.proofs.Common.{sym, ap, ◌∙◌, arith, zero-add}
use Rattle.std.specs.Prelude.{◌==◌, cond, filter, find, is_some, if◌then◌else◌, map, option_map}
use Rattle.std.specs.List.{cons_option, filter_map, list_any, range_with_len}
use Rattle.std.specs.Option.{option_or}
use Rattle.std.proofs.lemmas.Bool.{eqb-true}
use Rattle.std.proofs.lemmas.List.Folds.{find-append}
use Rattle.x86_settings.specs.Bits.{is_set, no_bits, with_set}
use Rattle.x86_settings.specs.Sets.{exactly, is_among}
use Rattle.x86_settings.specs.Settings.{aesni, avx, bmi1, bmi2, f16c}
use Rattle.x86_permit.specs.LeastSettings.{least}
use Rattle.vex_encode.specs.Sweep.{SweptItem}
use Rattle.vex_check.specs.declared.needs.First.{First}
use Rattle.vex_check.specs.declared.first_places.FirstPlaces.{FirstPlaces}
use Rattle.vex_check.specs.Needs.{all_needed, first_needing, first_of, firsts, needs}
use Rattle.vex_check.specs.FirstPlaces.{all_there, bits_there, kept, noted, to_list}
use Rattle.vex_check.proofs.Bits.{five, made-at, needed-five}

-- the first places of a run that need each bit
pub first_places : List SweptItem → FirstPlaces
first_places items = record {
  aesni = first_needing items aesni;
  avx = first_needing items avx;
  bmi1 = first_needing items bmi1;
  bmi2 = first_needing items bmi2;
  f16c = first_needing items f16c;
}

abbrev places : (a b c d e : Option First) → FirstPlaces
places a b c d e = record { aesni = a; avx = b; bmi1 = c; bmi2 = d; f16c = e }

pub none-first : (found : FirstPlaces) → found
    ≡ record { aesni = None; avx = None; bmi1 = None; bmi2 = None; f16c = None } → found ≡ first_places []
unfolding first_places
none-first found is = is

-- ---- one more instruction

-- a bit of settings that are exactly some bits
pub exactly-at : (places : List ℕ) (bit : ℕ) → bit < 128 → is_set (exactly places) bit ≡ is_among places bit
exactly-at places bit below = made-at (is_among places) 128 0 bit below ∙ ap (is_among places) (zero-add bit)

first-push : (items : List SweptItem) (item : SweptItem) (bit : ℕ) → bit < 128
    → kept (is_set (exactly (least item.decoded.meaning.opcode))) item.place item.decoded.meaning.opcode bit
    (first_needing items bit)
    ≡ first_needing (items ++ item ∷ []) bit
first-push items item bit below =
    ap (λ b. option_or (first_needing items bit) (if b then Some (first_of bit item) else None))
    (exactly-at (least item.decoded.meaning.opcode) bit below)
    ∙ by (find (needs bit) items) (needs bit item)
    ∙ sym (ap (option_map (first_of bit)) (find-append (needs bit) items (item ∷ []))) where
      by : (found : Option SweptItem) (need : Bool)
          → option_or (option_map (first_of bit) found) (if need then Some (first_of bit item) else None)
          ≡ option_map (first_of bit) (option_or found (cond need (Some item) None))
      by (Some other) need = refl
      by None true = refl
      by None false = refl

-- the first places once a further instruction is looked at
pub places-push : (items : List SweptItem) (item : SweptItem)
    → noted (is_set (exactly (least item.decoded.meaning.opcode))) item.place item.decoded.meaning.opcode
    (first_places items)
    ≡ first_places (items ++ item ∷ [])
unfolding first_places
places-push items item =
    same (first-push items item aesni (omega arith)) (first-push items item avx (omega arith))
    (first-push items item bmi1 (omega arith))
    (first-push items item bmi2 (omega arith)) (first-push items item f16c (omega arith)) where
      same : {a a' b b' c c' d d' e e' : Option First} → a ≡ a' → b ≡ b' → c ≡ c' → d ≡ d' → e ≡ e'
          → places a b c d e ≡ places a' b' c' d' e'
      same p q r s t = cc

-- ---- the other bits

-- no instruction needs another bit
not-needed : (item : SweptItem) (bit : ℕ) → is_among five bit ≡ false → needs bit item ≡ false
not-needed item bit h = by (needs bit item) refl where
  by : (b : Bool) → needs bit item ≡ b → b ≡ false
  by true e = sym (needed-five item.decoded.meaning.opcode bit e) ∙ h
  by false e = refl

none-needs : (items : List SweptItem) (bit : ℕ) → is_among five bit ≡ false → first_needing items bit ≡ None
none-needs [] bit h = refl
none-needs (item ∷ items) bit h =
    ap (λ b. option_map (first_of bit) (cond b (Some item) (find (needs bit) items))) (not-needed item bit h)
    ∙ none-needs items bit h

-- some instruction needs a bit exactly where one is the first
any-first : (items : List SweptItem) (bit : ℕ) → list_any (needs bit) items ≡ is_some (first_needing items bit)
any-first [] bit = refl
any-first (item ∷ items) bit = by (needs bit item) (any-first items bit) where
  by : (b : Bool) → list_any (needs bit) items ≡ is_some (first_needing items bit)
      → (b || list_any (needs bit) items) ≡ is_some
      (option_map (first_of bit) (cond b (Some item) (find (needs bit) items)))
  by true e = refl
  by false e = e

-- ---- the places that are there

-- what is kept of a list comes from the items that pass a test, where nothing comes from the others
kept-filter : (f : ℕ → Option First) (q : ℕ → Bool) → ((i : ℕ) → q i ≡ false → f i ≡ None) → (is : List ℕ)
    → filter_map f is ≡ filter_map f (filter q is)
kept-filter f q h [] = refl
kept-filter f q h (i ∷ is) = by (q i) refl (kept-filter f q h is) where
  by : (b : Bool) → q i ≡ b → filter_map f is ≡ filter_map f (filter q is)
      → cons_option (f i) (filter_map f is) ≡ filter_map f (cond b (i ∷ filter q is) (filter q is))
  by true e later = ap (cons_option (f i)) later
  by false e later = ap (λ o. cons_option o (filter_map f is)) (h i e) ∙ later

listed : (o : Option First) (firsts : List First) → cons_option o firsts ≡ to_list o ++ firsts
listed None firsts = refl
listed (Some first) firsts = refl

pub firsts-there : (items : List SweptItem) → firsts items ≡ all_there (first_places items)
unfolding firsts first_places
firsts-there items =
    kept-filter (first_needing items) (is_among five) (none-needs items) (range_with_len 0 128)
    ∙ all (first_needing items aesni) (first_needing items avx) (first_needing items bmi1) (first_needing items bmi2)
    (first_needing items f16c) where
      all : (a b c d e : Option First)
          → cons_option a (cons_option b (cons_option c (cons_option d (cons_option e []))))
          ≡ to_list a ++ (to_list b ++ (to_list c ++ (to_list d ++ to_list e)))
      all a b c d e =
          listed a _ ∙ ap (λ t. to_list a ++ t)
          (listed b _ ∙ ap (λ t. to_list b ++ t) (listed c _ ∙ ap (λ t. to_list c ++ t)
          (listed d _ ∙ ap (λ t. to_list d ++ t) (last e)))) where
            last : (o : Option First) → cons_option o [] ≡ to_list o
            last None = refl
            last (Some first) = refl

-- ---- the settings with their bits

-- one of five truth values by the bit, and false for every other bit
by_bit : Bool → Bool → Bool → Bool → Bool → ℕ → Bool
by_bit a b c d e i =
    if aesni == i then a else if avx == i then b else if bmi1 == i then c else if bmi2 == i then d else if f16c == i
    then e else false

made : Bool → Bool → Bool → Bool → Bool → List Bool
made a b c d e = map (by_bit a b c d e) (range_with_len 0 128)

-- the settings, bit by bit
with_one : Bool → ℕ → List Bool → List Bool
with_one b bit settings = if b then with_set settings bit else settings

first-bit : (a : Bool) → with_one a aesni no_bits ≡ made a false false false false
unfolding with_one made by_bit
first-bit true = refl
first-bit false = refl

second-bit : (a b : Bool) → with_one b avx (made a false false false false) ≡ made a b false false false
unfolding with_one made by_bit
second-bit a true = refl
second-bit a false = refl

third-bit : (a b c : Bool) → with_one c bmi1 (made a b false false false) ≡ made a b c false false
unfolding with_one made by_bit
third-bit a b true = refl
third-bit a b false = refl

fourth-bit : (a b c d : Bool) → with_one d bmi2 (made a b c false false) ≡ made a b c d false
unfolding with_one made by_bit
fourth-bit a b c true = refl
fourth-bit a b c false = refl

fifth-bit : (a b c d e : Bool) → with_one e f16c (made a b c d false) ≡ made a b c d e
unfolding with_one made by_bit
fifth-bit a b c d true = refl
fifth-bit a b c d false = refl

all-bits : (a b c d e : Bool) → with_one e f16c
    (with_one d bmi2 (with_one c bmi1 (with_one b avx (with_one a aesni no_bits)))) ≡ made a b c d e
all-bits a b c d e =
    ap (λ s. with_one e f16c (with_one d bmi2 (with_one c bmi1 (with_one b avx s)))) (first-bit a)
    ∙ ap (λ s. with_one e f16c (with_one d bmi2 (with_one c bmi1 s))) (second-bit a b)
    ∙ ap (λ s. with_one e f16c (with_one d bmi2 s)) (third-bit a b c)
    ∙ ap (λ s. with_one e f16c s) (fourth-bit a b c d)
    ∙ fifth-bit a b c d e

map-same : (f g : ℕ → Bool) → ((i : ℕ) → f i ≡ g i) → (is : List ℕ) → map f is ≡ map g is
map-same f g h [] = refl
map-same f g h (i ∷ is) = ap (λ b. b ∷ map f is) (h i) ∙ ap (λ t. g i ∷ t) (map-same f g h is)

-- a test that passes only some of the five bits
by-five : (g : ℕ → Bool) → ((i : ℕ) → is_among five i ≡ false → g i ≡ false) → (i : ℕ)
    → g i ≡ by_bit (g aesni) (g avx) (g bmi1) (g bmi2) (g f16c) i
unfolding by_bit
by-five g h i = by (aesni == i) refl (avx == i) refl (bmi1 == i) refl (bmi2 == i) refl (f16c == i) refl where
  by : (p : Bool) → (aesni == i) ≡ p → (q : Bool) → (avx == i) ≡ q → (r : Bool) → (bmi1 == i) ≡ r → (s : Bool)
      → (bmi2 == i) ≡ s → (t : Bool) → (f16c == i) ≡ t
      → g i ≡ (if p then g aesni else if q then g avx else if r then g bmi1 else if s then g bmi2 else if t then g f16c
      else false)
  by true e q k r l s m t n = ap g (sym (eqb-true aesni i e))
  by false e true k r l s m t n = ap g (sym (eqb-true avx i k))
  by false e false k true l s m t n = ap g (sym (eqb-true bmi1 i l))
  by false e false k false l true m t n = ap g (sym (eqb-true bmi2 i m))
  by false e false k false l false m true n = ap g (sym (eqb-true f16c i n))
  by false e false k false l false m false n = h i (none e k l m n) where
    none : (aesni == i) ≡ false → (avx == i) ≡ false → (bmi1 == i) ≡ false → (bmi2 == i) ≡ false → (f16c == i) ≡ false
        → is_among five i ≡ false
    none e k l m n = rw (e, k, l, m, n) refl

pub needed-there : (items : List SweptItem) → all_needed items ≡ bits_there (first_places items)
unfolding all_needed first_places with_one made
needed-there items =
    map-same (λ bit. list_any (needs bit) items) g (any-first items) (range_with_len 0 128)
    ∙ map-same g (by_bit (g aesni) (g avx) (g bmi1) (g bmi2) (g f16c)) (by-five g others) (range_with_len 0 128)
    ∙ sym (all-bits (g aesni) (g avx) (g bmi1) (g bmi2) (g f16c)) where
      g : ℕ → Bool
      g bit = is_some (first_needing items bit)

      others : (i : ℕ) → is_among five i ≡ false → g i ≡ false
      others i h = ap is_some (none-needs items i h)
