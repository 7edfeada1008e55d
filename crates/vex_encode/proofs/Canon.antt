-- The canonical bytes of a meaning spell it, and are there and no longer wherever anything spells it.
use Rattle.std.specs.Prelude.{◌≡◌, refl, ◌⊎◌, ℕ, ◌≤◌, Bool, true, false, nat_le, List, [], ◌∷◌, length, Option, Some}
use Rattle.std.specs.Prelude.{None, if◌then◌else◌, filter_map}
use Rattle.std.specs.List.{cons_option}
use Rattle.std.proofs.Common.{arith, ap, sym, ◌∙◌, inl, inr, subst}
use Rattle.std.proofs.lemmas.Bool.Decides.{nat_tests}
use Rattle.x86_operand.specs.Meaning.{Meaning}
use Rattle.vex_rows.specs.Row.{Among, IsRow, rows}
use Rattle.vex_decode.specs.Spelling.{bytes_of, Spells}
use Rattle.vex_encode.specs.Standard.{candidate, standard}
use Rattle.vex_encode.specs.Canon.{shorter, first_shortest, all_standard, canon}
use Rattle.vex_encode.proofs.Standard.{standard_there, standard_spells, standard_least}

-- the shorter of two strings is one of them, and no longer than either
shorter_among : (bytes : List ℕ) (o : Option (List ℕ)) (strings : List (List ℕ))
    → ((c : List ℕ) → o ≡ Some c → Among c strings) → Among (shorter bytes o) (bytes ∷ strings)
shorter_among bytes None strings h = inl refl
shorter_among bytes (Some other) strings h = by (nat_le (length bytes) (length other)) where
  by : (b : Bool) → Among (if b then bytes else other) (bytes ∷ strings)
  by true = inl refl
  by false = inr (h other refl)

shorter_left : (bytes : List ℕ) (o : Option (List ℕ)) → length (shorter bytes o) ≤ length bytes
shorter_left bytes None = omega arith
shorter_left bytes (Some other) = by (nat_le (length bytes) (length other)) refl where
  by : (b : Bool) → nat_le (length bytes) (length other) ≡ b → length (if b then bytes else other) ≤ length bytes
  by true h = omega arith
  by false h = grind (arith, nat_tests)

shorter_right : (bytes other : List ℕ) → length (shorter bytes (Some other)) ≤ length other
shorter_right bytes other = by (nat_le (length bytes) (length other)) refl where
  by : (b : Bool) → nat_le (length bytes) (length other) ≡ b → length (if b then bytes else other) ≤ length other
  by true h = grind (arith, nat_tests)
  by false h = omega arith

some_same : {A : Type 0} {x y : A} → Some x ≡ Some y → x ≡ y
some_same e = cc

-- the first of least length is there, wherever there is one
first_shortest-there : (bytes : List ℕ) (strings : List (List ℕ)) → Among bytes strings
    → (c : List ℕ) × (first_shortest strings ≡ Some c) × (length c ≤ length bytes)
first_shortest-there bytes [] m = absurd m
first_shortest-there bytes (string ∷ strings) (inl e) = (
  shorter string (first_shortest strings),
  refl,
  subst (λ b. length (shorter string (first_shortest strings)) ≤ length b) (sym e)
      (shorter_left string (first_shortest strings)),
)
first_shortest-there bytes (string ∷ strings) (inr m) =
    let later = first_shortest-there bytes strings m in
    let right : length (shorter string (first_shortest strings)) ≤ length later.0 =
    subst (λ o. length (shorter string o) ≤ length later.0) (sym later.1) (shorter_right string later.0) in
    (shorter string (first_shortest strings), refl, omega (arith, right, later.2))

first_shortest-among : (strings : List (List ℕ)) (c : List ℕ) → first_shortest strings ≡ Some c → Among c strings
first_shortest-among [] c e = cc
first_shortest-among (string ∷ strings) c e =
    subst (λ b. Among b (string ∷ strings)) (some_same e)
    (shorter_among string (first_shortest strings) strings (first_shortest-among strings))

-- what a function gives of an element, and where what is given comes from
cons_later : {B : Type 0} (o : Option B) (y : B) (ys : List B) → Among y ys → Among y (cons_option o ys)
cons_later None y ys m = m
cons_later (Some x) y ys m = inr m

from_cons : {B : Type 0} (o : Option B) (y : B) (ys : List B) → Among y (cons_option o ys) → (o ≡ Some y) ⊎ Among y ys
from_cons None y ys m = inr m
from_cons (Some x) y ys (inl e) = inl (ap Some (sym e))
from_cons (Some x) y ys (inr m) = inr m

among-filter_map : {A B : Type 0} (f : A → Option B) (x : A) (y : B) (xs : List A) → Among x xs → f x ≡ Some y
    → Among y (filter_map f xs)
among-filter_map f x y [] m e = absurd m
among-filter_map f x y (z ∷ xs) (inl k) e = rw (ap f (sym k) ∙ e) (inl refl)
among-filter_map f x y (z ∷ xs) (inr k) e = cons_later (f z) y (filter_map f xs) (among-filter_map f x y xs k e)

from-filter_map : {A B : Type 0} (f : A → Option B) (y : B) (xs : List A) → Among y (filter_map f xs)
    → (x : A) × Among x xs × (f x ≡ Some y)
from-filter_map f y [] m = absurd m
from-filter_map f y (z ∷ xs) m = elim (from_cons (f z) y (filter_map f xs) m) [
  | inl e ↦ (z, inl refl, e)
  | inr k ↦ let later = from-filter_map f y xs k in (later.0, inr later.1, later.2)
]

-- the canonical bytes of a meaning spell it
pub canon_spells : (m : Meaning) (c : List ℕ) → canon m ≡ Some c → Spells c m
unfolding canon IsRow
canon_spells m c e =
    let among = first_shortest-among (all_standard m rows) c e in
    let from = from-filter_map (λ row. standard row m) c rows among in
    record { row = from.0; is_row = from.1; by = standard_spells from.0 m from.1 c from.2 }

-- where anything spells a meaning, its canonical bytes are there, and no longer
pub canon_least : (m : Meaning) (bytes : List ℕ) → Spells bytes m
    → (c : List ℕ) × (canon m ≡ Some c) × (length c ≤ length bytes)
unfolding canon IsRow
canon_least m bytes spells =
    let there = standard_there spells.row m spells.is_row bytes spells.by in
    let among = among-filter_map (λ row. standard row m) spells.row (bytes_of spells.row (candidate spells.row m)) rows
    spells.is_row there in
    let first = first_shortest-there (bytes_of spells.row (candidate spells.row m)) (all_standard m rows) among in
    (first.0, first.1, omega (arith, first.2, standard_least spells.row m bytes spells.is_row spells.by))

-- where there are none, nothing spells the meaning
pub none_spells : (m : Meaning) → None ≡ canon m → (bytes : List ℕ) → Spells bytes m → ⊥
none_spells m none bytes spells = let least = canon_least m bytes spells in cc (least.1)

-- and where nothing does, there are none
pub never_none : (m : Meaning) (c : List ℕ) → Some c ≡ canon m → ((bytes : List ℕ) → Spells bytes m → ⊥) → ⊥
never_none m c e never = never c (canon_spells m c (sym e))
