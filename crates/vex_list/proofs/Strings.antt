-- All byte strings up to a length, in ascending order.
use Rattle.std.specs.Prelude.{◌≡◌, refl, ◌⊎◌, ℕ, zero, suc, ◌+◌, ◌<◌, ◌≤◌, Bool, true, false, List, [], ◌∷◌, ◌++◌, map}
use Rattle.std.specs.Prelude.{filter, length, cond}
use Rattle.std.specs.Cmp.{nat_cmp_is}
use Rattle.std.specs.Cmp.Lexicographic.{slice_cmp}
use Rattle.std.specs.Ordering.{nat_cmp, is_lt, ordering_then}
use Rattle.std.proofs.Math.Nat.{eq-or-lt_of_le}
use Rattle.std.proofs.Common.{Less, Equal, arith, ap, sym, ◌∙◌, inl, inr, subst, subst₂}
use Rattle.x86_address.specs.Bytes.{IsBytes}
use Rattle.vex_rows.specs.Row.{Among}
use Rattle.vex_rows.specs.Row.Lists.{among-map, from-map, among-append, among-append_left, among-append_right}
use Rattle.vex_rows.specs.Row.Lists.{from-filter}
use Rattle.vex_list.specs.Order.{Before, Ascending}
use Rattle.vex_list.specs.AllSpellings.{joined, strings}

-- strings with one first byte are ordered by the others, and else by the first
same_first : (k : ℕ) (a b : List ℕ) → Before a b → Before (k ∷ a) (k ∷ b)
same_first k a b h = ap (λ o. is_lt (ordering_then o (slice_cmp nat_cmp a b))) (sym (nat_cmp_is k k Equal refl)) ∙ h

less_first : (j k : ℕ) (a b : List ℕ) → j < k → Before (j ∷ a) (k ∷ b)
less_first j k a b h = ap (λ o. is_lt (ordering_then o (slice_cmp nat_cmp a b))) (sym (nat_cmp_is j k Less h))

-- ---- what keeps lists ascending

ascending_map : (k : ℕ) (tails : List (List ℕ)) → Ascending tails → Ascending (map (λ tail. k ∷ tail) tails)
ascending_map k [] a = tt
ascending_map k (t ∷ tails) a = (before, ascending_map k tails a.1) where
  before : (other : List ℕ) → Among other (map (λ tail. k ∷ tail) tails) → Before (k ∷ t) other
  before other m =
      let from = from-map (λ tail. k ∷ tail) other tails m in
      subst (Before (k ∷ t)) (sym from.2) (same_first k t from.0 (a.0 from.0 from.1))

ascending_append : (xs ys : List (List ℕ)) → Ascending xs → Ascending ys
    → ((x y : List ℕ) → Among x xs → Among y ys → Before x y) → Ascending (xs ++ ys)
ascending_append [] ys a b h = b
ascending_append (x ∷ xs) ys a b h = (
  λ other m. elim (among-append other xs ys m) [ inl k ↦ a.0 other k | inr k ↦ h x other (inl refl) k ],
  ascending_append xs ys a.1 b (λ x' y m n. h x' y (inr m) n),
)

pub ascending_filter : (p : List ℕ → Bool) (xs : List (List ℕ)) → Ascending xs → Ascending (filter p xs)
ascending_filter p [] a = tt
ascending_filter p (x ∷ xs) a = by (p x) (ascending_filter p xs a.1) where
  by : (b : Bool) → Ascending (filter p xs) → Ascending (cond b (x ∷ filter p xs) (filter p xs))
  by true rest = (λ other m. a.0 other (from-filter p other xs m).1, rest)
  by false rest = rest

-- ---- the strings

-- a string that begins with one of n bytes from k on and goes on with one of the tails
record Joined (tails : List (List ℕ)) (n k : ℕ) (b : List ℕ) : Type 0 where
  first : ℕ
  tail : List ℕ
  from : k ≤ first
  below : first < k + n
  among : Among tail tails
  is : b ≡ first ∷ tail

from_joined : (tails : List (List ℕ)) (n k : ℕ) (b : List ℕ) → Among b (joined tails n k) → Joined tails n k b
unfolding joined
from_joined tails zero k b m = absurd m
from_joined tails (suc n) k b m = elim (among-append b (map (λ tail. k ∷ tail) tails) (joined tails n (k + 1)) m) [
  | inl h ↦
      let t = from-map (λ tail. k ∷ tail) b tails h in
      record { first = k; tail = t.0; from = omega arith; below = omega arith; among = t.1; is = t.2 }
  | inr h ↦
      let later = from_joined tails n (k + 1) b h in
      record {
        first = later.first;
        tail = later.tail;
        from = omega (arith, later.from);
        below = omega (arith, later.below);
        among = later.among;
        is = later.is;
      }
]

to_joined : (tails : List (List ℕ)) (n k first : ℕ) (tail : List ℕ) → k ≤ first → first < k + n → Among tail tails
    → Among (first ∷ tail) (joined tails n k)
unfolding joined
to_joined tails zero k first tail from below m = absurd (omega (arith, from, below))
to_joined tails (suc n) k first tail from below m =
    by (eq-or-lt_of_le from) (λ l. to_joined tails n (k + 1) first tail (omega (arith, l)) (omega (arith, below)) m)
  where
    by : (k ≡ first) ⊎ (k < first) → (k < first → Among (first ∷ tail) (joined tails n (k + 1)))
        → Among (first ∷ tail) (map (λ tail. k ∷ tail) tails ++ joined tails n (k + 1))
    by (inl e) later = among-append_left (first ∷ tail) (map (λ tail. k ∷ tail) tails) (joined tails n (k + 1))
        (subst (λ j. Among (j ∷ tail) (map (λ tail. k ∷ tail) tails)) e (among-map (λ tail. k ∷ tail) tail tails m))
    by (inr l) later = among-append_right (first ∷ tail) (map (λ tail. k ∷ tail) tails) (joined tails n (k + 1))
        (later l)

ascending_joined : (tails : List (List ℕ)) (n k : ℕ) → Ascending tails → Ascending (joined tails n k)
unfolding joined
ascending_joined tails zero k a = tt
ascending_joined tails (suc n) k a = ascending_append (map (λ tail. k ∷ tail) tails) (joined tails n (k + 1))
    (ascending_map k tails a) (ascending_joined tails n (k + 1) a) (λ x y m l.
    let t = from-map (λ tail. k ∷ tail) x tails m in
    let later = from_joined tails n (k + 1) y l in
    subst₂ Before (sym t.2) (sym later.is) (less_first k later.first t.0 later.tail (omega (arith, later.from))))

pub ascending_strings : (n : ℕ) → Ascending (strings n)
unfolding strings
ascending_strings zero = (λ other m. absurd m, tt)
ascending_strings (suc n) = (before, ascending_joined (strings n) 256 0 (ascending_strings n)) where
  before : (other : List ℕ) → Among other (joined (strings n) 256 0) → Before [] other
  before other m = let t = from_joined (strings n) 256 0 other m in subst (Before []) (sym t.is) refl

pub bytes_in_strings : (n : ℕ) (b : List ℕ) → Among b (strings n) → IsBytes b
unfolding strings
bytes_in_strings zero b (inl e) = subst IsBytes (sym e) tt
bytes_in_strings zero b (inr m) = absurd m
bytes_in_strings (suc n) b (inl e) = subst IsBytes (sym e) tt
bytes_in_strings (suc n) b (inr m) =
    let t = from_joined (strings n) 256 0 b m in
    subst IsBytes (sym t.is) (omega (arith, t.below), bytes_in_strings n t.tail t.among)

pub in_strings : (n : ℕ) (b : List ℕ) → IsBytes b → length b ≤ n → Among b (strings n)
unfolding strings
in_strings zero [] is h = inl refl
in_strings zero (byte ∷ b) is h = absurd (omega arith)
in_strings (suc n) [] is h = inl refl
in_strings (suc n) (byte ∷ b) is h = inr
    (to_joined (strings n) 256 0 byte b (omega arith) (omega (arith, is.0)) (in_strings n b is.1 (omega (arith, h))))
