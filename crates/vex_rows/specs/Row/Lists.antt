-- Membership in lists that are mapped, filtered and joined.
use Rattle.std.specs.Prelude.{◌≡◌, refl, ℕ, ◌<◌, ◌==◌, slice_get, ◌⊎◌, Bool, true, false, ◌&&◌, ◌||◌, List, [], ◌∷◌}
use Rattle.std.specs.Prelude.{◌++◌, map, filter, flat_map, find, Option, Some, None, cond}
use Rattle.std.specs.List.{list_all, list_any}
use Rattle.std.proofs.Common.{zero, suc, inl, inr, sym, ◌∙◌, ap, subst, arith}
use Rattle.std.proofs.lemmas.Bool.{eqb-true}
use Rattle.std.proofs.lemmas.Bool.Decides.{nat_tests}
use Rattle.vex_rows.specs.Row.{Among}

pub among-append_left : {A : Type 0} (x : A) (xs ys : List A) → Among x xs → Among x (xs ++ ys)
among-append_left x [] ys m = absurd m
among-append_left x (y ∷ xs) ys (inl e) = inl e
among-append_left x (y ∷ xs) ys (inr m) = inr (among-append_left x xs ys m)

pub among-append_right : {A : Type 0} (x : A) (xs ys : List A) → Among x ys → Among x (xs ++ ys)
among-append_right x [] ys m = m
among-append_right x (y ∷ xs) ys m = inr (among-append_right x xs ys m)

pub among-append : {A : Type 0} (x : A) (xs ys : List A) → Among x (xs ++ ys) → Among x xs ⊎ Among x ys
among-append x [] ys m = inr m
among-append x (y ∷ xs) ys (inl e) = inl (inl e)
among-append x (y ∷ xs) ys (inr m) = elim (among-append x xs ys m) [ inl k ↦ inl (inr k) | inr k ↦ inr k ]

-- what is mapped from an element
pub among-map : {A B : Type 0} (f : A → B) (x : A) (xs : List A) → Among x xs → Among (f x) (map f xs)
among-map f x [] m = absurd m
among-map f x (y ∷ xs) (inl e) = inl (ap f e)
among-map f x (y ∷ xs) (inr m) = inr (among-map f x xs m)

pub from-map : {A B : Type 0} (f : A → B) (y : B) (xs : List A) → Among y (map f xs) → (x : A) × Among x xs × (y ≡ f x)
from-map f y [] m = absurd m
from-map f y (x ∷ xs) (inl e) = (x, inl refl, e)
from-map f y (x ∷ xs) (inr m) = let k = from-map f y xs m in (k.0, inr k.1, k.2)

pub among-flat_map : {A B : Type 0} (f : A → List B) (x : A) (y : B) (xs : List A) → Among x xs → Among y (f x)
    → Among y (flat_map f xs)
among-flat_map f x y [] k m = absurd k
among-flat_map f x y (z ∷ xs) (inl e) m = among-append_left y (f z) (flat_map f xs) (subst (λ a. Among y (f a)) e m)
among-flat_map f x y (z ∷ xs) (inr k) m = among-append_right y (f z) (flat_map f xs) (among-flat_map f x y xs k m)

pub from-flat_map : {A B : Type 0} (f : A → List B) (y : B) (xs : List A) → Among y (flat_map f xs)
    → (x : A) × Among x xs × Among y (f x)
from-flat_map f y [] m = absurd m
from-flat_map f y (x ∷ xs) m = elim (among-append y (f x) (flat_map f xs) m) [
  | inl k ↦ (x, inl refl, k)
  | inr k ↦ let r = from-flat_map f y xs k in (r.0, inr r.1, r.2)
]

-- a filter keeps what passes its test
kept : {A : Type 0} (x y : A) (b : Bool) (xs : List A) → Among x (cond b (y ∷ xs) xs)
    → ((b ≡ true) × (x ≡ y)) ⊎ Among x xs
kept x y true xs (inl e) = inl (refl, e)
kept x y true xs (inr m) = inr m
kept x y false xs m = inr m

later : {A : Type 0} (x y : A) (b : Bool) (xs : List A) → Among x xs → Among x (cond b (y ∷ xs) xs)
later x y true xs m = inr m
later x y false xs m = m

pub among-filter : {A : Type 0} (p : A → Bool) (x : A) (xs : List A) → p x ≡ true → Among x xs → Among x (filter p xs)
among-filter p x [] h m = m
among-filter p x (y ∷ xs) h (inl e) = rw (sym (ap p e) ∙ h) (inl e)
among-filter p x (y ∷ xs) h (inr m) = later x y (p y) (filter p xs) (among-filter p x xs h m)

pub from-filter : {A : Type 0} (p : A → Bool) (x : A) (xs : List A) → Among x (filter p xs) → (p x ≡ true) × Among x xs
from-filter p x [] m = absurd m
from-filter p x (y ∷ xs) m = elim (kept x y (p y) (filter p xs) m) [
  | inl k ↦ (ap p k.1 ∙ k.0, inl k.1)
  | inr k ↦ let r = from-filter p x xs k in (r.0, inr r.1)
]

-- what a search finds, stands in the list and passes the test
pub found-find : {A : Type 0} (p : A → Bool) (xs : List A) (x : A) → find p xs ≡ Some x → Among x xs × (p x ≡ true)
found-find p [] x e = cc
found-find p (y ∷ xs) x e = first (p y) refl e (found-find p xs x) where
  first : (b : Bool) → p y ≡ b → cond b (Some y) (find p xs) ≡ Some x
      → (find p xs ≡ Some x → Among x xs × (p x ≡ true)) → Among x (y ∷ xs) × (p x ≡ true)
  first true h e next = let same : y ≡ x = cc in (inl (sym same), sym (ap p same) ∙ h)
  first false h e next = (inr (next e).0, (next e).1)

-- where a search finds nothing, nothing passes the test
pub none-find : {A : Type 0} (p : A → Bool) (xs : List A) (x : A) → find p xs ≡ None → Among x xs → p x ≡ false
none-find p [] x e m = absurd m
none-find p (y ∷ xs) x e m = first (p y) refl e m (none-find p xs x) where
  first : (b : Bool) → p y ≡ b → cond b (Some y) (find p xs) ≡ None → Among x (y ∷ xs)
      → (find p xs ≡ None → Among x xs → p x ≡ false) → p x ≡ false
  first true h e m next = cc
  first false h e (inl k) next = ap p k ∙ h
  first false h e (inr k) next = next e k

-- what stands in the list and passes the test, is found where all that pass are one
pub find-only : {A : Type 0} (p : A → Bool) (xs : List A) (x : A) → Among x xs → p x ≡ true
    → ((y : A) → Among y xs → p y ≡ true → y ≡ x) → find p xs ≡ Some x
find-only p xs x m h only = by (find p xs) refl where
  by : (o : Option _) → find p xs ≡ o → o ≡ Some x
  by None e = let no = none-find p xs x e m in cc
  by (Some y) e = let r = found-find p xs y e in ap Some (only y r.0 r.1)

-- both parts of a conjunction, and the conjunction of both
pub both-parts : (a b : Bool) → (a && b) ≡ true → (a ≡ true) × (b ≡ true)
both-parts true b e = (refl, e)
both-parts false b e = cc

pub parts-both : (a b : Bool) → a ≡ true → b ≡ true → (a && b) ≡ true
parts-both true b h k = k
parts-both false b h k = cc

-- a test of all elements
pub from-list_all : {A : Type 0} (p : A → Bool) (x : A) (xs : List A) → list_all p xs ≡ true → Among x xs → p x ≡ true
from-list_all p x [] h m = absurd m
from-list_all p x (y ∷ xs) h (inl e) = ap p e ∙ (both-parts (p y) (list_all p xs) h).0
from-list_all p x (y ∷ xs) h (inr m) = from-list_all p x xs (both-parts (p y) (list_all p xs) h).1 m

pub list_all-each : {A : Type 0} (p : A → Bool) (xs : List A) → ((x : A) → Among x xs → p x ≡ true)
    → list_all p xs ≡ true
list_all-each p [] h = refl
list_all-each p (y ∷ xs) h = parts-both (p y) (list_all p xs) (h y (inl refl)) (list_all-each p xs (λ x m. h x (inr m)))

-- where nothing is left of joined lists, nothing is in either
pub none-append : {A : Type 0} (xs ys : List A) → xs ++ ys ≡ [] → (xs ≡ []) × (ys ≡ [])
none-append [] ys e = (refl, e)
none-append (x ∷ xs) ys e = cc

pub none-map : {A B : Type 0} (f : A → B) (xs : List A) → map f xs ≡ [] → xs ≡ []
none-map f [] e = refl
none-map f (x ∷ xs) e = cc

pub none-flat_map : {A B : Type 0} (f : A → List B) (x : A) (xs : List A) → flat_map f xs ≡ [] → Among x xs → f x ≡ []
none-flat_map f x [] e m = absurd m
none-flat_map f x (y ∷ xs) e (inl same) = ap f same ∙ (none-append (f y) (flat_map f xs) e).0
none-flat_map f x (y ∷ xs) e (inr m) = none-flat_map f x xs (none-append (f y) (flat_map f xs) e).1 m

-- what a test finds wrong
abbrev pub wrong : {A : Type 0} → Bool → A → List A
wrong true x = []
wrong false x = x ∷ []

pub right : {A : Type 0} (b : Bool) (x : A) → wrong b x ≡ [] → b ≡ true
right true x e = refl
right false x e = cc

-- the numbers below n
abbrev pub below : ℕ → List ℕ
below zero = []
below (suc n) = n ∷ below n

smaller : (k n : ℕ) → k < suc n → (k == n) ≡ false → k < n
smaller k n h e = grind (arith, nat_tests)

pub among-below : (k n : ℕ) → k < n → Among k (below n)
among-below k zero h = absurd (omega arith)
among-below k (suc n) h = by (k == n) refl (among-below k n) where
  by : (b : Bool) → (k == n) ≡ b → (k < n → Among k (below n)) → Among k (below (suc n))
  by true e later = inl (eqb-true k n e)
  by false e later = inr (later (smaller k n h e))

pub among_bits : (bit : Bool) → Among bit (false ∷ true ∷ [])
among_bits false = inl refl
among_bits true = inr (inl refl)

-- what stands at a place stands in the list
pub among-slice_get : {A : Type 0} (x : A) (xs : List A) (i : ℕ) → slice_get xs i ≡ Some x → Among x xs
among-slice_get x [] i e = cc
among-slice_get x (y ∷ xs) zero e = let same : y ≡ x = cc in inl (sym same)
among-slice_get x (y ∷ xs) (suc i) e = inr (among-slice_get x xs i e)

-- where nothing that stands in the list passes the test, a search finds nothing
pub no-find : {A : Type 0} (p : A → Bool) (xs : List A) → ((x : A) → Among x xs → p x ≡ false) → find p xs ≡ None
no-find p xs fails = by (find p xs) refl where
  by : (o : Option _) → find p xs ≡ o → o ≡ None
  by None e = refl
  by (Some x) e = let found = found-find p xs x e in let no = fails x found.0 in let yes = found.1 in cc

-- filtering joined lists
pub filter-append : {A : Type 0} (p : A → Bool) (xs ys : List A) → filter p (xs ++ ys) ≡ filter p xs ++ filter p ys
filter-append p [] ys = refl
filter-append p (x ∷ xs) ys = by (p x) (filter-append p xs ys) where
  by : (b : Bool) → filter p (xs ++ ys) ≡ filter p xs ++ filter p ys
      → cond b (x ∷ filter p (xs ++ ys)) (filter p (xs ++ ys)) ≡ cond b (x ∷ filter p xs) (filter p xs) ++ filter p ys
  by true e = ap (λ zs. x ∷ zs) e
  by false e = e

pub filter-flat_map : {A B : Type 0} (p : B → Bool) (f : A → List B) (xs : List A)
    → filter p (flat_map f xs) ≡ flat_map (λ x. filter p (f x)) xs
filter-flat_map p f [] = refl
filter-flat_map p f (x ∷ xs) = filter-append p (f x) (flat_map f xs)
    ∙ ap (λ ys. filter p (f x) ++ ys) (filter-flat_map p f xs)

-- a test of some element
pub any-among : {A : Type 0} (p : A → Bool) (x : A) (xs : List A) → p x ≡ true → Among x xs → list_any p xs ≡ true
any-among p x [] h m = absurd m
any-among p x (y ∷ xs) h (inl e) = ap (λ b. b || list_any p xs) (sym (ap p e) ∙ h)
any-among p x (y ∷ xs) h (inr m) = by (p y) (any-among p x xs h m) where
  by : (b : Bool) → list_any p xs ≡ true → (b || list_any p xs) ≡ true
  by true e = refl
  by false e = e

pub from-any : {A : Type 0} (p : A → Bool) (xs : List A) → list_any p xs ≡ true → (x : A) × Among x xs × (p x ≡ true)
from-any p [] h = cc
from-any p (y ∷ xs) h = by (p y) refl h (from-any p xs) where
  by : (b : Bool) → p y ≡ b → (b || list_any p xs) ≡ true
      → (list_any p xs ≡ true → (x : _) × Among x xs × (p x ≡ true)) → (x : _) × Among x (y ∷ xs) × (p x ≡ true)
  by true e h later = (y, inl refl, e)
  by false e h later = let found = later h in (found.0, inr found.1, found.2)

pub none-any : {A : Type 0} (p : A → Bool) (x : A) (xs : List A) → list_any p xs ≡ false → Among x xs → p x ≡ false
none-any p x xs none m = by (p x) refl where
  by : (b : Bool) → p x ≡ b → p x ≡ false
  by true e = let some = any-among p x xs e m in cc
  by false e = e
