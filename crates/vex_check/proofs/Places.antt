-- Instructions of a run in ascending order of their places.
use Rattle.std.proofs.Common.{◌≡◌, ℕ, suc, ◌≤◌, subst, Bool, true, false, List, [], ◌∷◌, Some, None, refl, sym}
use Rattle.std.proofs.Common.{ap, ◌∙◌, arith}
use Rattle.std.specs.Prelude.{All, Contains, cond, find}
use Rattle.std.proofs.lemmas.List.Elements.{All-cons, All-nil}
use Rattle.vex_encode.specs.Sweep.{SweptItem}
use Rattle.vex_check.proofs.Bits.{false-is-not-true}

-- what is there is one
no-none : {a : SweptItem} → None ≡ Some a → ⊥
no-none e = cc

some-same : {a b : SweptItem} → Some a ≡ Some b → a ≡ b
some-same e = cc

-- membership
pub contains-here : {X : Type 0} (x : X) (xs : List X) → Contains (x ∷ xs) x
contains-here x xs = (0, omega arith, refl)

pub contains-later : {X : Type 0} (x : X) (xs : List X) (y : X) → Contains xs y → Contains (x ∷ xs) y
contains-later x xs y h = (suc h.0, omega (arith, h.1), h.2)

-- each stands no earlier than the one before it, and the first no earlier than a place
abbrev pub Ascend : ℕ → List SweptItem → Type 0
Ascend place [] = Unit {0}
Ascend place (item ∷ items) = (place ≤ item.place) × Ascend item.place items

pub ascend-from : (p q : ℕ) (items : List SweptItem) → q ≤ p → Ascend p items → Ascend q items
ascend-from p q [] le h = tt
ascend-from p q (item ∷ items) le h = (omega (arith, le, h.0), h.1)

-- what none passes
pub none-passes : (p : SweptItem → Bool) (items : List SweptItem) → find p items ≡ None
    → All (λ item. p item ≡ false) items
none-passes p [] h = All-nil (λ item. p item ≡ false)
none-passes p (item ∷ items) h = by (p item) refl h (λ k. none-passes p items k) where
  by : (b : Bool) → p item ≡ b → cond b (Some item) (find p items) ≡ None
      → (find p items ≡ None → All (λ item. p item ≡ false) items)
      → All (λ item. p item ≡ false) (item ∷ items)
  by true e h later = absurd (no-none (sym h))
  by false e h later = All-cons (λ item. p item ≡ false) item items e (later h)

-- the first that passes a test, no later than a place
pub record FoundBy (p : SweptItem → Bool) (items : List SweptItem) (place : ℕ) : Type 0 where
  pub item : SweptItem
  pub is : find p items ≡ Some item
  pub passes : p item ≡ true
  pub by : item.place ≤ place

pub record FoundAt (p : SweptItem → Bool) (items : List SweptItem) (item : SweptItem) : Type 0 where
  pub passes : p item ≡ true
  pub among : Contains items item

-- what is found passes the test, and is in the list
pub found-at : (p : SweptItem → Bool) (items : List SweptItem) (item : SweptItem) → find p items ≡ Some item
    → FoundAt p items item
found-at p [] item h = absurd (no-none h)
found-at p (first ∷ items) item h = by (p first) refl h (λ k. found-at p items item k) where
  by : (b : Bool) → p first ≡ b → cond b (Some first) (find p items) ≡ Some item
      → (find p items ≡ Some item → FoundAt p items item)
      → FoundAt p (first ∷ items) item
  by true e h later = record {
    passes = ap p (sym (some-same h)) ∙ e;
    among =
        subst (λ i. Contains (first ∷ items) i) (some-same h) (contains-here first items);
  }
  by false e h later = let l = later h in record { passes = l.passes; among = contains-later first items item l.among }

-- it stands no earlier than the place from which all ascend
found-after : (p : SweptItem → Bool) (place : ℕ) (items : List SweptItem) (item : SweptItem) → Ascend place items
    → find p items ≡ Some item → place ≤ item.place
found-after p place [] item up h = absurd (no-none h)
found-after p place (first ∷ items) item up h =
    by (p first) refl h (λ k. found-after p first.place items item up.1 k) where
      by : (b : Bool) → p first ≡ b → cond b (Some first) (find p items) ≡ Some item
          → (find p items ≡ Some item → first.place ≤ item.place) → place ≤ item.place
      by true e h later =
          let s : first.place ≡ item.place = ap (λ (i : SweptItem). i.place) (some-same h) in
          omega (arith, s, up.0)
      by false e h later = omega (arith, later h, up.0)

-- where what is found by one test passes another, the other finds something no later
pub found-sooner : (p q : SweptItem → Bool) (place : ℕ) (items : List SweptItem) (item : SweptItem) → Ascend place items
    → find p items ≡ Some item → q item ≡ true → FoundBy q items item.place
found-sooner p q place [] item up h passes = absurd (no-none h)
found-sooner p q place (first ∷ items) item up h passes =
    by (q first) refl (p first) refl h (λ k. found-sooner p q first.place items item up.1 k passes) where
      by : (c : Bool) → q first ≡ c → (b : Bool) → p first ≡ b → cond b (Some first) (find p items) ≡ Some item
          → (find p items ≡ Some item → FoundBy q items item.place) → FoundBy q (first ∷ items) item.place
      by true e true f h later = record {
        item = first;
        is = ap (λ c. cond c (Some first) (find q items)) e;
        passes = e;
        by = let s : first.place ≡ item.place = ap (λ (i : SweptItem). i.place) (some-same h) in omega (arith, s);
      }
      by true e false f h later = record {
        item = first;
        is = ap (λ c. cond c (Some first) (find q items)) e;
        passes = e;
        by = found-after p first.place items item up.1 h;
      }
      by false e true f h later = absurd (false-is-not-true (sym e ∙ ap q (some-same h) ∙ passes))
      by false e false f h later =
          let l = later h in record {
            item = l.item;
            is =
                ap (λ c. cond c (Some first) (find q items)) e ∙ l.is;
            passes = l.passes;
            by = l.by;
          }
