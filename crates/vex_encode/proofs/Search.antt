-- The search for the shortest standard bytes, row by row and entry by entry.
use Rattle.std.specs.Prelude.{◌≡◌, refl, ℕ, ◌+◌, ◌<◌, ◌≤◌, Bool, true, false, nat_le, List, [], ◌∷◌, ◌++◌, filter}
use Rattle.std.specs.Prelude.{flat_map, filter_map, length, take, ◌==◌, Option, Some, None, is_some, cond}
use Rattle.std.specs.Prelude.{if◌then◌else◌}
use Rattle.std.specs.List.{cons_option}
use Rattle.std.proofs.Common.{zero, suc, get_or, inl, inr, arith, ap, ap₂, sym, ◌∙◌}
use Rattle.std.proofs.lemmas.Bool.Decides.{nat_tests}
use Rattle.std.proofs.lemmas.Grind.{flat_map-append}
use Rattle.std.proofs.lemmas.List.{take_more}
use Rattle.std.proofs.lemmas.Bool.{eq-eqb}
use Rattle.x86_opcode.specs.Number.{opcode_number, same_opcode}
use Rattle.x86_operand.specs.Meaning.{Meaning}
use Rattle.x86_operand.specs.Same.{same_meaning}
use Rattle.x86_operand.specs.Same.Lemmas.{same_meaning_equal}
use Rattle.vex_rows.specs.declared.entry.Entry.{Entry}
use Rattle.vex_rows.specs.Table.{table}
use Rattle.vex_rows.specs.Row.{Row, Among, rows, exists, opcode_of, choices}
use Rattle.vex_rows.specs.Row.Lists.{both-parts}
use Rattle.vex_rows.specs.Entries.{rows_of, has_opcode, entries_with}
use Rattle.vex_rows.specs.Entries.Lemmas.{no_row}
use Rattle.vex_forms.specs.Gives.{gives}
use Rattle.vex_decode.specs.Spelling.{bytes_of, meant}
use Rattle.vex_encode.specs.Standard.{candidate, is_placed, is_given, standard}
use Rattle.vex_encode.specs.Canon.{shorter, first_shortest, all_standard, canon}
use Rattle.vex_encode.specs.Encode.{standard_of, shorter_of, first_of, first, best}

le_chain : (x a b : ℕ) → nat_le x a ≡ true → nat_le a b ≡ true → nat_le x b ≡ true
le_chain x a b h k = grind (arith, nat_tests)

gt_chain : (x a b : ℕ) → nat_le x a ≡ false → nat_le a b ≡ false → nat_le x b ≡ false
gt_chain x a b h k = grind (arith, nat_tests)

shorter_assoc : (x a b : List ℕ) → shorter x (Some (shorter a (Some b))) ≡ shorter (shorter x (Some a)) (Some b)
shorter_assoc x a b = by (nat_le (length x) (length a)) refl (nat_le (length a) (length b)) refl where
  by : (p : Bool) → nat_le (length x) (length a) ≡ p → (q : Bool) → nat_le (length a) (length b) ≡ q
      → shorter x (Some (if q then a else b)) ≡ shorter (if p then x else a) (Some b)
  by true h true k =
      let e : nat_le (length x) (length b) ≡ true = le_chain (length x) (length a) (length b) h k in
      rw (h, e) refl
  by true h false k = refl
  by false h true k = rw (h, k) refl
  by false h false k =
      let e : nat_le (length x) (length b) ≡ false = gt_chain (length x) (length a) (length b) h k in
      rw (e, k) refl

-- the first of least length of two lists one after the other
pub first_shortest-append : (xs ys : List (List ℕ))
    → first_shortest (xs ++ ys) ≡ shorter_of (first_shortest xs) (first_shortest ys)
first_shortest-append [] ys = refl
first_shortest-append (x ∷ xs) ys = ap (λ o. Some (shorter x o)) (first_shortest-append xs ys)
    ∙ ap Some (joined x (first_shortest xs) (first_shortest ys)) where
      joined : (x : List ℕ) (a b : Option (List ℕ)) → shorter x (shorter_of a b) ≡ shorter (shorter x a) b
      joined x None b = refl
      joined x (Some a) None = refl
      joined x (Some a) (Some b) = shorter_assoc x a b

-- standard bytes of lists of rows one after the other
filter-append : {A : Type 0} (p : A → Bool) (xs ys : List A) → filter p (xs ++ ys) ≡ filter p xs ++ filter p ys
filter-append p [] ys = refl
filter-append p (x ∷ xs) ys = by (p x) (filter p xs) (filter p ys) (filter-append p xs ys) where
  by : (b : Bool) (front back : List _) → filter p (xs ++ ys) ≡ front ++ back
      → cond b (x ∷ filter p (xs ++ ys)) (filter p (xs ++ ys)) ≡ cond b (x ∷ front) front ++ back
  by true front back e = ap (λ t. x ∷ t) e
  by false front back e = e

filter_map-append : {A B : Type 0} (f : A → Option B) (xs ys : List A)
    → filter_map f (xs ++ ys) ≡ filter_map f xs ++ filter_map f ys
filter_map-append f [] ys = refl
filter_map-append f (x ∷ xs) ys = by (f x) (filter_map f xs) (filter_map f ys) (filter_map-append f xs ys) where
  by : (o : Option _) (front back : List _) → filter_map f (xs ++ ys) ≡ front ++ back
      → cons_option o (filter_map f (xs ++ ys)) ≡ cons_option o front ++ back
  by None front back e = e
  by (Some y) front back e = ap (λ t. y ∷ t) e

pub best-append : (m : Meaning) (xs ys : List Row) → best m (xs ++ ys) ≡ shorter_of (best m xs) (best m ys)
best-append m xs ys =
    ap (λ rows. first_shortest (all_standard m rows)) (filter-append exists xs ys)
    ∙ ap first_shortest (filter_map-append (λ row. standard row m) (filter exists xs) (filter exists ys))
    ∙ first_shortest-append (all_standard m (filter exists xs)) (all_standard m (filter exists ys))

-- over one choice
pub best-one : (m : Meaning) (row : Row) → best m (row ∷ []) ≡ standard_of row m
best-one m row = by (exists row) (standard row m) refl where
  by : (b : Bool) (o : Option (List ℕ)) → standard row m ≡ o
      → first_shortest (all_standard m (cond b (row ∷ []) [])) ≡ (if b then standard row m else None)
  by false o e = refl
  by true None e = rw e refl
  by true (Some bytes) e = rw e refl

pub shorter_none : (o : Option (List ℕ)) → shorter_of o None ≡ o
shorter_none None = refl
shorter_none (Some bytes) = refl

-- ---- the first row that can give a meaning

first_of-assoc : (a b c : Option (List ℕ)) → first_of a (first_of b c) ≡ first_of (first_of a b) c
first_of-assoc None b c = refl
first_of-assoc (Some x) b c = refl

pub first_of-none : (a : Option (List ℕ)) → first_of a None ≡ a
first_of-none None = refl
first_of-none (Some x) = refl

pub first-append : (m : Meaning) (xs ys : List Row) → first m (xs ++ ys) ≡ first_of (first m xs) (first m ys)
first-append m [] ys = refl
first-append m (x ∷ xs) ys = ap (first_of (standard_of x m)) (first-append m xs ys)
    ∙ first_of-assoc (standard_of x m) (first m xs) (first m ys)

pub first_of_two : {A : Type 0} (m : Meaning) (f : A → List Row) (a b : A)
    → first m (flat_map f (a ∷ b ∷ [])) ≡ first_of (first m (f a)) (first m (f b))
first_of_two m f a b =
    first-append m (f a) (f b ++ [])
    ∙ ap (first_of (first m (f a))) (first-append m (f b) [] ∙ first_of-none (first m (f b)))

-- it is one of the rows
from-first : (m : Meaning) (xs : List Row) (bytes : List ℕ) → first m xs ≡ Some bytes
    → (row : Row) × Among row xs × (standard_of row m ≡ Some bytes)
from-first m [] bytes e = cc
from-first m (x ∷ xs) bytes e = by (standard_of x m) refl e (from-first m xs bytes) where
  by : (o : Option (List ℕ)) → standard_of x m ≡ o → first_of o (first m xs) ≡ Some bytes
      → (first m xs ≡ Some bytes → (row : Row) × Among row xs × (standard_of row m ≡ Some bytes))
      → (row : Row) × Among row (x ∷ xs) × (standard_of row m ≡ Some bytes)
  by None k e next = let r = next e in (r.0, inr r.1, r.2)
  by (Some other) k e next = (x, inl refl, k ∙ e)

-- there is none where no row can give the meaning
pub first_none : (m : Meaning) (xs : List Row) → ((row : Row) → Among row xs → standard_of row m ≡ None)
    → first m xs ≡ None
first_none m [] h = refl
first_none m (x ∷ xs) h = rw (h x (inl refl)) (first_none m xs (λ row k. h row (inr k)))

-- and there is one where a row can
pub first_given : (m : Meaning) (xs : List Row) (row : Row) (bytes : List ℕ) → Among row xs
    → standard_of row m ≡ Some bytes → first m xs ≡ None → ⊥
first_given m [] row bytes among e none = absurd among
first_given m (x ∷ xs) row bytes (inl is) e none =
    let here : standard_of x m ≡ Some bytes = ap (λ r. standard_of r m) (sym is) ∙ e in
    let never : Some bytes ≡ None = ap (λ o. first_of o (first m xs)) (sym here) ∙ none in
    cc
first_given m (x ∷ xs) row bytes (inr among) e none =
    by (standard_of x m) none (first_given m xs row bytes among e) where
      by : (o : Option (List ℕ)) → first_of o (first m xs) ≡ None → (first m xs ≡ None → ⊥) → ⊥
      by None later never = never later
      by (Some other) later never = cc

-- the standard bytes by a row are no longer than those by another, where both are there
abbrev pub NoLonger : Meaning → Row → Row → Type 0
NoLonger m row other = (a b : List ℕ) → standard_of row m ≡ Some a → standard_of other m ≡ Some b → length a ≤ length b

at_most : (a b : List ℕ) → length a ≤ length b → nat_le (length a) (length b) ≡ true
at_most a b h = grind (arith, nat_tests)

first_kept : (a b : Option (List ℕ)) → ((x y : List ℕ) → a ≡ Some x → b ≡ Some y → length x ≤ length y)
    → shorter_of a b ≡ first_of a b
first_kept None b h = refl
first_kept (Some x) None h = refl
first_kept (Some x) (Some y) h = rw (at_most x y (h x y refl refl)) refl

-- where each row gives no longer bytes than those after it, the first is the shortest
pub best-first : (m : Meaning) (xs : List Row) → ((x y : Row) → Among x xs → Among y xs → NoLonger m x y)
    → best m xs ≡ first m xs
best-first m [] h = refl
best-first m (x ∷ xs) h =
    best-append m (x ∷ []) xs
    ∙ ap₂ shorter_of (best-one m x) (best-first m xs (λ y z k l. h y z (inr k) (inr l)))
    ∙ first_kept (standard_of x m) (first m xs) later
  where
    later : (a b : List ℕ) → standard_of x m ≡ Some a → first m xs ≡ Some b → length a ≤ length b
    later a b e f = let from = from-first m xs b f in h x from.0 (inl refl) (inr from.1) a b e from.2

best_of_two : {A : Type 0} (m : Meaning) (f : A → List Row) (a b : A)
    → best m (flat_map f (a ∷ b ∷ [])) ≡ shorter_of (best m (f a)) (best m (f b))
best_of_two m f a b =
    best-append m (f a) (f b ++ [])
    ∙ ap (shorter_of (best m (f a))) (best-append m (f b) [] ∙ shorter_none (best m (f b)))

-- the same of two lists of rows, one after the other
pub best-first_of_two : {A : Type 0} (m : Meaning) (f : A → List Row) (a b : A)
    → ((x y : Row) → Among x (f a) → Among y (f a) → NoLonger m x y)
    → ((x y : Row) → Among x (f b) → Among y (f b) → NoLonger m x y)
    → ((x y : Row) → Among x (f a) → Among y (f b) → NoLonger m x y)
    → best m (flat_map f (a ∷ b ∷ [])) ≡ first_of (first m (f a)) (first m (f b))
best-first_of_two m f a b h k l =
    best_of_two m f a b
    ∙ ap₂ shorter_of (best-first m (f a) h) (best-first m (f b) k)
    ∙ first_kept (first m (f a)) (first m (f b)) later
  where
    later : (x y : List ℕ) → first m (f a) ≡ Some x → first m (f b) ≡ Some y → length x ≤ length y
    later x y d e =
        let here = from-first m (f a) x d in
        let there = from-first m (f b) y e in
        l here.0 there.0 here.1 there.1 x y here.2 there.2

-- ---- all entries

-- over one more entry
pub best_more : (m : Meaning) (entries : List Entry) (i : ℕ) (entry : Entry) → i < length entries →
    best m (flat_map choices (take (i + 1) entries))
    ≡ shorter_of (best m (flat_map choices (take i entries))) (best m (choices (get_or entries i entry)))
best_more m entries i entry within =
    let at : Entry = get_or entries i entry in
    ap (λ es. best m (flat_map choices es)) (take_more entries i entry within)
    ∙ ap (best m) (flat_map-append choices (take i entries) (get_or entries i entry ∷ []))
    ∙ best-append m (flat_map choices (take i entries)) (choices (get_or entries i entry) ++ [])
    ∙ ap (shorter_of (best m (flat_map choices (take i entries))))
    (best-append m (choices (get_or entries i entry)) [] ∙ shorter_none (best m (choices (get_or entries i entry))))

-- no string of a list of rows that give none
none_given : (m : Meaning) (rows : List Row) → ((row : Row) → Among row rows → standard row m ≡ None)
    → all_standard m rows ≡ []
none_given m [] h = refl
none_given m (row ∷ rows) h = rw (h row (inl refl)) (none_given m rows (λ other k. h other (inr k)))

-- a row of another opcode gives none
other_opcode : (m : Meaning) (row : Row) → same_opcode (opcode_of row) m.opcode ≡ false → standard row m ≡ None
unfolding standard gives same_opcode
other_opcode m row h = by (is_given row m) refl where
  by : (b : Bool) → is_given row m ≡ b → (if b then Some (bytes_of row (candidate row m)) else None) ≡ None
  by false e = refl
  by true e =
      let same : opcode_of row ≡ m.opcode = ap (λ (m : Meaning). m.opcode)
      (same_meaning_equal _ _ (both-parts (is_placed row.kind (candidate row m).place)
      (same_meaning (meant row (candidate row m)) m) e).1) in
      let yes : (opcode_number (opcode_of row) == opcode_number m.opcode) ≡ true = eq-eqb _ _ (ap opcode_number same) in
      cc

-- so does an entry no row of which gives the opcode
entry_without : (m : Meaning) (entry : Entry) → has_opcode entry m.opcode ≡ false → best m (choices entry) ≡ None
unfolding rows_of
entry_without m entry h = ap first_shortest
    (none_given m (filter exists (choices entry)) (λ row k. other_opcode m row (no_row entry m.opcode h row k)))

-- the entries of the opcode are enough
best_kept : (m : Meaning) (entries : List Entry)
    → best m (flat_map choices entries) ≡ best m
    (flat_map choices (filter (λ entry. has_opcode entry m.opcode) entries))
best_kept m [] = refl
best_kept m (entry ∷ entries) = best-append m (choices entry) (flat_map choices entries)
    ∙ by (has_opcode entry m.opcode) refl (best_kept m entries) where
      by : (b : Bool) → has_opcode entry m.opcode ≡ b
          → best m (flat_map choices entries) ≡ best m
          (flat_map choices (filter (λ entry. has_opcode entry m.opcode) entries))
          → shorter_of (best m (choices entry)) (best m (flat_map choices entries))
          ≡ best m (flat_map choices (cond b (entry ∷ filter (λ entry. has_opcode entry m.opcode) entries)
          (filter (λ entry. has_opcode entry m.opcode) entries)))
      by true h next = ap (shorter_of (best m (choices entry))) next
          ∙ sym (best-append m (choices entry) (flat_map choices (filter (λ entry. has_opcode entry m.opcode) entries)))
      by false h next = ap (λ o. shorter_of o (best m (flat_map choices entries))) (entry_without m entry h) ∙ next

-- over the entries of the opcode
pub canon-best : (m : Meaning) → canon m ≡ best m (flat_map choices (entries_with m.opcode))
unfolding canon rows entries_with
canon-best m = best_kept m table

-- what is read at a place of a list stands in it
pub among_at : {A : Type 0} (xs : List A) (i : ℕ) (x : A) → i < length xs → Among (get_or xs i x) xs
among_at [] i x h = absurd (omega arith)
among_at (y ∷ xs) zero x h = inl refl
among_at (y ∷ xs) (suc i) x h = inr (among_at xs i x (omega arith))

-- the first of two, where it is there, and where it isn't
pub first_found : (a b : Option (List ℕ)) → is_some a ≡ true → a ≡ first_of a b
first_found None b h = cc
first_found (Some x) b h = refl

pub first_missing : (a b : Option (List ℕ)) → is_some a ≡ false → b ≡ first_of a b
first_missing None b h = refl
first_missing (Some x) b h = cc

pub none_found : (a : Option (List ℕ)) → is_some a ≡ false → a ≡ None
none_found None h = refl
none_found (Some x) h = cc
