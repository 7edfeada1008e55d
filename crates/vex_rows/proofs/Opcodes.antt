-- The places of each opcode are those of the entries that give it.
use Rattle.std.proofs.Common.{◌≡◌, ℕ, zero, suc, ◌<◌, ◌≤◌, ◌+◌, Bool, true, false, cond, ◌&&◌, ◌||◌, ◌==◌, nat_le, List}
use Rattle.std.proofs.Common.{[], ◌∷◌, flat_map, length, filter, map, slice_index, slice_range, slice_get, get_or}
use Rattle.std.proofs.Common.{Option, Some, refl, sym, ap, ap₂, subst, ◌∙◌, arith, eqb-true, leb-true, zero-add}
use Rattle.std.specs.List.{list_any}
use Rattle.std.proofs.lemmas.Option.{slice_get_within}
use Rattle.x86_opcode.specs.declared.Opcode.{Opcode}
use Rattle.x86_opcode.specs.Number.{opcode_number, same_opcode}
use Rattle.vex_rows.specs.declared.entry.Entry.{Entry}
use Rattle.vex_rows.specs.Entries.{rows_of, has_opcode, entries_with}
use Rattle.vex_rows.specs.Index.{place_list, start_list, places_at}
use Rattle.vex_rows.specs.FormRows.{form_row, gathers}
use Rattle.vex_rows.specs.Groups.{groups}
use Rattle.vex_rows.specs.Row.{choices, exists, has_groups, opcode_of}
use Rattle.vex_rows.specs.Steps.{steps}
use Rattle.vex_rows.specs.Table.{table}
use Rattle.vex_rows.specs.Row.Lists.{both-parts, none-flat_map, wrong, right, below, among-below}

-- ---- the numbers of the opcodes that an entry's rows give

-- the elements of a list that don't repeat the one before them, which is x for the first
unfoldable once : ℕ → List ℕ → List ℕ
once x [] = []
once x (y ∷ ys) = let rest = once y ys in cond (x == y) rest (y ∷ rest)

unfoldable all_once : List ℕ → List ℕ
all_once [] = []
all_once (x ∷ xs) = x ∷ once x xs

or_twice : (a b : Bool) → (a || (a || b)) ≡ (a || b)
or_twice true b = refl
or_twice false b = refl

any_once : (n x : ℕ) (ys : List ℕ) → ((x == n) || list_any (λ m. m == n) (once x ys))
    ≡ ((x == n) || list_any (λ m. m == n) ys)
unfolding once
any_once n x [] = refl
any_once n x (y ∷ ys) = by (x == y) refl (any_once n y ys) where
  by : (b : Bool) → (x == y) ≡ b → ((y == n) || list_any (λ m. m == n) (once y ys))
      ≡ ((y == n) || list_any (λ m. m == n) ys)
      → ((x == n) || list_any (λ m. m == n) (cond b (once y ys) (y ∷ once y ys)))
      ≡ ((x == n) || list_any (λ m. m == n) (y ∷ ys))
  by true e later =
      let same = eqb-true x y e in
      let at : ((y == n) || list_any (λ m. m == n) (once y ys))
      ≡ ((y == n) || ((y == n) || list_any (λ m. m == n) ys)) =
      later ∙ sym (or_twice (y == n) (list_any (λ m. m == n) ys)) in
      subst (λ z. ((z == n) || list_any (λ m. m == n) (once y ys))
      ≡ ((z == n) || ((y == n) || list_any (λ m. m == n) ys))) (sym same) at
  by false e later = ap (λ c. (x == n) || c) later

any_all_once : (n : ℕ) (xs : List ℕ) → list_any (λ m. m == n) (all_once xs) ≡ list_any (λ m. m == n) xs
unfolding all_once
any_all_once n [] = refl
any_all_once n (x ∷ xs) = any_once n x xs

any_map : {A : Type 0} (f : A → ℕ) (n : ℕ) (xs : List A)
    → list_any (λ m. m == n) (map f xs) ≡ list_any (λ x. f x == n) xs
any_map f n [] = refl
any_map f n (x ∷ xs) = ap (λ c. (f x == n) || c) (any_map f n xs)

-- the numbers of the opcodes of an entry
unfoldable numbers_of : Entry → List ℕ
numbers_of entry = all_once (map (λ row. opcode_number (opcode_of row)) (rows_of entry))

-- whether a number is one of them
abbrev is_in : ℕ → List ℕ → Bool
is_in n numbers = list_any (λ m. m == n) numbers

numbers_of-has_opcode : (entry : Entry) (opcode : Opcode)
    → is_in (opcode_number opcode) (numbers_of entry) ≡ has_opcode entry opcode
unfolding numbers_of has_opcode same_opcode
numbers_of-has_opcode entry opcode =
    any_all_once (opcode_number opcode) (map (λ row. opcode_number (opcode_of row)) (rows_of entry))
    ∙ any_map (λ row. opcode_number (opcode_of row)) (opcode_number opcode) (rows_of entry)

-- ---- the places of a number

-- the places, counted from a first one, of the lists that have a number
unfoldable places_where : ℕ → ℕ → List (List ℕ) → List ℕ
places_where n place [] = []
places_where n place (numbers ∷ later) =
    let rest = places_where n (suc place) later in
    cond (is_in n numbers) (place ∷ rest) rest

unfoldable same_list : List ℕ → List ℕ → Bool
same_list [] [] = true
same_list [] (y ∷ ys) = false
same_list (x ∷ xs) [] = false
same_list (x ∷ xs) (y ∷ ys) = (x == y) && same_list xs ys

same_list-true : (xs ys : List ℕ) → same_list xs ys ≡ true → xs ≡ ys
unfolding same_list
same_list-true [] [] h = refl
same_list-true [] (y ∷ ys) h = cc
same_list-true (x ∷ xs) [] h = cc
same_list-true (x ∷ xs) (y ∷ ys) h =
    let parts = both-parts (x == y) (same_list xs ys) h in
    ap₂ (λ z zs. z ∷ zs) (eqb-true x y parts.0) (same_list-true xs ys parts.1)

-- whether the places of the opcode of a number lie within the list, are at most four, and are those of the entries that
-- give it
unfoldable is_placed : List (List ℕ) → ℕ → Bool
is_placed numbers n =
    (nat_le (slice_index start_list n) (slice_index start_list (n + 1)) && nat_le (slice_index start_list (n + 1))
    (length place_list))
    && (nat_le (length (places_at n)) 4 && same_list (places_at n) (places_where n 0 numbers))

-- the numbers of opcodes, of which there are 551, whose places are others
unfoldable misplaced : List (List ℕ) → List ℕ
misplaced numbers = flat_map (λ n. wrong (is_placed numbers n) n) (below 551)

none_misplaced : misplaced (map numbers_of table) ≡ []
unfolding table misplaced is_placed places_at place_list start_list places_where same_list numbers_of all_once once
    rows_of choices exists opcode_of has_groups steps groups form_row gathers opcode_number
none_misplaced = refl

-- ---- what the entries at those places are

map-cond : {A : Type 0} (b : Bool) (f : ℕ → Option A) (i : ℕ) (x : A) (ps : List ℕ) (xs : List A) → f i ≡ Some x
    → map f ps ≡ map Some xs → map f (cond b (i ∷ ps) ps) ≡ map Some (cond b (x ∷ xs) xs)
map-cond true f i x ps xs here rest = ap₂ (λ y ys. y ∷ ys) here rest
map-cond false f i x ps xs here rest = rest

-- what is at those places, where f reads the list from the first place on
places_where-filter : (opcode : Opcode) (f : ℕ → Option Entry) (entries : List Entry) (i : ℕ)
    → ((n : ℕ) (x : Entry) → slice_get entries n ≡ Some x → f (i + n) ≡ Some x)
    → map f (places_where (opcode_number opcode) i (map numbers_of entries))
    ≡ map Some (filter (λ entry. has_opcode entry opcode) entries)
unfolding places_where
places_where-filter opcode f [] i reads = refl
places_where-filter opcode f (entry ∷ entries) i reads =
    let first : i ≡ i + zero = omega arith in
    let next : (n : ℕ) → suc i + n ≡ i + suc n = λ n. omega arith in
    let later = λ (n : ℕ) (x : Entry) (e : slice_get entries n ≡ Some x). ap f (next n) ∙ reads (suc n) x e in
    map-cond (is_in (opcode_number opcode) (numbers_of entry)) f i entry
    (places_where (opcode_number opcode) (suc i) (map numbers_of entries))
    (filter (λ e. has_opcode e opcode) entries) (ap f first ∙ reads zero entry refl)
    (places_where-filter opcode f entries (suc i) later)
    ∙ ap (λ b. map Some (cond b (entry ∷ filter (λ e. has_opcode e opcode) entries)
    (filter (λ e. has_opcode e opcode) entries))) (numbers_of-has_opcode entry opcode)

-- what is known of the part of the list of places that belongs to an opcode
pub record Part (places starts : List ℕ) (n : ℕ) (opcode : Opcode) : Type 0 where
  pub below : n + 1 < length starts
  pub ordered : slice_index starts n ≤ slice_index starts (n + 1)
  pub within : slice_index starts (n + 1) ≤ length places
  pub few : length (slice_range places (slice_index starts n) (slice_index starts (n + 1))) ≤ 4
  pub entries : map (slice_get table) (slice_range places (slice_index starts n) (slice_index starts (n + 1)))
      ≡ map Some (entries_with opcode)

length-start_list : length start_list ≡ 552
unfolding start_list
length-start_list = refl

part_of : (opcode : Opcode) → opcode_number opcode < 551 → Part place_list start_list (opcode_number opcode) opcode
unfolding misplaced is_placed entries_with places_at
part_of opcode small =
    let n = opcode_number opcode in
    let numbers = map numbers_of table in
    let at = right (is_placed numbers n) n
    (none-flat_map (λ n. wrong (is_placed numbers n) n) n (below 551) none_misplaced (among-below n 551 small))
    in
    let first = nat_le (slice_index start_list n) (slice_index start_list (n + 1)) in
    let last = nat_le (slice_index start_list (n + 1)) (length place_list) in
    let few = nat_le (length (places_at n)) 4 in
    let same = same_list (places_at n) (places_where n 0 numbers) in
    let halves = both-parts (first && last) (few && same) at in
    let low = both-parts first last halves.0 in
    let high = both-parts few same halves.1 in
    record {
      below = (let long = length-start_list in omega arith);
      ordered = leb-true _ _ low.0;
      within = leb-true _ _ low.1;
      few = leb-true _ _ high.0;
      entries =
          ap (map (slice_get table)) (same_list-true _ _ high.1)
          ∙ places_where-filter opcode (slice_get table) table 0 (λ k x e. ap (slice_get table) (zero-add k) ∙ e);
    }

pub part : (places starts : List ℕ) (n : ℕ) (opcode : Opcode) → places ≡ place_list → starts ≡ start_list
    → n ≡ opcode_number opcode → n < 551 → Part places starts n opcode
part places starts n opcode e f g small =
    subst (λ ps. Part ps starts n opcode) (sym e)
    (subst (λ ss. Part place_list ss n opcode) (sym f)
    (subst (λ m. Part place_list start_list m opcode) (sym g) (part_of opcode (subst (λ m. m < 551) g small))))

-- ---- entries that were taken at places

pub place_below : (places : List ℕ) (entries : List Entry) → map (slice_get table) places ≡ map Some entries → (k : ℕ)
    → k < length places → get_or places k 0 < length table
place_below [] entries e k h = absurd (omega arith)
place_below (p ∷ places) [] e k h = cc
place_below (p ∷ places) (entry ∷ entries) e zero h =
    let here : slice_get table p ≡ Some entry = cc in slice_get_within table p entry here
place_below (p ∷ places) (entry ∷ entries) e (suc k) h =
    let later : map (slice_get table) places ≡ map Some entries = cc in place_below places entries later k (omega arith)

pub map_Some_injective : (xs ys : List Entry) → map Some xs ≡ map Some ys → xs ≡ ys
map_Some_injective [] [] e = refl
map_Some_injective [] (y ∷ ys) e = cc
map_Some_injective (x ∷ xs) [] e = cc
map_Some_injective (x ∷ xs) (y ∷ ys) e =
    let here : x ≡ y = cc in
    let later : map Some xs ≡ map Some ys = cc in ap₂ (λ z zs. z ∷ zs) here (map_Some_injective xs ys later)
