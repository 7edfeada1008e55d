-- The size of an opcode stands in each list of sizes that has it at the place that the opcode's number gives.
use Rattle.std.proofs.Common.{◌≡◌, ℕ, zero, suc, ◌<◌, ◌+◌, Bool, true, false, cond, ◌&&◌, ◌==◌, List, [], ◌∷◌, find}
use Rattle.std.proofs.Common.{length, slice_index_or, slice_get, get_or, nat_lt, if◌then◌else◌, Some, None, refl, sym}
use Rattle.std.proofs.Common.{ap, subst, ◌∙◌, arith, eqb-true, ltb-true, zero-add}
use Rattle.std.proofs.lemmas.Bool.{lt-ltb}
use Rattle.std.proofs.lemmas.Option.{slice_get_within}
use Rattle.x86_opcode.specs.declared.Opcode.{Opcode}
use Rattle.x86_opcode.specs.Number.{opcode_number, same_opcode}
use Rattle.x86_opcode.specs.Number.Lemmas.{same_opcode_equal, same_opcode_refl}
use Rattle.vex_rows.specs.declared.form_row.ByteCount.{ByteCount}
use Rattle.vex_rows.specs.declared.form_row.SizeList.{SizeList}
use Rattle.vex_rows.specs.declared.form_row.SizeList.TheVariants.{Extract}
use Rattle.vex_rows.specs.FormRows.{sizes}
use Rattle.vex_rows.specs.Index.{size_place_list}
use Rattle.vex_rows.specs.Row.Lists.{both-parts}

-- where the size of an opcode is said to stand
unfoldable place_of : Opcode → ℕ
place_of opcode = slice_index_or size_place_list (opcode_number opcode) 0

-- whether each size of a list, counted from a first place, stands there
unfoldable all_placed : ℕ → List (Opcode × ByteCount) → Bool
all_placed first [] = true
all_placed first (size ∷ sizes) = (place_of size.0 == first) && all_placed (suc first) sizes

placed : (list : SizeList) → all_placed 0 (sizes list) ≡ true
unfolding sizes all_placed place_of size_place_list opcode_number
placed Extract = refl
placed _ = refl

pub length-size_places : length size_place_list ≡ 551
unfolding size_place_list
length-size_places = refl

-- the size at a place has that place
placed_at : (first : ℕ) (sizes : List (Opcode × ByteCount)) → all_placed first sizes ≡ true
    → (i : ℕ) (size : Opcode × ByteCount) → slice_get sizes i ≡ Some size → place_of size.0 ≡ first + i
unfolding all_placed
placed_at first [] h i size e = cc
placed_at first (x ∷ sizes) h zero size e =
    let same : x ≡ size = cc in
    let at = eqb-true _ _ (both-parts (place_of x.0 == first) _ h).0 in
    let here : place_of size.0 ≡ first = ap (λ s. place_of s.0) (sym same) ∙ at in omega (arith, here)
placed_at first (x ∷ sizes) h (suc i) size e =
    let later = placed_at (suc first) sizes (both-parts (place_of x.0 == first) _ h).1 i size e in omega (arith, later)

-- what is found where a size of the opcode stands at a place
found : (first : ℕ) (sizes : List (Opcode × ByteCount)) → all_placed first sizes ≡ true
    → (opcode : Opcode) (i : ℕ) (size : Opcode × ByteCount) → slice_get sizes i ≡ Some size → size.0 ≡ opcode
    → find (λ size. same_opcode size.0 opcode) sizes ≡ Some size
unfolding all_placed
found first [] h opcode i size e is = cc
found first (x ∷ sizes) h opcode zero size e is =
    let same : x ≡ size = cc in
    let test : same_opcode x.0 opcode ≡ true =
    subst (λ o. same_opcode x.0 o ≡ true) (ap (λ s. s.0) same ∙ is) (same_opcode_refl x.0) in
    ap (λ b. cond b (Some x) (find (λ size. same_opcode size.0 opcode) sizes)) test ∙ ap Some same
found first (x ∷ sizes) h opcode (suc i) size e is =
    let both = both-parts (place_of x.0 == first) (all_placed (suc first) sizes) h in
    by (same_opcode x.0 opcode) refl (found (suc first) sizes both.1 opcode i size e is) where
      by : (b : Bool) → same_opcode x.0 opcode ≡ b → find (λ size. same_opcode size.0 opcode) sizes ≡ Some size
          → cond b (Some x) (find (λ size. same_opcode size.0 opcode) sizes) ≡ Some size
      by true same later =
          let both = both-parts (place_of x.0 == first) (all_placed (suc first) sizes) h in
          let here : place_of x.0 ≡ first = eqb-true _ _ both.0 in
          let there : place_of size.0 ≡ suc first + i = placed_at (suc first) sizes both.1 i size e in
          let one : place_of x.0 ≡ place_of size.0 = ap place_of (same_opcode_equal x.0 opcode same ∙ sym is) in
          absurd (omega (arith, here, there, one))
      by false same later = later

-- nothing is found where none of the opcode stands at its place
absent : (first : ℕ) (sizes : List (Opcode × ByteCount)) → all_placed first sizes ≡ true → (opcode : Opcode)
    → ((i : ℕ) (size : Opcode × ByteCount) → slice_get sizes i ≡ Some size → place_of opcode ≡ first + i
    → same_opcode size.0 opcode ≡ false)
    → find (λ size. same_opcode size.0 opcode) sizes ≡ None
unfolding all_placed
absent first [] h opcode none = refl
absent first (x ∷ sizes) h opcode none =
    let both = both-parts (place_of x.0 == first) (all_placed (suc first) sizes) h in
    by (same_opcode x.0 opcode) refl (absent (suc first) sizes both.1 opcode
    (λ i size e at. none (suc i) size e (omega (arith, at)))) where
      by : (b : Bool) → same_opcode x.0 opcode ≡ b → find (λ size. same_opcode size.0 opcode) sizes ≡ None
          → cond b (Some x) (find (λ size. same_opcode size.0 opcode) sizes) ≡ None
      by true same later =
          let here : place_of x.0 ≡ first = eqb-true _ _
          (both-parts (place_of x.0 == first) (all_placed (suc first) sizes) h).0 in
          let one : place_of x.0 ≡ place_of opcode = ap place_of (same_opcode_equal x.0 opcode same) in
          let other : same_opcode x.0 opcode ≡ false = none 0 x refl (omega (arith, here, one)) in
          let wrong : true ≡ false = sym same ∙ other in cc
      by false same later = later

-- what stands at a place within a list
got : {A : Type 0} (xs : List A) (i : ℕ) (x : A) → i < length xs → x ≡ get_or xs i x → slice_get xs i ≡ Some x
got [] i x within e = absurd (omega (arith, within))
got (y ∷ xs) zero x within e = ap Some (sym e)
got (y ∷ xs) (suc i) x within e = got xs i x (omega (arith, within)) e

-- and nothing past its end
past : {A : Type 0} (xs : List A) (i : ℕ) (x : A) → false ≡ nat_lt i (length xs) → slice_get xs i ≡ Some x → ⊥
past xs i x out e =
    let wrong : false ≡ true = out ∙ lt-ltb i (length xs) (slice_get_within xs i x e) in cc

module _ (list : SizeList) (opcode : Opcode) (places : List ℕ) (number : ℕ) (places_are : places ≡ size_place_list)
    (number_is : number ≡ opcode_number opcode) (seen : List (Opcode × ByteCount)) (seen_are : seen ≡ sizes list) where
  place_is : slice_index_or places number 0 ≡ place_of opcode
  unfolding place_of
  place_is = λ i. slice_index_or (places_are i) (number_is i) 0

  pub within : number < 551 → number < length places
  within h = subst (λ n. number < n) (sym (ap length places_are ∙ length-size_places)) h

  -- the size at the opcode's place
  pub size_at_place : (size : Opcode × ByteCount) → true ≡ nat_lt (slice_index_or places number 0) (length seen)
      → size ≡ get_or seen (slice_index_or places number 0) size
      → (if opcode_number size.0 == number then Some size else None)
      ≡ find (λ size. same_opcode size.0 opcode) (sizes list)
  unfolding same_opcode
  size_at_place size inside e = by (opcode_number size.0 == number) refl where
    at : slice_get (sizes list) (place_of opcode) ≡ Some size
    at = sym (λ i. slice_get (seen_are i) (place_is i)) ∙ got seen _ size (ltb-true _ _ (sym inside)) e

    by : (b : Bool) → (opcode_number size.0 == number) ≡ b
        → (if b then Some size else None) ≡ find (λ size. same_opcode size.0 opcode) (sizes list)
    by true same = sym (found 0 (sizes list) (placed list) opcode (place_of opcode) size at
        (same_opcode_equal size.0 opcode (subst (λ n. (opcode_number size.0 == n) ≡ true) number_is same)))
    by false other = sym (absent 0 (sizes list) (placed list) opcode (λ i named e at_i.
        let same : Some named ≡ Some size = sym e ∙ ap (slice_get (sizes list)) (sym (at_i ∙ zero-add i)) ∙ at in
        let is : named ≡ size = cc in
        ap (λ s. opcode_number s.0 == opcode_number opcode) is
        ∙ subst (λ n. (opcode_number size.0 == n) ≡ false) number_is other))

  -- no size at the opcode's place
  pub none_at_place : false ≡ nat_lt (slice_index_or places number 0) (length seen)
      → None ≡ find (λ size. same_opcode size.0 opcode) (sizes list)
  none_at_place out = sym (absent 0 (sizes list) (placed list) opcode
      (λ i named e at_i. absurd (past seen _ named out
      ((λ j. slice_get (seen_are j) ((place_is ∙ at_i ∙ zero-add i) j)) ∙ e))))
