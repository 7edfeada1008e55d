-- Lines that were written one after another, one for each element of a list.
use Rattle.std.proofs.Common.{◌≡◌, ℕ, ◌+◌, ◌<◌, List, [], ◌∷◌, ◌++◌, length, get_or, take, drop, Option, Some, zero}
use Rattle.std.proofs.Common.{suc, sym, ap, ◌∙◌, refl, arith, slice_get}
use Rattle.std.specs.Prelude.{flat_map}
use Rattle.std.specs.Io.KnownBytes.{Appends}
use Rattle.std.proofs.lemmas.Grind.{flat_map-append}
use Rattle.std.proofs.lemmas.List.{append-nil, take-append-drop, take_more}
use Rattle.vex_lines.specs.Ends.{AppendsFront}
use Rattle.vex_lines.specs.Ends.Lemmas.{Appends-none, Appends-then, AppendsFront-then, AppendsFront-more}
use Rattle.vex_lines.proofs.FeedLemmas.{Told}

-- the lines of a list with one element more
lines-push : {A : Type 0} (line : A → List ℕ) (items : List A) (item : A)
    → flat_map line (items ++ item ∷ []) ≡ flat_map line items ++ line item
lines-push line items item = flat_map-append line items (item ∷ [])
    ∙ ap (λ t. flat_map line items ++ t) (append-nil (line item))

-- the front of a list up to an element, and the list round it
pub take-item : {A : Type 0} (items : List A) (i : ℕ) (item : A) → i < length items → item ≡ get_or items i item
    → take (i + 1) items ≡ take i items ++ item ∷ []
take-item {A} items i item h is = take_more items i item h ∙ ap (λ (e : A). take i items ++ e ∷ []) (sym is)

pub split-item : {A : Type 0} (items : List A) (i : ℕ) (item : A) → i < length items → item ≡ get_or items i item
    → items ≡ (take i items ++ item ∷ []) ++ drop (i + 1) items
split-item items i item h is = sym (take-append-drop (i + 1) items)
    ∙ ap (λ t. t ++ drop (i + 1) items) (take-item items i item h is)

-- an element that was found at a place
pub found-item : {A : Type 0} (items : List A) (i : ℕ) (item : A) → slice_get items i ≡ Some item
    → (i < length items) × (item ≡ get_or items i item)
found-item [] i item is = cc
found-item (x ∷ items) zero item is = let same : x ≡ item = cc in (omega arith, sym same)
found-item (x ∷ items) (suc i) item is =
    let later : slice_get items i ≡ Some item = cc in
    let found = found-item items i item later in
    (omega (arith, found.0), found.1)

-- the lines of these elements were written
pub record Wrote {A : Type 0} (line : A → List ℕ) (items : List A) (first now : Told) : Type 0 where
  pub written : Appends first.text now.text (flat_map line items)
  pub quiet : now.faults ≡ first.faults

pub Wrote-none : {A : Type 0} (line : A → List ℕ) (first : Told) → Wrote line [] first first
Wrote-none line first = record { written = Appends-none first.text; quiet = refl }

pub Wrote-step : {A : Type 0} (line : A → List ℕ) (items : List A) (item : A) (first now new : Told)
    → Wrote line items first now
    → Appends now.text new.text (line item) → new.faults ≡ now.faults → Wrote line (items ++ item ∷ []) first new
Wrote-step line items item first now new wrote written quiet = record {
  written = rw (lines-push line items item) (Appends-then first.text now.text new.text _ _ wrote.written written);
  quiet = quiet ∙ wrote.quiet;
}

-- the write of an element's line failed
pub Wrote-fault : {A : Type 0} (line : A → List ℕ) (all items rest : List A) (item : A) (first now : Told)
    (new : Option (List ℕ)) → Wrote line items first now
    → all ≡ (items ++ item ∷ []) ++ rest → AppendsFront now.text new (line item)
    → AppendsFront first.text new (flat_map line all)
Wrote-fault line all items rest item first now new wrote split written =
    rw (split, flat_map-append line (items ++ item ∷ []) rest, lines-push line items item)
    (AppendsFront-more first.text new _ _ (AppendsFront-then first.text now.text new _ _ wrote.written written))
