-- What a setter changes, and what it leaves.
use Rattle.std.proofs.Common.{◌≡◌, ◌≢◌, ℕ, ◌<◌, Bool, true, false, ◌&&◌, ◌||◌, ◌==◌, List, [], ◌∷◌, length, refl, sym}
use Rattle.std.proofs.Common.{◌∙◌, inl, inr, arith, ltb-true}
use Rattle.std.specs.List.{list_all, list_any}
use Rattle.std.specs.Prelude.{nat_lt, IsTrue}
use Rattle.std.proofs.lemmas.Bool.{cases_eq, and_parts, eqb-false}
use Rattle.std.proofs.lemmas.List.{length-set, get_or-set_same, get_or-set_other}
use Rattle.x86_settings.specs.Bits.{is_set, with_set}
use Rattle.x86_settings.specs.Sets.{all_set, with_all_set, is_among}
use Rattle.x86_settings.specs.SetterAndGetter.{SetterMakesGetterTrue, SetterChangesItsBit}
use Rattle.x86_settings.specs.SetterAndGetter.{SetterChangesCompositesOverIt, CompositeSetterMakesGetterTrue}
use Rattle.x86_settings.specs.SetterAndGetter.{CompositeSetterChangesItsMembers, CompositeSetterChangesCompositesOverIt}

-- where no alternative holds, neither does
neither : (a b : Bool) → (a || b) ≡ false → (a ≡ false) × (b ≡ false)
neither false b h = (refl, h)
neither true b h = (h, absurd (cc))

-- alike parts make alike wholes
both : (a b c d : Bool) → a ≡ c → b ≡ d → (a && b) ≡ (c && d)
both a b c d e f = cc

-- a test that may not be false is true
not_false : (b : Bool) → (b ≡ false → ⊥) → b ≡ true
not_false true h = refl
not_false false h = absurd (h refl)

-- the bit that is set reads as set
pub own : SetterMakesGetterTrue
own s i long within = get_or-set_same s i true false (omega (arith, long))

-- another bit reads as before
kept : (s : List Bool) (i j : ℕ) → j ≢ i → is_set (with_set s i) j ≡ is_set s j
kept s i j apart = get_or-set_other s i j true false apart

-- so a bit that reads otherwise is the one that was set
pub other : SetterChangesItsBit
other s i j changed = elim (cases_eq j i) [ inl same ↦ same | inr apart ↦ absurd (changed (kept s i j apart)) ]

-- a composite without the bit answers as before
composite_kept : (s : List Bool) (i : ℕ) (members : List ℕ) → is_among members i ≡ false
    → all_set (with_set s i) members ≡ all_set s members
composite_kept s i [] h = refl
composite_kept s i (m ∷ members) h =
    let parts = neither (m == i) (is_among members i) h in
    both _ _ _ _ (kept s i m (eqb-false m i parts.0)) (composite_kept s i members parts.1)

-- so a composite that answers otherwise has the bit
pub composite : SetterChangesCompositesOverIt
composite s i members changed = not_false _ (λ h. changed (composite_kept s i members h))

-- a setter clears no bit
still : (s : List Bool) (i j : ℕ) → length s ≡ 128 → j < 128 → is_set s j ≡ true → is_set (with_set s i) j ≡ true
still s i j long within h =
    elim (cases_eq j i) [
      | inl same ↦ rw same (own s i long (omega (arith, same)))
      | inr apart ↦ kept s i j apart ∙ h
    ]

-- nor does the setter of a composite
all_still : (members : List ℕ) (s : List Bool) (j : ℕ) → length s ≡ 128 → j < 128 → is_set s j ≡ true
    → is_set (with_all_set s members) j ≡ true
all_still [] s j long within h = h
all_still (m ∷ members) s j long within h =
    all_still members (with_set s m) j (length-set s m true ∙ long) within (still s m j long within h)

-- all bits of a composite read as set after its setter
every : (members : List ℕ) (s : List Bool) → length s ≡ 128 → IsTrue (list_all (λ i. nat_lt i 128) members)
    → all_set (with_all_set s members) members ≡ true
every [] s long h = refl
every (m ∷ members) s long h =
    let parts = and_parts (nat_lt m 128) _ h in
    let within = ltb-true m 128 parts.0 in
    let longer : length (with_set s m) ≡ 128 = length-set s m true ∙ long in
    both _ _ true true (all_still members (with_set s m) m longer within (own s m long within))
    (every members (with_set s m) longer parts.1)

-- so the composite is true
pub own_composite : CompositeSetterMakesGetterTrue
own_composite s members long h = every members s long h

-- a bit that is no member reads as before
member_kept : (members : List ℕ) (s : List Bool) (j : ℕ) → is_among members j ≡ false
    → is_set (with_all_set s members) j ≡ is_set s j
member_kept [] s j h = refl
member_kept (m ∷ members) s j h =
    let parts = neither (m == j) (is_among members j) h in
    member_kept members (with_set s m) j parts.1 ∙ kept s m j (λ e. eqb-false m j parts.0 (sym e))

-- so a bit that reads otherwise is a member
pub member : CompositeSetterChangesItsMembers
member s members j changed = not_false _ (λ h. changed (member_kept members s j h))

-- a composite that shares no member answers as before
other_composite_kept : (others : List ℕ) (s : List Bool) (members : List ℕ)
    → list_any (is_among members) others ≡ false → all_set (with_all_set s members) others ≡ all_set s others
other_composite_kept [] s members h = refl
other_composite_kept (o ∷ others) s members h =
    let parts = neither (is_among members o) _ h in
    both _ _ _ _ (member_kept members s o parts.0) (other_composite_kept others s members parts.1)

-- so a composite that answers otherwise shares a member
pub other_composite : CompositeSetterChangesCompositesOverIt
other_composite s members others changed = not_false _ (λ h. changed (other_composite_kept others s members h))
