use Rattle.std.specs.Prelude.{◌≡◌, ◌≢◌, ℕ, ◌<◌, Bool, true, List, length, nat_lt, IsTrue}
use Rattle.std.specs.List.{list_all, list_any}
use Rattle.x86_settings.specs.Bits.{is_set, with_set}
use Rattle.x86_settings.specs.Sets.{all_set, with_all_set, is_among}

-- after the setter of a bit the getter of that bit is true
abbrev pub SetterMakesGetterTrue : Type 0
SetterMakesGetterTrue = (s : List Bool) (i : ℕ) → length s ≡ 128 → i < 128 → is_set (with_set s i) i ≡ true

-- the setter of a bit changes what a getter answers only where the getter reads that bit
abbrev pub SetterChangesItsBit : Type 0
SetterChangesItsBit = (s : List Bool) (i j : ℕ) → is_set (with_set s i) j ≢ is_set s j → j ≡ i

-- it changes what a composite answers only where the bit is one of the composite's members
abbrev pub SetterChangesCompositesOverIt : Type 0
SetterChangesCompositesOverIt =
    (s : List Bool) (i : ℕ) (members : List ℕ) → all_set (with_set s i) members ≢ all_set s members
    → IsTrue (is_among members i)

-- after the setter of a composite that composite is true
abbrev pub CompositeSetterMakesGetterTrue : Type 0
CompositeSetterMakesGetterTrue =
    (s : List Bool) (members : List ℕ) → length s ≡ 128 → IsTrue (list_all (λ i. nat_lt i 128) members)
    → all_set (with_all_set s members) members ≡ true

-- the setter of a composite changes what a getter answers only where the getter reads one of its members
abbrev pub CompositeSetterChangesItsMembers : Type 0
CompositeSetterChangesItsMembers =
    (s : List Bool) (members : List ℕ) (j : ℕ) → is_set (with_all_set s members) j ≢ is_set s j
    → IsTrue (is_among members j)

-- it changes what another composite answers only where the two have a member in common
abbrev pub CompositeSetterChangesCompositesOverIt : Type 0
CompositeSetterChangesCompositesOverIt =
    (s : List Bool) (members others : List ℕ) → all_set (with_all_set s members) others ≢ all_set s others
    → IsTrue (list_any (is_among members) others)
