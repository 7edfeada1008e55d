-- Lemmas on the shortest place of a target, which no contract cites: it is a place, it names what any place names, and
-- none is shorter.
use Rattle.std.proofs.Common.{◌≡◌, ◌≢◌, ◌⊎◌, inl, inr, ℕ, zero, suc, ◌+◌, ◌-◌, ◌*◌, ◌/◌, ◌%◌, ◌^◌, ◌<◌, ◌≤◌, ℤ, pos, negsuc}
use Rattle.std.proofs.Common.{Bool, true, false, not, ◌&&◌, ◌||◌, nat_lt, ◌==◌, length, Option, Some, None}
use Rattle.std.proofs.Common.{if◌then◌else◌, FitsSigned, refl, sym, ap, ◌∙◌, subst, arith, ne_eqb, eqb-true, eq-eqb}
use Rattle.std.proofs.Common.{ltb-true, ltb-false, rules, w8, w32}
use Rattle.std.specs.Int.{cast_signed}
use Rattle.std.proofs.lemmas.Bool.{eqb-false, cond_both, or_parts}
use Rattle.std.proofs.lemmas.Bool.Decides.{nat_tests}
use Rattle.std.proofs.lemmas.Int.{ints}
use Rattle.x86_operand.specs.Kind.{InMemory}
use Rattle.x86_operand.specs.declared.register.RegisterBank.{RegisterBank}
use Rattle.x86_address.specs.Bytes.{bit, Displacement, Absent, Short, Long, IsDisplacement, displacement_bytes}
use Rattle.x86_address.specs.Bytes.{IsUnit, in_units, displacement_value_in}
use Rattle.x86_address.specs.Place.{Place, NoPlace, Direct, Based, RipBased, Scaled, Baseless, MayBeBase, IsPlace}
use Rattle.x86_address.specs.Place.{kind_of, has_sib, place_bytes, Base, NoBase, Rip, Numbered, PlainAddress, Target}
use Rattle.x86_address.specs.Place.{NoTarget, Number, At, kind_of_target, index_of, target_in}
use Rattle.x86_address.specs.Bytes.Lemmas.{displacement_length, for_unit}
use Rattle.x86_address.specs.Shortest.{plain, plain_base, plain_index, in_banks, base_register, index_register}
use Rattle.x86_address.specs.Shortest.{doubleword_of, shortest_displacement, exponent_of, exponent_field, index_field}
use Rattle.x86_address.specs.Shortest.{has_index, place_of_numbered, place_of_base, shortest_in, is_upper, x_of_index}
use Rattle.x86_address.specs.Shortest.{b_of_base, x_of, b_of, IsBase, MayBeIndex, IsIndex, IsSpellable}

-- ---- displacements

-- a doubleword has 32 bits
pub doubleword_of_below : (z : ℤ) → doubleword_of z < 2 ^ 32
doubleword_of_below (pos n) = omega arith
doubleword_of_below (negsuc n) = omega arith

-- how the shortest displacement of a value is chosen
data IsShortest (unit : ℕ) (must : Bool) : ℤ → Displacement → Type 0 where
  absent : {n : ℕ} → n ≡ 0 → must ≡ false → IsShortest unit must (pos n) Absent
  short : {n : ℕ} → n % unit ≡ 0 → n / unit < 128 → (n ≡ 0 → must ≡ true)
      → IsShortest unit must (pos n) (Short (n / unit))
  long : {n : ℕ} → (n % unit ≢ 0) ⊎ (128 ≤ n / unit) → IsShortest unit must (pos n) (Long (doubleword_of (pos n)))
  short_negative : {n : ℕ} → suc n % unit ≡ 0 → suc n / unit ≤ 128
      → IsShortest unit must (negsuc n) (Short (256 - suc n / unit))
  long_negative : {n : ℕ} → (suc n % unit ≢ 0) ⊎ (129 ≤ suc n / unit)
      → IsShortest unit must (negsuc n) (Long (doubleword_of (negsuc n)))

-- a number of units that is too great, or no such number
too_many : (rest count limit : ℕ) → (rest == 0 && nat_lt count limit) ≡ false → (rest ≢ 0) ⊎ (limit ≤ count)
too_many zero count limit e = inr (ltb-false count limit e)
too_many (suc rest) count limit e = inl (λ h. cc)

-- the choice at 0 and above, by its tests
chosen : (unit : ℕ) (must : Bool) (n : ℕ) (none small : Bool) → (n == 0 && not must) ≡ none
    → (n % unit == 0 && nat_lt (n / unit) 128) ≡ small
    → IsShortest unit must (pos n)
    (if none then Absent else if small then Short (n / unit) else Long (doubleword_of (pos n)))
chosen unit must n true small e f = absent (grind (arith, nat_tests)) (grind (arith, nat_tests))
chosen unit must n false true e f = short (grind (arith, nat_tests)) (grind (arith, nat_tests))
    (λ z. grind (arith, nat_tests))
chosen unit must n false false e f = long (too_many (n % unit) (n / unit) 128 f)

-- the choice below 0, by its test
chosen_negative : (unit : ℕ) (must : Bool) (n : ℕ) (small : Bool)
    → (suc n % unit == 0 && nat_lt (suc n / unit) 129) ≡ small
    → IsShortest unit must (negsuc n) (if small then Short (256 - suc n / unit) else Long (doubleword_of (negsuc n)))
chosen_negative unit must n true f = short_negative (grind (arith, nat_tests)) (grind (arith, nat_tests))
chosen_negative unit must n false f = long_negative (too_many (suc n % unit) (suc n / unit) 129 f)

-- the definition makes that choice
is_shortest : (unit : ℕ) (must : Bool) (z : ℤ) → IsShortest unit must z (shortest_displacement unit must z)
is_shortest unit must (pos n) = chosen unit must n _ _ refl refl
is_shortest unit must (negsuc n) = chosen_negative unit must n _ refl

-- it is a displacement
IsDisplacement-shortest : {unit : ℕ} {must : Bool} {z : ℤ} {d : Displacement} → IsUnit unit → IsShortest unit must z d
    → IsDisplacement d
IsDisplacement-shortest is (absent e f) = tt
IsDisplacement-shortest is (short e l f) = omega arith
IsDisplacement-shortest is (long {n = n} l) = doubleword_of_below (pos n)
IsDisplacement-shortest is (short_negative {n = n} e l) =
    for_unit (λ unit. suc n % unit ≡ 0 → 256 - suc n / unit < 256) (λ e. omega arith) (λ e. omega arith)
    (λ e. omega arith) (λ e. omega arith) is e
IsDisplacement-shortest is (long_negative {n = n} l) = doubleword_of_below (negsuc n)

-- it may stand beside the base whose field it was chosen for
MayBeBase-shortest : (field : ℕ) {unit : ℕ} {z : ℤ} {d : Displacement} → IsShortest unit (field == 5) z d
    → MayBeBase field d
MayBeBase-shortest field (absent e f) = eqb-false field 5 f
MayBeBase-shortest field (short e l f) = tt
MayBeBase-shortest field (long l) = tt
MayBeBase-shortest field (short_negative e l) = tt
MayBeBase-shortest field (long_negative l) = tt

-- so many units are the value that was divided by the unit
units_again : (n : ℕ) {unit : ℕ} → IsUnit unit → n % unit ≡ 0 → n / unit < 128
    → in_units unit (cast_signed w8 (n / unit)) ≡ pos n
units_again n is =
    for_unit (λ unit. n % unit ≡ 0 → n / unit < 128 → in_units unit (cast_signed w8 (n / unit)) ≡ pos n)
    (λ e l. grind (arith, ints)) (λ e l. grind (arith, ints)) (λ e l. grind (arith, ints)) (λ e l. grind (arith, ints))
    is

negative_units_again : (n : ℕ) {unit : ℕ} → IsUnit unit → suc n % unit ≡ 0 → suc n / unit ≤ 128
    → in_units unit (cast_signed w8 (256 - suc n / unit)) ≡ negsuc n
negative_units_again n is =
    for_unit (λ unit. suc n % unit ≡ 0 → suc n / unit ≤ 128
    → in_units unit (cast_signed w8 (256 - suc n / unit)) ≡ negsuc n)
    (λ e l. grind (arith, ints)) (λ e l. grind (arith, ints)) (λ e l. grind (arith, ints)) (λ e l. grind (arith, ints))
    is

-- the value of a doubleword whose top bit is set
high_doubleword : (n : ℕ) → n < 2 ^ 31 → cast_signed w32 ((2 ^ 32 - 1 - n) % 2 ^ 32) ≡ negsuc n
high_doubleword n h = grind (arith, ints)

-- the doubleword of a value has that value
value_of_doubleword : (z : ℤ) → FitsSigned w32 z → cast_signed w32 (doubleword_of z) ≡ z
value_of_doubleword (pos n) h = omega (arith, ints)
value_of_doubleword (negsuc n) h = high_doubleword n (omega arith)

-- it has the value that it was chosen for
value-shortest : {unit : ℕ} {must : Bool} {z : ℤ} {d : Displacement} → IsUnit unit → IsShortest unit must z d
    → FitsSigned w32 z → displacement_value_in unit d ≡ z
value-shortest is (absent e f) h = ap pos (sym e)
value-shortest is (short {n = n} e l f) h = units_again n is e l
value-shortest is (long {n = n} l) h = value_of_doubleword (pos n) h
value-shortest is (short_negative {n = n} e l) h = negative_units_again n is e l
value-shortest is (long_negative {n = n} l) h = value_of_doubleword (negsuc n) h

-- so many units have 32 bits
fits_units : (n : ℕ) {unit : ℕ} → IsUnit unit → n < 256 → FitsSigned w32 (in_units unit (cast_signed w8 n))
fits_units n is =
    for_unit (λ unit. n < 256 → FitsSigned w32 (in_units unit (cast_signed w8 n))) (λ ok. search rules)
    (λ ok. grind (arith, ints)) (λ ok. grind (arith, ints)) (λ ok. grind (arith, ints)) is

-- the value of a displacement has 32 bits
fits_value : {unit : ℕ} (d : Displacement) → IsUnit unit → IsDisplacement d
    → FitsSigned w32 (displacement_value_in unit d)
fits_value Absent is ok = search rules
fits_value (Short n) is ok = fits_units n is ok
fits_value (Long n) is ok = search rules

-- no byte says a value that isn't so many units, or too many
no_byte : (n m : ℕ) {unit : ℕ} → IsUnit unit → (n % unit ≢ 0) ⊎ (128 ≤ n / unit) → m < 256
    → in_units unit (cast_signed w8 m) ≢ pos n
no_byte n m is =
    for_unit (λ unit. (n % unit ≢ 0) ⊎ (128 ≤ n / unit) → m < 256 → in_units unit (cast_signed w8 m) ≢ pos n)
    (λ l ok v. grind (arith, ints)) (λ l ok v. grind (arith, ints)) (λ l ok v. grind (arith, ints))
    (λ l ok v. grind (arith, ints)) is

no_negative_byte : (n m : ℕ) {unit : ℕ} → IsUnit unit → (suc n % unit ≢ 0) ⊎ (129 ≤ suc n / unit) → m < 256
    → in_units unit (cast_signed w8 m) ≢ negsuc n
no_negative_byte n m is =
    for_unit (λ unit. (suc n % unit ≢ 0) ⊎ (129 ≤ suc n / unit) → m < 256
    → in_units unit (cast_signed w8 m) ≢ negsuc n)
    (λ l ok v. grind (arith, ints)) (λ l ok v. grind (arith, ints)) (λ l ok v. grind (arith, ints))
    (λ l ok v. grind (arith, ints)) is

-- and it isn't 0
no_units : (n : ℕ) {unit : ℕ} → IsUnit unit → (n % unit ≢ 0) ⊎ (128 ≤ n / unit) → n ≢ 0
no_units n is =
    for_unit (λ unit. (n % unit ≢ 0) ⊎ (128 ≤ n / unit) → n ≢ 0) (λ l v. grind arith) (λ l v. grind arith)
    (λ l v. grind arith) (λ l v. grind arith) is

-- no displacement of the value is shorter
shortest_displacement-least : (unit : ℕ) (must : Bool) (z : ℤ) (d least : Displacement) → IsUnit unit
    → IsShortest unit must z least → displacement_value_in unit d ≡ z → IsDisplacement d → (must ≡ true → d ≢ Absent)
    → length (displacement_bytes least) ≤ length (displacement_bytes d)
shortest_displacement-least unit must z (Long n) least is s v ok h = displacement_length least
shortest_displacement-least unit must z d least is (absent e f) v ok h = omega arith
shortest_displacement-least unit must z Absent least is (short e l f) v ok h = absurd (h (f (grind arith)) refl)
shortest_displacement-least unit must z (Short n) least is (short e l f) v ok h = omega arith
shortest_displacement-least unit must z Absent least is (long {n = n} l) v ok h =
    absurd (no_units n is l (grind arith))
shortest_displacement-least unit must z (Short m) least is (long {n = n} l) v ok h = absurd (no_byte n m is l ok v)
shortest_displacement-least unit must z Absent least is (short_negative e l) v ok h = cc
shortest_displacement-least unit must z (Short n) least is (short_negative e l) v ok h = omega arith
shortest_displacement-least unit must z Absent least is (long_negative l) v ok h = cc
shortest_displacement-least unit must z (Short m) least is (long_negative {n = n} l) v ok h =
    absurd (no_negative_byte n m is l ok v)

-- ---- numbers of registers, and indices

-- a number below 16 is its low three bits and its top bit
pub number_again : (n : ℕ) → n < 16 → n % 8 + 8 * bit (is_upper n) ≡ n
number_again n h = grind (arith, nat_tests)

-- a field of three bits and a top bit are a number below 16
pub numbered_below : (field : ℕ) (b : Bool) → field < 8 → field + 8 * bit b < 16
numbered_below field true h = omega arith
numbered_below field false h = omega arith

-- the top bit is what was added to three bits
pub is_upper-field : (field : ℕ) (b : Bool) → field < 8 → is_upper (field + 8 * bit b) ≡ b
is_upper-field field true h = eq-eqb _ 1 (omega arith)
is_upper-field field false h = ne_eqb _ 1 (omega arith)

-- the low three bits are the field
pub low_field_again : (field : ℕ) (b : Bool) → field < 8 → (field + 8 * bit b) % 8 ≡ field
low_field_again field true h = omega arith
low_field_again field false h = omega arith

-- an exponent has two bits
exponent_below : (scale : ℕ) → exponent_of scale < 4
exponent_below scale = grind (arith, nat_tests)

-- the exponent of a power of 2 is its exponent
exponent_again : (k : ℕ) → k < 4 → exponent_of (2 ^ k) ≡ k
exponent_again zero h = refl
exponent_again (suc zero) h = refl
exponent_again (suc (suc zero)) h = refl
exponent_again (suc (suc (suc zero))) h = refl
exponent_again (suc (suc (suc (suc k)))) h = absurd (omega arith)

-- the exponent field of an index has two bits
exponent_field_below : (index : Option (ℕ × ℕ)) → exponent_field index < 4
exponent_field_below None = omega arith
exponent_field_below (Some index) = exponent_below index.1

-- the index field of an index has three bits
index_field_below : (index : Option (ℕ × ℕ)) → index_field index < 8
index_field_below None = omega arith
index_field_below (Some index) = omega arith

-- a number that may be an index isn't taken for none
not_none : (vector : Bool) (n : ℕ) → MayBeIndex vector n → (not vector && n == 4) ≡ false
not_none false n ok = ne_eqb n 4 ok
not_none true n ok = refl

may_be_index : (vector : Bool) (n : ℕ) → (not vector && n == 4) ≡ false → MayBeIndex vector n
may_be_index false n e = eqb-false n 4 e
may_be_index true n e = tt

-- none is no vector register
none_parts : (vector four : Bool) → (not vector && four) ≡ true → (vector ≡ false) × (four ≡ true)
none_parts false four e = (refl, e)
none_parts true four e = cc

-- the fields and X of an index name it
index_again : (vector : Bool) (index : Option (ℕ × ℕ)) → IsIndex vector index
    → index_of vector (exponent_field index) (index_field index) (x_of_index index) ≡ index
index_again false None ok = refl
index_again true None ok = cc
index_again vector (Some index) ok =
    let number = number_again index.0 ok.0 in
    rw (number, not_none vector index.0 ok.1)
    (ap (λ scale. Some (index.0, scale)) (rw (ok.4, exponent_again ok.2 ok.3)))

-- fields and X name an index in range
IsIndex-index_of : (vector : Bool) (k i : ℕ) (x : Bool) → k < 4 → i < 8 → IsIndex vector (index_of vector k i x)
IsIndex-index_of vector k i x p q = by_test (i + 8 * bit x) (numbered_below i x q) _ refl
  where
    by_test : (n : ℕ) → n < 16 → (none : Bool) → (not vector && n == 4) ≡ none
        → IsIndex vector (if none then None else Some (n, 2 ^ k))
    by_test n h true e = (none_parts vector (n == 4) e).0
    by_test n h false e = (h, may_be_index vector n e, k, p, refl)

-- its X is the bit handed in
x_of-index_of : (vector : Bool) (k i : ℕ) (x : Bool) → i < 8 → x_of_index (index_of vector k i x) ≡ x
x_of-index_of vector k i x p = by_test (i + 8 * bit x) (is_upper-field i x p) _ refl
  where
    by_test : (n : ℕ) → is_upper n ≡ x → (none : Bool) → (not vector && n == 4) ≡ none
        → x_of_index (if none then None else Some (n, 2 ^ k)) ≡ x
    by_test n h true e = sym (ap is_upper (eqb-true n 4 (none_parts vector (n == 4) e).1)) ∙ h
    by_test n h false e = h

-- ---- the shortest place

-- with a base register it has a SIB byte, or there is no index and the base field is not 4
numbered_either : (P : Place → Type 0) (unit n : ℕ) (index : Option (ℕ × ℕ)) (z : ℤ)
    → ((has_index index || n % 8 == 4) ≡ true
    → P (Scaled (exponent_field index) (index_field index) (n % 8) (shortest_displacement unit (n % 8 == 5) z)))
    → (has_index index ≡ false → n % 8 ≢ 4 → P (Based (n % 8) (shortest_displacement unit (n % 8 == 5) z)))
    → P (place_of_numbered unit n index z)
numbered_either P unit n index z scaled based =
    cond_both (has_index index || n % 8 == 4) _ _ P scaled
    (λ none. based (or_parts _ _ none).0 (eqb-false (n % 8) 4 (or_parts _ _ none).1))

-- with a base register it is a place
IsPlace-place_of_numbered : {unit : ℕ} (n : ℕ) (index : Option (ℕ × ℕ)) (z : ℤ) → IsUnit unit
    → IsPlace (place_of_numbered unit n index z)
IsPlace-place_of_numbered {unit} n index z is =
    let d = is_shortest unit (n % 8 == 5) z in
    numbered_either IsPlace unit n index z
    (λ sib. (
      exponent_field_below index,
      index_field_below index,
      omega arith,
      MayBeBase-shortest (n % 8) d,
      IsDisplacement-shortest is d,
    ))
    (λ none other. (omega arith, other, MayBeBase-shortest (n % 8) d, IsDisplacement-shortest is d))

-- with each base it is a place
IsPlace-place_of_base : {unit : ℕ} (base : Base) (index : Option (ℕ × ℕ)) (z : ℤ) → IsUnit unit
    → IsPlace (place_of_base unit base index z)
IsPlace-place_of_base NoBase index z is = (exponent_field_below index, index_field_below index, doubleword_of_below z)
IsPlace-place_of_base Rip index z is = doubleword_of_below z
IsPlace-place_of_base (Numbered n) index z is = IsPlace-place_of_numbered n index z is

-- the shortest place is a place
pub is_place-shortest : {unit : ℕ} (e : Target) → IsUnit unit → IsPlace (shortest_in unit e)
unfolding shortest_in
is_place-shortest NoTarget is = tt
is_place-shortest (Number n) is = omega arith
is_place-shortest (At a) is = IsPlace-place_of_base a.base a.index a.disp is

-- that of an address is in memory
kind_of_base : (unit : ℕ) (base : Base) (index : Option (ℕ × ℕ)) (z : ℤ)
    → kind_of (place_of_base unit base index z) ≡ InMemory
kind_of_base unit NoBase index z = refl
kind_of_base unit Rip index z = refl
kind_of_base unit (Numbered n) index z = numbered_either (λ p. kind_of p ≡ InMemory) unit n index z (λ sib. refl)
    (λ none other. refl)

-- its kind is the target's
pub kind_of-shortest : (unit : ℕ) (e : Target) → kind_of (shortest_in unit e) ≡ kind_of_target e
unfolding shortest_in
kind_of-shortest unit NoTarget = refl
kind_of-shortest unit (Number n) = refl
kind_of-shortest unit (At a) = kind_of_base unit a.base a.index a.disp

-- a place has the kind of its target
pub kind_of_target-target : (unit : ℕ) (vector : Bool) (p : Place) (x b : Bool)
    → kind_of_target (target_in unit vector p x b) ≡ kind_of p
kind_of_target-target unit vector NoPlace x b = refl
kind_of_target-target unit vector (Direct rm) x b = refl
kind_of_target-target unit vector (Based rm d) x b = refl
kind_of_target-target unit vector (RipBased n) x b = refl
kind_of_target-target unit vector (Scaled k i j d) x b = refl
kind_of_target-target unit vector (Baseless k i n) x b = refl

-- an index that isn't there
no_index : (index : Option (ℕ × ℕ)) → has_index index ≡ false → index ≡ None
no_index None h = refl
no_index (Some index) h = cc

-- the place of an address that bytes can name names it
named_again : {unit : ℕ} (vector : Bool) (base : Base) (index : Option (ℕ × ℕ)) (z : ℤ) → IsUnit unit → IsBase base
    → IsIndex vector index → FitsSigned w32 z → (base ≡ Rip → index ≡ None)
    → target_in unit vector (place_of_base unit base index z) (x_of_index index) (b_of_base base)
    ≡ At (record { base = base; index = index; disp = z })
named_again vector NoBase index z is p q fits alone = rw (index_again vector index q, value_of_doubleword z fits)
named_again vector Rip index z is p q fits alone = rw (value_of_doubleword z fits, alone refl)
named_again {unit} vector (Numbered n) index z is p q fits alone =
    let d = value-shortest is (is_shortest unit (n % 8 == 5) z) fits in
    numbered_either (λ place. target_in unit vector place (x_of_index index) (is_upper n)
    ≡ At (record { base = Numbered n; index = index; disp = z })) unit n index z
    (λ sib. rw (number_again n p, index_again vector index q, d))
    (λ none other. rw (number_again n p, d, no_index index none))

-- the shortest place names each target that bytes can name, with the bits that it demands
pub names-shortest : {unit : ℕ} (vector : Bool) (e : Target) → IsUnit unit → IsSpellable vector e
    → target_in unit vector (shortest_in unit e) (x_of e) (b_of e) ≡ e
unfolding shortest_in
names-shortest vector NoTarget is ok = refl
names-shortest vector (Number n) is ok = ap Number (number_again n ok)
names-shortest vector (At a) is ok = named_again vector a.base a.index a.disp is ok.base ok.index ok.disp ok.alone

-- where no SIB byte is, the index is no vector register
plain_without_sib : (vector : Bool) → (vector ≡ true → false ≡ true) → vector ≡ false
plain_without_sib false sib = refl
plain_without_sib true sib = sym (sib refl)

-- with a vector register as the index there is a SIB byte
vector_with_sib : (unit : ℕ) (base : Base) (index : Option (ℕ × ℕ)) (z : ℤ) → IsIndex true index
    → (base ≡ Rip → index ≡ None) → has_sib (place_of_base unit base index z) ≡ true
vector_with_sib unit NoBase index z ok alone = refl
vector_with_sib unit Rip index z ok alone =
    let never : true ≡ false = subst (IsIndex true) (alone refl) ok in cc
vector_with_sib unit (Numbered n) index z ok alone =
    numbered_either (λ p. has_sib p ≡ true) unit n index z (λ sib. refl)
    (λ none other. sym (subst (IsIndex true) (no_index index none) ok))

pub sib-shortest : (unit : ℕ) (e : Target) → kind_of_target e ≡ InMemory → IsSpellable true e
    → has_sib (shortest_in unit e) ≡ true
unfolding shortest_in
sib-shortest unit NoTarget memory ok = cc
sib-shortest unit (Number n) memory ok = cc
sib-shortest unit (At a) memory ok = vector_with_sib unit a.base a.index a.disp ok.index ok.alone

-- what a place names, bytes can name
pub IsSpellable-target : {unit : ℕ} (vector : Bool) (p : Place) (x b : Bool) → IsUnit unit → IsPlace p
    → (vector ≡ true → has_sib p ≡ true) → IsSpellable vector (target_in unit vector p x b)
IsSpellable-target vector NoPlace x b is ok sib = tt
IsSpellable-target vector (Direct rm) x b is ok sib = numbered_below rm b ok
IsSpellable-target vector (Based rm d) x b is ok sib = record {
  base = numbered_below rm b ok.0;
  index = plain_without_sib vector sib;
  disp = fits_value d is ok.3;
  alone = λ h. refl;
}
IsSpellable-target vector (RipBased n) x b is ok sib = record {
  base = tt;
  index = plain_without_sib vector sib;
  disp = fits_value (Long n) is ok;
  alone = λ h. refl;
}
IsSpellable-target vector (Scaled k i j d) x b is ok sib = record {
  base = numbered_below j b ok.2;
  index = IsIndex-index_of vector k i x ok.0 ok.1;
  disp = fits_value d is ok.4;
  alone = λ h. cc;
}
IsSpellable-target vector (Baseless k i n) x b is ok sib = record {
  base = tt;
  index = IsIndex-index_of vector k i x ok.0 ok.1;
  disp = fits_value (Long n) is ok.2;
  alone = λ h. cc;
}

-- a displacement that has to be written is there
not_absent : (field : ℕ) (d : Displacement) → MayBeBase field d → (field == 5) ≡ true → d ≢ Absent
not_absent field Absent base five = absurd (base (eqb-true field 5 five))
not_absent field (Short n) base five = λ e. cc
not_absent field (Long n) base five = λ e. cc

-- no displacement of its value beside a base field is shorter than the one chosen
least_displacement : {unit : ℕ} (n field : ℕ) (d : Displacement) → IsUnit unit → field ≡ n → MayBeBase field d
    → IsDisplacement d
    → length (displacement_bytes (shortest_displacement unit (n == 5) (displacement_value_in unit d))) ≤ length
    (displacement_bytes d)
least_displacement {unit} n field d is e base ok =
    subst (λ m. length (displacement_bytes (shortest_displacement unit (m == 5) (displacement_value_in unit d)))
    ≤ length (displacement_bytes d)) e
    (shortest_displacement-least unit (field == 5) (displacement_value_in unit d) d _ is
    (is_shortest unit (field == 5) (displacement_value_in unit d)) refl ok (not_absent field d base))

-- with a base register, none with SIB is shorter
least_numbered : {unit : ℕ} (reg field : ℕ) (b : Bool) (index : Option (ℕ × ℕ)) (d : Displacement) → IsUnit unit
    → field < 8 → MayBeBase field d → IsDisplacement d
    → length (place_bytes reg (place_of_numbered unit (field + 8 * bit b) index (displacement_value_in unit d)))
    ≤ suc (suc (length (displacement_bytes d)))
least_numbered {unit} reg field b index d is below base ok =
    let least = least_displacement ((field + 8 * bit b) % 8) field d is (sym (low_field_again field b below)) base ok in
    numbered_either (λ p. length (place_bytes reg p) ≤ suc (suc (length (displacement_bytes d)))) unit
    (field + 8 * bit b) index (displacement_value_in unit d)
    (λ sib. omega arith)
    (λ none other. omega arith)

-- without an index and with another base field than 4, none is shorter
least_based : {unit : ℕ} (reg rm : ℕ) (b : Bool) (d : Displacement) → IsUnit unit → rm < 8 → rm ≢ 4 → MayBeBase rm d
    → IsDisplacement d
    → length (place_bytes reg (place_of_numbered unit (rm + 8 * bit b) None (displacement_value_in unit d))) ≤ suc
    (length (displacement_bytes d))
least_based {unit} reg rm b d is below four base ok =
    let least = least_displacement ((rm + 8 * bit b) % 8) rm d is (sym (low_field_again rm b below)) base ok in
    numbered_either (λ p. length (place_bytes reg p) ≤ suc (length (displacement_bytes d))) unit (rm + 8 * bit b) None
    (displacement_value_in unit d)
    (λ sib. absurd (four (sym (low_field_again rm b below) ∙ eqb-true _ 4 sib)))
    (λ none other. omega arith)

-- no place that names the target has fewer bytes
pub shortest-least : {unit : ℕ} (vector : Bool) (p : Place) (x b : Bool) (reg reg' : ℕ) → IsUnit unit → IsPlace p
    → length (place_bytes reg (shortest_in unit (target_in unit vector p x b))) ≤ length (place_bytes reg' p)
unfolding shortest_in
shortest-least vector NoPlace x b reg reg' is ok = omega arith
shortest-least vector (Direct rm) x b reg reg' is ok = omega arith
shortest-least vector (Based rm d) x b reg reg' is ok = least_based reg rm b d is ok.0 ok.1 ok.2 ok.3
shortest-least vector (RipBased n) x b reg reg' is ok = omega arith
shortest-least vector (Scaled k i j d) x b reg reg' is ok =
    least_numbered reg j b (index_of vector k i x) d is ok.2 ok.3 ok.4
shortest-least vector (Baseless k i n) x b reg reg' is ok = omega arith

-- X plays no part, or is the bit that the target demands
pub x_fixed_or_ignored : (unit : ℕ) (vector : Bool) (p : Place) (x b : Bool) → IsPlace p
    → ((x' : Bool) → target_in unit vector p x' b ≡ target_in unit vector p x b)
    ⊎ (x_of (target_in unit vector p x b) ≡ x)
x_fixed_or_ignored unit vector NoPlace x b ok = inl (λ x'. refl)
x_fixed_or_ignored unit vector (Direct rm) x b ok = inl (λ x'. refl)
x_fixed_or_ignored unit vector (Based rm d) x b ok = inl (λ x'. refl)
x_fixed_or_ignored unit vector (RipBased n) x b ok = inl (λ x'. refl)
x_fixed_or_ignored unit vector (Scaled k i j d) x b ok = inr (x_of-index_of vector k i x ok.1)
x_fixed_or_ignored unit vector (Baseless k i n) x b ok = inr (x_of-index_of vector k i x ok.1)

-- B plays no part, or is the bit that the target demands
pub b_fixed_or_ignored : (unit : ℕ) (vector : Bool) (p : Place) (x b : Bool) → IsPlace p
    → ((b' : Bool) → target_in unit vector p x b' ≡ target_in unit vector p x b)
    ⊎ (b_of (target_in unit vector p x b) ≡ b)
b_fixed_or_ignored unit vector NoPlace x b ok = inl (λ b'. refl)
b_fixed_or_ignored unit vector (Direct rm) x b ok = inr (is_upper-field rm b ok)
b_fixed_or_ignored unit vector (Based rm d) x b ok = inr (is_upper-field rm b ok.0)
b_fixed_or_ignored unit vector (RipBased n) x b ok = inl (λ b'. refl)
b_fixed_or_ignored unit vector (Scaled k i j d) x b ok = inr (is_upper-field j b ok.2)
b_fixed_or_ignored unit vector (Baseless k i n) x b ok = inl (λ b'. refl)

-- where the target demands X, it is 1
pub x_of-target : (unit : ℕ) (vector : Bool) (p : Place) (x b : Bool) → IsPlace p
    → x_of (target_in unit vector p x b) ≡ true → x ≡ true
x_of-target unit vector NoPlace x b ok h = cc
x_of-target unit vector (Direct rm) x b ok h = cc
x_of-target unit vector (Based rm d) x b ok h = cc
x_of-target unit vector (RipBased n) x b ok h = cc
x_of-target unit vector (Scaled k i j d) x b ok h = sym (x_of-index_of vector k i x ok.1) ∙ h
x_of-target unit vector (Baseless k i n) x b ok h = sym (x_of-index_of vector k i x ok.1) ∙ h

-- where the target demands B, it is 1
pub b_of-target : (unit : ℕ) (vector : Bool) (p : Place) (x b : Bool) → IsPlace p
    → b_of (target_in unit vector p x b) ≡ true → b ≡ true
b_of-target unit vector NoPlace x b ok h = cc
b_of-target unit vector (Direct rm) x b ok h = sym (is_upper-field rm b ok) ∙ h
b_of-target unit vector (Based rm d) x b ok h = sym (is_upper-field rm b ok.0) ∙ h
b_of-target unit vector (RipBased n) x b ok h = cc
b_of-target unit vector (Scaled k i j d) x b ok h = sym (is_upper-field j b ok.2) ∙ h
b_of-target unit vector (Baseless k i n) x b ok h = cc

-- ---- banks

-- a base that gets a bank and loses it
plain_base-register : (base : Base) → plain_base (base_register base) ≡ base
plain_base-register NoBase = refl
plain_base-register Rip = refl
plain_base-register (Numbered n) = refl

-- an index that gets a bank and loses it
plain_index-register : (bank : RegisterBank) (index : Option (ℕ × ℕ)) → plain_index (index_register bank index) ≡ index
plain_index-register bank None = refl
plain_index-register bank (Some index) = refl

-- an address that gets banks and loses them is as before
pub plain-in_banks : (bank : RegisterBank) (a : PlainAddress) → plain (in_banks bank a) ≡ a
plain-in_banks bank a = λ i. record {
  base = plain_base-register a.base i;
  index =
      plain_index-register bank a.index i;
  disp = a.disp;
}
