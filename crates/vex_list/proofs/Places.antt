-- A place is made by its own form of the target that it names, with the bits X and B that this fixes.
use Rattle.std.specs.Prelude.{◌≡◌, refl, ℕ, ℤ, pos, negsuc, ◌+◌, ◌*◌, ◌%◌, ◌^◌, ◌<◌, Bool, true, false, not, ◌&&◌, ◌==◌}
use Rattle.std.specs.Prelude.{Some, None, if◌then◌else◌}
use Rattle.std.specs.Int.{cast_signed, w8, w32}
use Rattle.std.proofs.Common.{arith, ap, ap₂, sym, eqb-true}
use Rattle.std.proofs.lemmas.Int.{ints}
use Rattle.x86_address.specs.Bytes.{bit, Displacement, Absent, Short, Long, IsDisplacement, displacement_value}
use Rattle.x86_address.specs.Place.{Place, NoPlace, Direct, Based, RipBased, Scaled, Baseless, IsPlace, index_of}
use Rattle.x86_address.specs.Place.{target}
use Rattle.x86_address.specs.Shortest.{index_field, doubleword_of}
use Rattle.x86_address.specs.Shortest.Lemmas.{low_field_again, is_upper-field}
use Rattle.vex_rows.specs.Row.Lists.{both-parts}
use Rattle.vex_list.specs.declared.choices.Width.{Width}
use Rattle.vex_list.specs.declared.choices.Width.TheVariants.{NoBytes, OneByte, FourBytes}
use Rattle.vex_list.specs.declared.choices.AddressForm.{AddressForm}
use Rattle.vex_list.specs.declared.choices.AddressForm.TheVariants.{WithoutSib, WithSib}
use Rattle.vex_list.specs.Choices.{displacement_with, place_with, FormFits, IsAddressForm, Allows, x_of_index, x_fixed}
use Rattle.vex_list.specs.Choices.{b_fixed}

-- the width of a displacement
abbrev pub width_of : Displacement → Width
width_of Absent = NoBytes
width_of (Short n) = OneByte
width_of (Long n) = FourBytes

-- the form in which a place is written
abbrev pub form_of : Place → AddressForm
form_of NoPlace = WithoutSib NoBytes
form_of (Direct rm) = WithoutSib NoBytes
form_of (Based rm d) = WithoutSib (width_of d)
form_of (RipBased n) = WithoutSib NoBytes
form_of (Scaled k i j d) = WithSib k (width_of d)
form_of (Baseless k i n) = WithSib k NoBytes

-- the doubleword of a value that was read
doubleword_again : (n : ℕ) (z : ℤ) → cast_signed w32 n ≡ z → n < 2 ^ 32 → doubleword_of z ≡ n
doubleword_again n (pos k) e h = grind (arith, ints)
doubleword_again n (negsuc k) e h = grind (arith, ints)

byte_again : (n : ℕ) (z : ℤ) → cast_signed w8 n ≡ z → n < 256 → doubleword_of z % 256 ≡ n
byte_again n (pos k) e h = grind (arith, ints)
byte_again n (negsuc k) e h = grind (arith, ints)

displacement_again : (d : Displacement) → IsDisplacement d → displacement_with (width_of d) (displacement_value d) ≡ d
displacement_again Absent h = refl
displacement_again (Short n) h = ap Short (byte_again n _ refl h)
displacement_again (Long n) h = ap Long (doubleword_again n _ refl h)

index_again : (vector : Bool) (k i : ℕ) (x : Bool) → i < 8 → index_field (index_of vector k i x) ≡ i
index_again vector k i x h = by (not vector && i + 8 * bit x == 4) refl where
  four : (x : Bool) → i + 8 * bit x ≡ 4 → 4 ≡ i
  four true e = omega arith
  four false e = omega arith

  by : (none : Bool) → (not vector && i + 8 * bit x == 4) ≡ none
      → index_field (if none then None else Some (i + 8 * bit x, 2 ^ k)) ≡ i
  by true e = four x (eqb-true (i + 8 * bit x) 4 (both-parts (not vector) (i + 8 * bit x == 4) e).1)
  by false e = low_field_again i x h

pub place_again : (vector : Bool) (p : Place) (x b : Bool) → IsPlace p
    → place_with (form_of p) (target vector p x b) ≡ p
place_again vector NoPlace x b h = refl
place_again vector (Direct rm) x b h = ap Direct (low_field_again rm b h)
place_again vector (Based rm d) x b h = ap₂ Based (low_field_again rm b h.0) (displacement_again d h.3)
place_again vector (RipBased n) x b h = ap RipBased (doubleword_again n _ refl h)
place_again vector (Scaled k i j d) x b h =
    λ t. Scaled k (index_again vector k i x h.1 t) (low_field_again j b h.2 t) (displacement_again d h.4 t)
place_again vector (Baseless k i n) x b h =
    λ t. Baseless k (index_again vector k i x h.1 t) (doubleword_again n _ refl h.2 t)

pub form_fits : (vector : Bool) (p : Place) (x b : Bool) → IsPlace p → FormFits (target vector p x b) (form_of p)
form_fits vector NoPlace x b h = refl
form_fits vector (Direct rm) x b h = refl
form_fits vector (Based rm d) x b h = tt
form_fits vector (RipBased n) x b h = tt
form_fits vector (Scaled k i j d) x b h = h.0
form_fits vector (Baseless k i n) x b h = h.0

-- whatever a target is, a form that fits it fits its bits
pub is_address_form : (p : Place) → IsPlace p → IsAddressForm (form_of p)
is_address_form NoPlace h = tt
is_address_form (Direct rm) h = tt
is_address_form (Based rm d) h = tt
is_address_form (RipBased n) h = tt
is_address_form (Scaled k i j d) h = h.0
is_address_form (Baseless k i n) h = h.0

x_allowed_by : (none : Bool) (k i : ℕ) (x : Bool) → i < 8
    → Allows (x_of_index (if none then None else Some (i + 8 * bit x, 2 ^ k))) x
x_allowed_by true k i x h = tt
x_allowed_by false k i x h = sym (is_upper-field i x h)

pub x_allowed : (vector : Bool) (p : Place) (x b : Bool) → IsPlace p → Allows (x_fixed (target vector p x b)) x
x_allowed vector NoPlace x b h = tt
x_allowed vector (Direct rm) x b h = tt
x_allowed vector (Based rm d) x b h = tt
x_allowed vector (RipBased n) x b h = tt
x_allowed vector (Scaled k i j d) x b h = x_allowed_by (not vector && i + 8 * bit x == 4) k i x h.1
x_allowed vector (Baseless k i n) x b h = x_allowed_by (not vector && i + 8 * bit x == 4) k i x h.1

pub b_allowed : (vector : Bool) (p : Place) (x b : Bool) → IsPlace p → Allows (b_fixed (target vector p x b)) b
b_allowed vector NoPlace x b h = tt
b_allowed vector (Direct rm) x b h = sym (is_upper-field rm b h)
b_allowed vector (Based rm d) x b h = sym (is_upper-field rm b h.0)
b_allowed vector (RipBased n) x b h = tt
b_allowed vector (Scaled k i j d) x b h = sym (is_upper-field j b h.2)
b_allowed vector (Baseless k i n) x b h = tt
