pub mod Lemmas
use Rattle.std.specs.Prelude.{◌≡◌, ◌≢◌, ℕ, ◌+◌, ◌*◌, ◌^◌, ◌<◌, ℤ, Bool, true, false, not, ◌&&◌, List, [], ◌∷◌, Option}
use Rattle.std.specs.Prelude.{Some, None, ◌==◌, if◌then◌else◌}
use Rattle.std.specs.Int.{cast_signed, w32}
use Rattle.x86_operand.specs.Kind.{Kind, WithoutModRM, InRegister, InMemory, is_vector, plain_kind}
use Rattle.x86_address.specs.Bytes.{bit, doubleword_bytes, Displacement, Absent, Short, Long, IsDisplacement}
use Rattle.x86_address.specs.Bytes.{displacement_bytes, displacement_value_in}

-- how the bytes from ModRM on name the operand E, by its fields: rm of ModRM, or the scale's exponent k, the index
-- field i and the base field j of SIB, and the displacement (Intel SDM volume 2, tables 2-2 and 2-3)
pub data Place : Type 0 where
  NoPlace : Place
  Direct : (rm : ℕ) → Place
  Based : (rm : ℕ) (d : Displacement) → Place
  RipBased : (n : ℕ) → Place
  Scaled : (k i j : ℕ) (d : Displacement) → Place
  Baseless : (k i n : ℕ) → Place

-- the kind of operand that a place names, whatever index an address has
abbrev pub kind_of : Place → Kind
kind_of NoPlace = WithoutModRM
kind_of (Direct rm) = InRegister
kind_of (Based rm d) = InMemory
kind_of (RipBased n) = InMemory
kind_of (Scaled k i j d) = InMemory
kind_of (Baseless k i n) = InMemory

-- whether a place has a SIB byte
abbrev pub has_sib : Place → Bool
has_sib NoPlace = false
has_sib (Direct rm) = false
has_sib (Based rm d) = false
has_sib (RipBased n) = false
has_sib (Scaled k i j d) = true
has_sib (Baseless k i n) = true

-- a place is of a kind: where the index is a vector register there is a SIB byte (Intel SDM volume 2, section 2.3.12)
pub record IsOfKind (kind : Kind) (place : Place) : Type 0 where
  pub plain : kind_of place ≡ plain_kind kind
  pub sib : is_vector kind ≡ true → has_sib place ≡ true

-- with mod 0 the base field 5 has another meaning, so a base 5 is written with a displacement
-- (Intel SDM volume 2, section 2.1.5)
abbrev pub MayBeBase : ℕ → Displacement → Type 0
MayBeBase field Absent = field ≢ 5
MayBeBase field (Short n) = Unit {0}
MayBeBase field (Long n) = Unit {0}

-- the fields of a place fit their bits, and mean what the place says
abbrev pub IsPlace : Place → Type 0
IsPlace NoPlace = Unit {0}
IsPlace (Direct rm) = rm < 8
IsPlace (Based rm d) = (rm < 8) × (rm ≢ 4) × MayBeBase rm d × IsDisplacement d
IsPlace (RipBased n) = n < 2 ^ 32
IsPlace (Scaled k i j d) = (k < 4) × (i < 8) × (j < 8) × MayBeBase j d × IsDisplacement d
IsPlace (Baseless k i n) = (k < 4) × (i < 8) × (n < 2 ^ 32)

-- the mod field that says how long the displacement is
abbrev pub mod_of_displacement : Displacement → ℕ
mod_of_displacement Absent = 0
mod_of_displacement (Short n) = 1
mod_of_displacement (Long n) = 2

-- the mod field of ModRM (Intel SDM volume 2, section 2.1.3)
abbrev pub mod_of : Place → ℕ
mod_of NoPlace = 0
mod_of (Direct rm) = 3
mod_of (Based rm d) = mod_of_displacement d
mod_of (RipBased n) = 0
mod_of (Scaled k i j d) = mod_of_displacement d
mod_of (Baseless k i n) = 0

-- the rm field of ModRM (Intel SDM volume 2, section 2.1.3)
abbrev pub rm_of : Place → ℕ
rm_of NoPlace = 0
rm_of (Direct rm) = rm
rm_of (Based rm d) = rm
rm_of (RipBased n) = 5
rm_of (Scaled k i j d) = 4
rm_of (Baseless k i n) = 4

-- the bytes after ModRM: SIB and displacement
abbrev pub tail_of : Place → List ℕ
tail_of NoPlace = []
tail_of (Direct rm) = []
tail_of (Based rm d) = displacement_bytes d
tail_of (RipBased n) = doubleword_bytes n
tail_of (Scaled k i j d) = (64 * k + 8 * i + j) ∷ displacement_bytes d
tail_of (Baseless k i n) = (64 * k + 8 * i + 5) ∷ doubleword_bytes n

-- the bytes from ModRM on, with the field reg in it
abbrev pub place_bytes : ℕ → Place → List ℕ
place_bytes reg NoPlace = []
place_bytes reg place = (64 * mod_of place + 8 * reg + rm_of place) ∷ tail_of place

-- the base of an address: none, the instruction pointer, or a register by its number
pub data Base : Type 0 where
  NoBase : Base
  Rip : Base
  Numbered : ℕ → Base

-- an address before its registers have banks: the index is a number and the factor that it is multiplied by
pub record PlainAddress : Type 0 where
  pub base : Base
  pub index : Option (ℕ × ℕ)
  pub disp : ℤ

-- what a place names: nothing, the number of a register, or an address
pub data Target : Type 0 where
  NoTarget : Target
  Number : ℕ → Target
  At : PlainAddress → Target

-- the kind of operand that a target is, whatever index an address has
abbrev pub kind_of_target : Target → Kind
kind_of_target NoTarget = WithoutModRM
kind_of_target (Number n) = InRegister
kind_of_target (At a) = InMemory

-- the index of exponent, index field and X: the number 4 means no index, and the scale then plays no part, but where
-- the index is a vector register (Intel SDM volume 2, sections 2.1.5 and 2.3.12)
abbrev pub index_of : Bool → ℕ → ℕ → Bool → Option (ℕ × ℕ)
index_of vector k i x = if not vector && i + 8 * bit x == 4 then None else Some (i + 8 * bit x, 2 ^ k)

-- what a place names, with the bits X and B of the prefix, by whether the index is a vector register, and with a
-- displacement of one byte in units
-- (Intel SDM volume 2, sections 2.1.5, 2.2.1.6, 2.3.5.3, 2.3.5.4, 2.3.8, 2.3.12 and 2.7.5)
abbrev pub target_in : ℕ → Bool → Place → Bool → Bool → Target
target_in unit vector NoPlace x b = NoTarget
target_in unit vector (Direct rm) x b = Number (rm + 8 * bit b)
target_in unit vector (Based rm d) x b = At (record
    { base = Numbered (rm + 8 * bit b); index = None; disp = displacement_value_in unit d })
target_in unit vector (RipBased n) x b = At (record { base = Rip; index = None; disp = cast_signed w32 n })
target_in unit vector (Scaled k i j d) x b = At (record
    { base = Numbered (j + 8 * bit b); index = index_of vector k i x; disp = displacement_value_in unit d })
target_in unit vector (Baseless k i n) x b = At (record
    { base = NoBase; index = index_of vector k i x; disp = cast_signed w32 n })

-- in units of 1
abbrev pub target : Bool → Place → Bool → Bool → Target
target vector place x b = target_in 1 vector place x b

-- the bytes spell what is named, of this kind, with this reg field and these bits X and B, and a displacement of one
-- byte in units
pub record SpellsTargetIn (unit : ℕ) (bytes : List ℕ) (kind : Kind) (reg : ℕ) (x b : Bool) (named : Target) : Type 0 where
  pub is_reg : reg < 8
  pub place : Place
  pub is_place : IsPlace place
  pub is_kind : IsOfKind kind place
  pub written : bytes ≡ place_bytes reg place
  pub names : named ≡ target_in unit (is_vector kind) place x b

-- in units of 1
abbrev pub SpellsTarget : List ℕ → Kind → ℕ → Bool → Bool → Target → Type 0
SpellsTarget bytes kind reg x b named = SpellsTargetIn 1 bytes kind reg x b named
