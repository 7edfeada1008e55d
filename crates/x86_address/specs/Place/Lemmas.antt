-- Lemmas on places, their bytes, and their kinds, which no contract cites.
use Rattle.std.proofs.Common.{◌≡◌, ◌≢◌, ◌⊎◌, inl, inr, true, ℕ, ◌+◌, ◌*◌, ◌<◌, ◌≤◌, [], ◌∷◌, length, refl, arith}
use Rattle.x86_operand.specs.Kind.{Kind, WithoutModRM, InRegister, InMemory, VectorIndexed, is_vector, plain_kind}
use Rattle.x86_address.specs.Bytes.{IsBytes, Displacement, Absent, Short, Long}
use Rattle.x86_address.specs.Bytes.Lemmas.{packed_below, IsBytes-doubleword_bytes, IsBytes-displacement_bytes}
use Rattle.x86_address.specs.Bytes.Lemmas.{displacement_length}
use Rattle.x86_address.specs.Place.{Place, NoPlace, Direct, Based, RipBased, Scaled, Baseless, IsPlace, kind_of}
use Rattle.x86_address.specs.Place.{has_sib, mod_of_displacement, mod_of, rm_of, tail_of, place_bytes}

-- in memory the field rm is 4 where there is a SIB byte, and nowhere else
pub sib_by_rm : (p : Place) → IsPlace p → kind_of p ≡ InMemory → rm_of p ≡ 4 → has_sib p ≡ true
sib_by_rm NoPlace ok kind four = cc
sib_by_rm (Direct rm) ok kind four = cc
sib_by_rm (Based rm d) ok kind four = absurd (ok.1 four)
sib_by_rm (RipBased n) ok kind four = cc
sib_by_rm (Scaled k i j d) ok kind four = refl
sib_by_rm (Baseless k i n) ok kind four = refl

pub rm_by_sib : (p : Place) → has_sib p ≡ true → rm_of p ≡ 4
rm_by_sib NoPlace sib = cc
rm_by_sib (Direct rm) sib = cc
rm_by_sib (Based rm d) sib = cc
rm_by_sib (RipBased n) sib = cc
rm_by_sib (Scaled k i j d) sib = refl
rm_by_sib (Baseless k i n) sib = refl

-- a vector register is the index of an address in memory
pub vector_in_memory : (kind : Kind) → is_vector kind ≡ true → plain_kind kind ≡ InMemory
vector_in_memory WithoutModRM vector = cc
vector_in_memory InRegister vector = cc
vector_in_memory InMemory vector = cc
vector_in_memory VectorIndexed vector = refl

-- only that kind has no ModRM byte
pub plain_without : (kind : Kind) → plain_kind kind ≡ WithoutModRM → kind ≡ WithoutModRM
plain_without WithoutModRM without = refl
plain_without InRegister without = cc
plain_without InMemory without = cc
plain_without VectorIndexed without = cc

-- ---- the bytes of a place: ModRM first, each below 256, one to six of them

-- a place other than `NoPlace` has a ModRM byte
pub has_modrm : (p : Place) → kind_of p ≢ WithoutModRM → (kind_of p ≡ InRegister) ⊎ (kind_of p ≡ InMemory)
has_modrm NoPlace h = absurd (h refl)
has_modrm (Direct rm) h = inl refl
has_modrm _ h = inr refl

-- it is the first of its bytes
pub place_bytes_split : (reg : ℕ) (p : Place) → (kind_of p ≡ InRegister) ⊎ (kind_of p ≡ InMemory)
    → place_bytes reg p ≡ (64 * mod_of p + 8 * reg + rm_of p) ∷ tail_of p
place_bytes_split reg NoPlace h = grind arith
place_bytes_split reg _ h = refl

-- the mod of a displacement has two bits
mod_below : (d : Displacement) → mod_of_displacement d < 4
mod_below Absent = omega arith
mod_below (Short n) = omega arith
mod_below (Long n) = omega arith

-- mod has two bits
pub mod_of_below : (p : Place) → mod_of p < 4
mod_of_below NoPlace = omega arith
mod_of_below (Direct rm) = omega arith
mod_of_below (Based rm d) = mod_below d
mod_of_below (RipBased n) = omega arith
mod_of_below (Scaled k i j d) = mod_below d
mod_of_below (Baseless k i n) = omega arith

-- rm has three bits
pub rm_of_below : (p : Place) → IsPlace p → rm_of p < 8
rm_of_below NoPlace ok = omega arith
rm_of_below (Direct rm) ok = ok
rm_of_below (Based rm d) ok = ok.0
rm_of_below (RipBased n) ok = omega arith
rm_of_below (Scaled k i j d) ok = omega arith
rm_of_below (Baseless k i n) ok = omega arith

-- SIB and displacement are bytes
pub IsBytes-tail_of : (p : Place) → IsPlace p → IsBytes (tail_of p)
IsBytes-tail_of NoPlace ok = tt
IsBytes-tail_of (Direct rm) ok = tt
IsBytes-tail_of (Based rm d) ok = IsBytes-displacement_bytes d ok.3
IsBytes-tail_of (RipBased n) ok = IsBytes-doubleword_bytes n
IsBytes-tail_of (Scaled k i j d) ok = (packed_below k i j ok.0 ok.1 ok.2, IsBytes-displacement_bytes d ok.4)
IsBytes-tail_of (Baseless k i n) ok = (packed_below k i 5 ok.0 ok.1 (omega arith), IsBytes-doubleword_bytes n)

-- ModRM is a byte
pub modrm_below : (reg : ℕ) (p : Place) → reg < 8 → IsPlace p → 64 * mod_of p + 8 * reg + rm_of p < 256
modrm_below reg p r ok = packed_below (mod_of p) reg (rm_of p) (mod_of_below p) r (rm_of_below p ok)

-- the bytes of a place are bytes
pub IsBytes-place_bytes : (reg : ℕ) (p : Place) → reg < 8 → IsPlace p → IsBytes (place_bytes reg p)
IsBytes-place_bytes reg NoPlace r ok = tt
IsBytes-place_bytes reg p r ok = (modrm_below reg p r ok, IsBytes-tail_of p ok)

-- at most five bytes follow ModRM
pub tail_length : (p : Place) → length (tail_of p) ≤ 5
tail_length NoPlace = omega arith
tail_length (Direct rm) = omega arith
tail_length (Based rm d) = omega (arith, displacement_length d)
tail_length (RipBased n) = omega arith
tail_length (Scaled k i j d) = omega (arith, displacement_length d)
tail_length (Baseless k i n) = omega arith

-- a place with a ModRM byte has one to six bytes
pub place_bytes_length : (reg : ℕ) (p : Place) → (kind_of p ≡ InRegister) ⊎ (kind_of p ≡ InMemory)
    → (1 ≤ length (place_bytes reg p)) × (length (place_bytes reg p) ≤ 6)
place_bytes_length reg p h = rw (place_bytes_split reg p h) (omega (arith, tail_length p))

-- a place without ModRM has no bytes
pub place_bytes_none : (reg : ℕ) (p : Place) → kind_of p ≡ WithoutModRM → place_bytes reg p ≡ []
place_bytes_none reg NoPlace h = refl
place_bytes_none reg _ h = cc
