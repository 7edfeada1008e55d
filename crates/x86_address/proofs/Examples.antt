-- Some addresses computed: what their bytes are read as, what that names, and the bytes of the shortest place for it.
use Rattle.std.proofs.Common.{◌≡◌, ℕ, ◌/◌, ◌%◌, ℤ, pos, negsuc, Bool, true, false, List, [], ◌∷◌, Option, Some, None}
use Rattle.std.proofs.Common.{Ok, refl}
use Rattle.x86_address.specs.Bytes.{Absent, Short, Long}
use Rattle.x86_address.specs.Place.{Place, Based, RipBased, Scaled, Baseless, place_bytes, Base, NoBase, Rip, Numbered}
use Rattle.x86_address.specs.Place.{At, target_in, target}
use Rattle.x86_address.specs.Reading.{take_place}
use Rattle.x86_address.specs.Shortest.{shortest_in, shortest}

-- the ModRM byte and those after it are read as this place, which names this address with these X and B, by whether
-- its index is a vector register; its shortest place has these bytes
abbrev Names : Bool → ℕ → List ℕ → Place → Bool → Bool → Base → Option (ℕ × ℕ) → ℤ → List ℕ → Type 0
Names vector modrm bytes place x b base index disp least =
    (take_place (modrm / 64) (modrm % 8) bytes ≡ Ok (place, []))
    × (target vector place x b ≡ At (record { base = base; index = index; disp = disp }))
    × (place_bytes 0 (shortest (At (record { base = base; index = index; disp = disp }))) ≡ least)

-- a displacement 0 is none, but with base 5
long_zero : Names false 0x80 (0 ∷ 0 ∷ 0 ∷ 0 ∷ []) (Based 0 (Long 0)) false false (Numbered 0) None (pos 0) (0 ∷ [])
unfolding shortest_in
long_zero = (refl, refl, refl)

-- base 5 has no form without a displacement
short_zero : Names false 0x45 (0 ∷ []) (Based 5 (Short 0)) false false (Numbered 5) None (pos 0) (0x45 ∷ 0 ∷ [])
unfolding shortest_in
short_zero = (refl, refl, refl)

-- SIB without an index
no_index : Names false 0x04 (0x20 ∷ []) (Scaled 0 4 0 Absent) false false (Numbered 0) None (pos 0) (0 ∷ [])
unfolding shortest_in
no_index = (refl, refl, refl)

-- B plays no part beside the instruction pointer
rip : Names false 0x05 (0x10 ∷ 0 ∷ 0 ∷ 0 ∷ []) (RipBased 16) false true Rip None (pos 16) (0x05 ∷ 0x10 ∷ 0 ∷ 0 ∷ 0 ∷ [])
unfolding shortest_in
rip = (refl, refl, refl)

-- the longest
scaled : Names false 0x84 (0x88 ∷ 0x78 ∷ 0x56 ∷ 0x34 ∷ 0x12 ∷ []) (Scaled 2 1 0 (Long 305419896)) false false
    (Numbered 0) (Some (1, 4)) (pos 305419896) (0x84 ∷ 0x88 ∷ 0x78 ∷ 0x56 ∷ 0x34 ∷ 0x12 ∷ [])
unfolding shortest_in
scaled = (refl, refl, refl)

-- -128 fits one byte, and 128 doesn't
least_short : Names false 0x80 (0x80 ∷ 0xFF ∷ 0xFF ∷ 0xFF ∷ []) (Based 0 (Long 0xFFFFFF80)) false false (Numbered 0)
    None (negsuc 127) (0x40 ∷ 0x80 ∷ [])
unfolding shortest_in
least_short = (refl, refl, refl)

-- a byte has its sign
short_sign : Names false 0x40 (0x80 ∷ []) (Based 0 (Short 0x80)) false false (Numbered 0) None (negsuc 127)
    (0x40 ∷ 0x80 ∷ [])
unfolding shortest_in
short_sign = (refl, refl, refl)

-- 128 fits no byte
least_long : Names false 0x80 (0x80 ∷ 0 ∷ 0 ∷ 0 ∷ []) (Based 0 (Long 128)) false false (Numbered 0) None (pos 128)
    (0x80 ∷ 0x80 ∷ 0 ∷ 0 ∷ 0 ∷ [])
unfolding shortest_in
least_long = (refl, refl, refl)

-- in units of 64, 64 is one unit, 65 is none, and -8192 is the least that a byte says
place_in : ℕ → ℤ → Place
place_in unit disp = shortest_in unit (At (record { base = Numbered 0; index = None; disp = disp }))

one_unit : place_in 64 (pos 64) ≡ Based 0 (Short 1)
unfolding place_in shortest_in
one_unit = refl

between_units : place_in 64 (pos 65) ≡ Based 0 (Long 65)
unfolding place_in shortest_in
between_units = refl

least_units : place_in 64 (negsuc 8191) ≡ Based 0 (Short 0x80)
unfolding place_in shortest_in
least_units = refl

too_many_units : place_in 64 (pos 8192) ≡ Based 0 (Long 8192)
unfolding place_in shortest_in
too_many_units = refl

read_in_units : target_in 64 false (Based 0 (Short 0x80)) false false
    ≡ At (record { base = Numbered 0; index = None; disp = negsuc 8191 })
read_in_units = refl

-- base 12 needs SIB, and so does no base
twelve : Names false 0x04 (0x24 ∷ []) (Scaled 0 4 4 Absent) false true (Numbered 12) None (pos 0) (0x04 ∷ 0x24 ∷ [])
unfolding shortest_in
twelve = (refl, refl, refl)

-- no base needs SIB and four bytes
no_base : Names false 0x04 (0x25 ∷ 0 ∷ 0x10 ∷ 0 ∷ 0 ∷ []) (Baseless 0 4 4096) false false NoBase None (pos 4096)
    (0x04 ∷ 0x25 ∷ 0 ∷ 0x10 ∷ 0 ∷ 0 ∷ [])
unfolding shortest_in
no_base = (refl, refl, refl)

-- the index field 4 is an index with X
index_twelve : Names false 0x04 (0x60 ∷ []) (Scaled 1 4 0 Absent) true false (Numbered 0) (Some (12, 2)) (pos 0)
    (0x04 ∷ 0x60 ∷ [])
unfolding shortest_in
index_twelve = (refl, refl, refl)

-- the index 4 of a vector register
vector_four : Names true 0x04 (0x60 ∷ []) (Scaled 1 4 0 Absent) false false (Numbered 0) (Some (4, 2)) (pos 0)
    (0x04 ∷ 0x60 ∷ [])
unfolding shortest_in
vector_four = (refl, refl, refl)

-- beside base 13, which has no form without a displacement
vector_thirteen : Names true 0x44 (0x65 ∷ 0 ∷ []) (Scaled 1 4 5 (Short 0)) true true (Numbered 13) (Some (12, 2))
    (pos 0) (0x44 ∷ 0x65 ∷ 0 ∷ [])
unfolding shortest_in
vector_thirteen = (refl, refl, refl)

-- and beside no base
vector_no_base : Names true 0x04 (0xA5 ∷ 0x10 ∷ 0 ∷ 0 ∷ 0 ∷ []) (Baseless 2 4 16) false true NoBase (Some (4, 4))
    (pos 16) (0x04 ∷ 0xA5 ∷ 0x10 ∷ 0 ∷ 0 ∷ 0 ∷ [])
unfolding shortest_in
vector_no_base = (refl, refl, refl)
