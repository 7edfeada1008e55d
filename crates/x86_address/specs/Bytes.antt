pub mod Lemmas
use Rattle.std.specs.Prelude.{◌≡◌, ◌⊎◌, ℕ, ◌/◌, ◌%◌, ◌^◌, ◌<◌, ◌==◌, ℤ, pos, ◌*ℤ◌, Bool, true, false, List, [], ◌∷◌}
use Rattle.std.specs.Prelude.{◌++◌, if◌then◌else◌}
use Rattle.std.specs.Int.{cast_signed, w8, w32}
use Rattle.std.specs.List.{AllByRecursion}

-- a byte string: each number is below 256
abbrev pub IsBytes : List ℕ → Type 0
IsBytes bytes = AllByRecursion (λ byte. byte < 256) bytes

-- one byte string begins another
abbrev pub Begins : List ℕ → List ℕ → Type 0
Begins front bytes = (rest : List ℕ) × (bytes ≡ front ++ rest)

-- a bit as a number
abbrev pub bit : Bool → ℕ
bit true = 1
bit false = 0

-- the four bytes of a doubleword, the lowest first
abbrev pub doubleword_bytes : ℕ → List ℕ
doubleword_bytes n = n % 256 ∷ (n / 256) % 256 ∷ (n / 65536) % 256 ∷ (n / 16777216) % 256 ∷ []

-- a displacement as it is written: none, a byte, or a doubleword
pub data Displacement : Type 0 where
  Absent : Displacement
  Short : ℕ → Displacement
  Long : ℕ → Displacement

-- its numbers fit a byte and a doubleword
abbrev pub IsDisplacement : Displacement → Type 0
IsDisplacement Absent = Unit {0}
IsDisplacement (Short n) = n < 256
IsDisplacement (Long n) = n < 2 ^ 32

-- the bytes that write it, the lowest first
abbrev pub displacement_bytes : Displacement → List ℕ
displacement_bytes Absent = []
displacement_bytes (Short n) = n ∷ []
displacement_bytes (Long n) = doubleword_bytes n

-- the unit in which a displacement of one byte counts: 1, or the bytes of the operand in memory after an EVEX prefix
-- (Intel SDM volume 2, section 2.7.5)
abbrev pub IsUnit : ℕ → Type 0
IsUnit unit = (unit ≡ 1) ⊎ ((unit ≡ 16) ⊎ ((unit ≡ 32) ⊎ (unit ≡ 64)))

-- so many units: as many as there are where the unit is 1, which computes for every number
abbrev pub in_units : ℕ → ℤ → ℤ
in_units unit value = if unit == 1 then value else pos unit *ℤ value

-- what a displacement adds to an address: 0, or the two's complement value of its bytes, one byte in units
abbrev pub displacement_value_in : ℕ → Displacement → ℤ
displacement_value_in unit Absent = pos 0
displacement_value_in unit (Short n) = in_units unit (cast_signed w8 n)
displacement_value_in unit (Long n) = cast_signed w32 n

-- in units of 1
abbrev pub displacement_value : Displacement → ℤ
displacement_value d = displacement_value_in 1 d
