-- Laws of addresses: each is the contract of a function in the module `laws`.
use Rattle.std.specs.Prelude.{◌≡◌, ◌≢◌, ◌⊎◌, ◌↔◌, ◌/◌, ◌%◌, ◌∷◌, Ok, Err, true, ℕ, ◌<◌, ◌≤◌, Bool, List, [], ◌++◌}
use Rattle.std.specs.Prelude.{length}
use Rattle.x86_operand.specs.declared.error.DecodeError.{DecodeError}
use Rattle.x86_operand.specs.declared.error.DecodeError.TheVariants.{ExhaustedInput}
use Rattle.x86_operand.specs.Kind.{Kind, WithoutModRM, is_vector, plain_kind}
use Rattle.x86_address.specs.Bytes.{IsBytes, IsUnit}
use Rattle.x86_address.specs.Place.{Place, IsPlace, kind_of, place_bytes, Target, kind_of_target, SpellsTargetIn}
use Rattle.x86_address.specs.Reading.{take_place}
use Rattle.x86_address.specs.Shortest.{shortest_in, x_of, b_of, IsSpellable}

-- bytes name only targets whose parts are in range, each of its own kind
abbrev pub OnlySpellable : Type 0
OnlySpellable =
    (unit : ℕ) (bytes : List ℕ) (kind : Kind) (reg : ℕ) (x b : Bool) (e : Target) → IsUnit unit
    → SpellsTargetIn unit bytes kind reg x b e
    → (kind_of_target e ≡ plain_kind kind) × IsSpellable (is_vector kind) e

-- and each of those is named by the bytes of its shortest place, with the bits X and B that it demands
abbrev pub ShortestSpells : Type 0
ShortestSpells =
    (unit : ℕ) (kind : Kind) (reg : ℕ) (e : Target) → IsUnit unit → reg < 8 → kind_of_target e ≡ plain_kind kind
    → IsSpellable (is_vector kind) e
    → SpellsTargetIn unit (place_bytes reg (shortest_in unit e)) kind reg (x_of e) (b_of e) e

-- no bytes that name it, with whatever reg, X and B, are fewer than those of the shortest place
abbrev pub ShortestIsLeast : Type 0
ShortestIsLeast =
    (unit : ℕ) (bytes : List ℕ) (kind : Kind) (reg other_reg : ℕ) (x b : Bool) (e : Target) → IsUnit unit
    → SpellsTargetIn unit bytes kind reg x b e → length (place_bytes other_reg (shortest_in unit e)) ≤ length bytes

-- X is the bit that the target demands, or the bytes name it with either X
abbrev pub XIsFixed : Type 0
XIsFixed =
    (unit : ℕ) (bytes : List ℕ) (kind : Kind) (reg : ℕ) (x b : Bool) (e : Target)
    → SpellsTargetIn unit bytes kind reg x b e
    → (x ≡ x_of e) ⊎ ((other : Bool) → SpellsTargetIn unit bytes kind reg other b e)

-- B is the bit that the target demands, or the bytes name it with either B
abbrev pub BIsFixed : Type 0
BIsFixed =
    (unit : ℕ) (bytes : List ℕ) (kind : Kind) (reg : ℕ) (x b : Bool) (e : Target)
    → SpellsTargetIn unit bytes kind reg x b e
    → (b ≡ b_of e) ⊎ ((other : Bool) → SpellsTargetIn unit bytes kind reg x other e)

-- a bit that the target demands is 1 wherever bytes name it; so where some name it with X and B both 0, so do those of
-- the shortest place
abbrev pub DemandedIsSet : Type 0
DemandedIsSet =
    (unit : ℕ) (bytes : List ℕ) (kind : Kind) (reg : ℕ) (x b : Bool) (e : Target)
    → SpellsTargetIn unit bytes kind reg x b e → (x_of e ≡ true → x ≡ true) × (b_of e ≡ true → b ≡ true)

-- two places of the same bytes are one
abbrev pub OnePlace : Type 0
OnePlace =
    (reg other_reg : ℕ) (place other : Place) → reg < 8 → other_reg < 8 → IsPlace place → IsPlace other
    → place_bytes reg place ≡ place_bytes other_reg other → place ≡ other

-- the bytes of an address begin those of no other, and name one target of a kind, with one reg field
abbrev pub OneReading : Type 0
OneReading =
    (unit : ℕ) (bytes more : List ℕ) (kind other_kind : Kind) (reg other_reg : ℕ) (x b : Bool) (e other : Target)
    → kind ≢ WithoutModRM
    → SpellsTargetIn unit bytes kind reg x b e → SpellsTargetIn unit (bytes ++ more) other_kind other_reg x b other
    → (more ≡ []) × (reg ≡ other_reg) × (plain_kind kind ≡ plain_kind other_kind) × (kind ≡ other_kind → e ≡ other)

-- what follows a ModRM byte is read as a place exactly where ModRM and the bytes taken are the bytes of that place
abbrev pub ReadingIsSpelling : Type 0
ReadingIsSpelling =
    (modrm : ℕ) (bytes : List ℕ) (place : Place) (rest : List ℕ) → modrm < 256 → IsBytes bytes
    → (take_place (modrm / 64) (modrm % 8) bytes ≡ Ok (place, rest))
    ↔ (IsPlace place × (kind_of place ≢ WithoutModRM) × (modrm ∷ bytes ≡ place_bytes ((modrm / 8) % 8) place ++ rest))

-- it fails only where no byte is left
abbrev pub ReadingFails : Type 0
ReadingFails =
    (mode rm : ℕ) (bytes : List ℕ) (error : DecodeError × List ℕ) → take_place mode rm bytes ≡ Err error
    → error ≡ (ExhaustedInput, [])
