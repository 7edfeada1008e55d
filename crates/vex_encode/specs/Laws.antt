-- The laws of canonical bytes.
use Rattle.std.specs.Prelude.{◌≡◌, ◌↔◌, ℕ, ◌≤◌, Bool, List, length, Some, None, IsSome, IsTrue}
use Rattle.x86_operand.specs.Meaning.{Meaning}
use Rattle.x86_permit.specs.Permission.{permits}
use Rattle.vex_rows.specs.Row.{Row, IsRow}
use Rattle.vex_decode.specs.Spelling.{SpellsBy, Spells}
use Rattle.vex_decode.specs.Blocked.{blocked}
use Rattle.vex_decode.specs.Laws.{Decodes}
use Rattle.vex_encode.specs.Standard.{standard}
use Rattle.vex_encode.specs.Canon.{canon}
use Rattle.vex_encode.specs.Conditions.{CanGive}

-- of meanings that have a spelling, the canonical bytes are equal exactly where the meanings are
abbrev pub CanonicalTellsApart : Type 0
CanonicalTellsApart = (a b : List ℕ) (m n : Meaning) → Spells a m → Spells b n → canon m ≡ canon n ↔ m ≡ n

-- the canonical bytes of a meaning are there, spell it, and are no longer than these bytes
pub record HasShortest (m : Meaning) (bytes : List ℕ) : Type 0 where
  pub canonical : List ℕ
  pub is : canon m ≡ Some canonical
  pub spells : Spells canonical m
  pub no_longer : length canonical ≤ length bytes

-- whatever spells a meaning, its canonical bytes do too, and are no longer
abbrev pub Shortest : Type 0
Shortest = (bytes : List ℕ) (m : Meaning) → Spells bytes m → HasShortest m bytes

-- the canonical bytes of a meaning whose mark and opcode are permitted are not blocked
abbrev pub CanonicalNotBlocked : Type 0
CanonicalNotBlocked =
    (settings : List Bool) (m : Meaning) (c : List ℕ) → IsTrue (permits settings m.evex m.opcode) → canon m ≡ Some c
    → blocked settings c ≡ None

-- the canonical bytes of a meaning spell that meaning
abbrev pub CanonicalSpells : Type 0
CanonicalSpells = (m : Meaning) (c : List ℕ) → canon m ≡ Some c → Spells c m

-- a decode of the canonical bytes of a meaning answers that meaning, and their number
abbrev pub CanonicalDecodes : Type 0
CanonicalDecodes =
    (settings : List Bool) (m n : Meaning) (c : List ℕ) (len : ℕ) → canon m ≡ Some c → Decodes settings c n len
    → (n ≡ m) × (len ≡ length c)

-- canonical bytes are their own: whatever they mean has them as its canonical bytes
abbrev pub CanonicalAgain : Type 0
CanonicalAgain = (m n : Meaning) (c : List ℕ) → canon m ≡ Some c → Spells c n → canon n ≡ Some c

-- there are standard bytes of a meaning by a row exactly where the row can give it
abbrev pub StandardIsSome : Type 0
StandardIsSome = (row : Row) (m : Meaning) → IsRow row → IsSome (standard row m) ↔ CanGive row m

-- there are no standard bytes of a meaning by a row exactly where no bytes spell it by the row
abbrev pub StandardIsNone : Type 0
StandardIsNone = (row : Row) (m : Meaning) → IsRow row
    → standard row m ≡ None ↔ ((bytes : List ℕ) → SpellsBy bytes m row → ⊥)
