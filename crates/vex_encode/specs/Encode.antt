-- Private functions alone cite what stands here.
use Rattle.std.specs.Prelude.{ℕ, Bool, true, false, List, [], ◌∷◌, filter, Option, Some, None, if◌then◌else◌}
use Rattle.x86_operand.specs.Meaning.{OperandMeaning, memory, Meaning}
use Rattle.vex_rows.specs.Row.{Row, exists}
use Rattle.vex_encode.specs.Standard.{standard}
use Rattle.vex_encode.specs.Canon.{shorter, first_shortest, all_standard}

-- the standard bytes of a meaning by a row that exists
abbrev pub standard_of : Row → Meaning → Option (List ℕ)
standard_of row m = if exists row then standard row m else None

-- the first of two strings that may be missing
abbrev pub first_of : Option (List ℕ) → Option (List ℕ) → Option (List ℕ)
first_of None other = other
first_of (Some bytes) other = Some bytes

-- the standard bytes of a meaning by the first row of some that exists and can give it
abbrev pub first : Meaning → List Row → Option (List ℕ)
first m [] = None
first m (row ∷ rows) = first_of (standard_of row m) (first m rows)

-- whether an operand is an address
abbrev pub is_address : OperandMeaning → Bool
is_address (memory address) = true
is_address _ = false

-- the shorter of two strings that may be missing, the first where both are equally long
abbrev pub shorter_of : Option (List ℕ) → Option (List ℕ) → Option (List ℕ)
shorter_of None other = other
shorter_of (Some bytes) other = Some (shorter bytes other)

-- the shortest standard bytes of a meaning by the rows among some choices that exist
abbrev pub best : Meaning → List Row → Option (List ℕ)
best m rows = first_shortest (all_standard m (filter exists rows))
