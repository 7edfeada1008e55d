use Rattle.std.specs.Prelude.{ℕ, List, [], ◌∷◌, length, Option, Some, None, nat_le, if◌then◌else◌, filter_map}
use Rattle.x86_operand.specs.Meaning.{Meaning}
use Rattle.vex_rows.specs.Row.{Row, rows}
use Rattle.vex_encode.specs.Standard.{standard}

-- the shorter of a string and what there is besides, the string where both are equally long
abbrev pub shorter : List ℕ → Option (List ℕ) → List ℕ
shorter bytes None = bytes
shorter bytes (Some other) = if nat_le (length bytes) (length other) then bytes else other

-- the first of least length, none of no strings
abbrev pub first_shortest : List (List ℕ) → Option (List ℕ)
first_shortest [] = None
first_shortest (bytes ∷ others) = Some (shorter bytes (first_shortest others))

-- the standard bytes of a meaning by each row that can give it
abbrev pub all_standard : Meaning → List Row → List (List ℕ)
all_standard m choices = filter_map (λ row. standard row m) choices

-- the canonical bytes of a meaning: the first of the shortest standard bytes over all rows; none where no row gives it
unfoldable pub canon : Meaning → Option (List ℕ)
canon m = first_shortest (all_standard m rows)
