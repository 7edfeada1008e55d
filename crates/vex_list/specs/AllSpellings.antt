-- All spellings of a meaning, as one list: of all byte strings of at most eleven bytes, in order, those that spell it.
use Rattle.std.specs.Prelude.{ℕ, zero, suc, Bool, false, List, [], ◌∷◌, map, flat_map, filter, Option, Some, None, Ok}
use Rattle.std.specs.Prelude.{Err}
use Rattle.std.specs.List.{range_with_len}
use Rattle.x86_operand.specs.Meaning.{Meaning}
use Rattle.x86_operand.specs.Same.{same_meaning}
use Rattle.x86_address.specs.Reading.{Reading}
use Rattle.vex_rows.specs.Row.{Row}
use Rattle.vex_decode.specs.Spelling.{Syntax, meant}
use Rattle.vex_decode.specs.Walk.{walk}
use Rattle.vex_list.specs.Order.{is_before}

-- whether a decode without settings took all bytes, and what it read means the same
abbrev pub reads_all : Meaning → Reading (Row × Syntax) → Bool
reads_all m (Ok (read, [])) = same_meaning (meant read.0 read.1) m
reads_all m (Ok (read, byte ∷ rest)) = false
reads_all m (Err error) = false

-- whether a byte string spells a meaning: a decode takes all of it, and answers this meaning
unfoldable pub is_spelling : Meaning → List ℕ → Bool
is_spelling m b = reads_all m (walk b)

-- the strings that begin with one of n numbers, from k on, and go on with one of the tails, by the first number and
-- then in the order of the tails
unfoldable pub joined : List (List ℕ) → ℕ → ℕ → List (List ℕ)
joined tails n k = flat_map (λ first. map (λ tail. first ∷ tail) tails) (range_with_len k n)

-- all byte strings of at most n bytes, in order
unfoldable pub strings : ℕ → List (List ℕ)
strings zero = [] ∷ []
strings (suc n) = [] ∷ joined (strings n) 256 0

-- all spellings of a meaning, in order; none has more than eleven bytes
unfoldable pub all_spellings : Meaning → List (List ℕ)
all_spellings m = filter (is_spelling m) (strings 11)

-- those of them that come after a string
unfoldable pub spellings_after : Meaning → List ℕ → List (List ℕ)
spellings_after m previous = filter (is_before previous) (all_spellings m)

-- one of them and those that come after it; none where there isn't one
abbrev pub spellings_from : Meaning → Option (List ℕ) → List (List ℕ)
spellings_from m None = []
spellings_from m (Some b) = b ∷ spellings_after m b
