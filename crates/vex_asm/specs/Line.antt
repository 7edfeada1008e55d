-- The meaning that a line writes, as a function of the line.
use Rattle.std.specs.Prelude.{ℕ, Bool, true, false, List, [], ◌∷◌, Option, Some, None, codes, take, drop, bytes_eq}
use Rattle.std.specs.Prelude.{option_map, if◌then◌else◌}
use Rattle.x86_opcode.specs.declared.Opcode.{Opcode}
use Rattle.x86_opcode.specs.Name.{opcode_name}
use Rattle.x86_opcode.specs.Slots.{opcode_at, slot}
use Rattle.x86_operand.specs.Meaning.{Meaning}
use Rattle.vex_asm.specs.Text.{line_parts}
use Rattle.vex_asm.specs.Parsed.{◌>>=◌, when, few, rest_of}

-- the opcode of a name: the one to which the name leads, where it has that name
unfoldable pub opcode_of : List ℕ → Option Opcode
opcode_of name = when (bytes_eq (opcode_name (opcode_at (slot name))) name) (opcode_at (slot name))

-- the mark and the opcode of a word
unfoldable pub head_of : List ℕ → Option (Bool × Opcode)
head_of word =
    if bytes_eq (take 5 word) (codes "EVEX.") then option_map (λ opcode. (true, opcode)) (opcode_of (drop 5 word))
    else option_map (λ opcode. (false, opcode)) (opcode_of word)

-- the meaning of some words: the first names the opcode, the last the size, and those between the operands
abbrev pub meaning_of_parts : List (List ℕ) → Option Meaning
meaning_of_parts [] = None
meaning_of_parts (word ∷ behind) = do
  head ← head_of word
  rest ← few (rest_of behind)
  Some (record { evex = head.0; opcode = head.1; operands = rest.0; size = rest.1 })

-- the meaning that a line writes, none where it writes none
unfoldable pub meaning_of : List ℕ → Option Meaning
meaning_of line = meaning_of_parts (line_parts line)
