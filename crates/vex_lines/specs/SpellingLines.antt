-- The lines of all spellings of the instruction that begins some code.
use Rattle.std.specs.Prelude.{ℕ, Bool, List, ◌++◌, codes, flat_map, Result, Ok, Err}
use Rattle.hex.specs.Hex.{encode_lower}
use Rattle.x86_operand.specs.declared.error.DecodeError.{DecodeError}
use Rattle.x86_operand.specs.Errors.{decode_error_name}
use Rattle.x86_operand.specs.Meaning.{Meaning, Decoded}
use Rattle.vex_decode.specs.Decode.{decode}
use Rattle.vex_list.specs.AllSpellings.{all_spellings}
use Rattle.vex_lines.specs.ErrorLine.{error_line}

-- the line of a spelling: its bytes in hex digits
abbrev pub spelling_line : List ℕ → List ℕ
spelling_line bytes = encode_lower bytes ++ codes "\n"

-- a line for each spelling of a meaning, in order, and then one for the end
abbrev pub lines_of_meaning : Meaning → List ℕ
lines_of_meaning m = flat_map spelling_line (all_spellings m) ++ codes "end\n"

-- the lines of what a decode answers
abbrev pub spellings_of : Result Decoded DecodeError → List ℕ
spellings_of (Ok decoded) = lines_of_meaning decoded.meaning
spellings_of (Err error) = error_line (decode_error_name error)

-- the lines of some bytes under settings: the error that blocks them, or all spellings of the meaning of the one that
-- begins them
unfoldable pub spelling_lines : List Bool → List ℕ → List ℕ
spelling_lines settings bytes = spellings_of (decode settings bytes)
