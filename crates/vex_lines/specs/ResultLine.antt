-- The result line of some code.
use Rattle.std.specs.Prelude.{ℕ, Bool, List, ◌++◌, Result, Ok, Err, codes, decimal}
use Rattle.hex.specs.Hex.{encode_lower}
use Rattle.x86_operand.specs.declared.error.DecodeError.{DecodeError}
use Rattle.x86_operand.specs.Errors.{decode_error_name}
use Rattle.x86_operand.specs.Meaning.{Meaning, Decoded}
use Rattle.vex_encode.specs.Recode.{recoded}
use Rattle.vex_asm.specs.Text.{text}
use Rattle.vex_lines.specs.ErrorLine.{error_line}

-- the line of an instruction: the number of bytes read, the text of its meaning, the canonical bytes
abbrev pub instruction_line : ℕ → Meaning → List ℕ → List ℕ
instruction_line n m bytes =
    decimal n ++ codes " " ++ text m ++ codes " " ++ encode_lower bytes ++ codes "\n"

-- the line of what a recoding answers: an instruction and its canonical bytes, or an error
abbrev pub recoded_line : Result (Decoded × List ℕ) DecodeError → List ℕ
recoded_line (Ok read) = instruction_line read.0.len read.0.meaning read.1
recoded_line (Err error) = error_line (decode_error_name error)

-- the result line of some bytes under settings: the error that blocks them, or the length and the meaning of the
-- spelling that begins them, and the canonical bytes of that meaning
unfoldable pub result_line : List Bool → List ℕ → List ℕ
result_line settings bytes = recoded_line (recoded settings bytes)
