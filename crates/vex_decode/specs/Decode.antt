-- What a decode of bytes answers.
use Rattle.std.specs.Prelude.{ℕ, Bool, List, Result, Ok, Err, if◌then◌else◌}
use Rattle.x86_operand.specs.declared.error.DecodeError.{DecodeError}
use Rattle.x86_operand.specs.declared.error.DecodeError.TheVariants.{InvalidOpcode}
use Rattle.x86_operand.specs.Meaning.{Decoded}
use Rattle.x86_permit.specs.Permission.{permits}
use Rattle.x86_address.specs.Reading.{Reading}
use Rattle.vex_rows.specs.Row.{Row, mark_of, opcode_of}
use Rattle.vex_forms.specs.FormWalk.{taken}
use Rattle.vex_decode.specs.Spelling.{Syntax, meant}
use Rattle.vex_decode.specs.Walk.{walk}

-- by what the steps before the settings have read of bytes: its meaning and the number of bytes taken, where the
-- settings permit it, or the error
abbrev pub decoded_by : List Bool → List ℕ → Reading (Row × Syntax) → Result Decoded DecodeError
decoded_by settings bytes (Ok read) =
    if permits settings (mark_of read.0.0) (opcode_of read.0.0)
    then Ok (record { meaning = meant read.0.0 read.0.1; len = taken bytes read.1 })
    else Err InvalidOpcode
decoded_by settings bytes (Err error) = Err error.0

-- a decode under settings: the meaning and the length of the permitted spelling that begins the bytes, or the error of
-- the first failing step
unfoldable pub decode : List Bool → List ℕ → Result Decoded DecodeError
decode settings bytes = decoded_by settings bytes (walk bytes)
