use Rattle.std.specs.Prelude.{ℕ, Bool, List, Option, Some, None, Ok, Err, if◌then◌else◌}
use Rattle.x86_operand.specs.declared.error.DecodeError.{DecodeError}
use Rattle.x86_operand.specs.declared.error.DecodeError.TheVariants.{InvalidOpcode}
use Rattle.x86_permit.specs.Permission.{permits}
use Rattle.x86_address.specs.Reading.{Reading}
use Rattle.vex_rows.specs.Row.{Row, mark_of, opcode_of}
use Rattle.vex_forms.specs.FormWalk.{taken, failure}
use Rattle.vex_decode.specs.Spelling.{Syntax}
use Rattle.vex_decode.specs.Walk.{walk}

-- the first failing step of a decode without settings, and the number of bytes taken; none where no step fails
abbrev pub fails : List ℕ → Option (DecodeError × ℕ)
fails bytes = failure bytes (walk bytes)

-- the last step: the settings must permit the mark and the opcode of the row that was chosen
abbrev pub refused : List Bool → List ℕ → Reading (Row × Syntax) → Option (DecodeError × ℕ)
refused settings bytes (Ok read) =
    if permits settings (mark_of read.0.0) (opcode_of read.0.0) then None else Some (InvalidOpcode, taken bytes read.1)
refused settings bytes (Err error) = Some (error.0, taken bytes error.1)

-- the first failing step of a decode under settings, and the number of bytes taken; none where the bytes begin with a
-- permitted spelling
abbrev pub blocked : List Bool → List ℕ → Option (DecodeError × ℕ)
blocked settings bytes = refused settings bytes (walk bytes)
