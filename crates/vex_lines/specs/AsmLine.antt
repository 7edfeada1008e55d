-- The line of a text that is assembled.
use Rattle.std.specs.Prelude.{ℕ, Bool, List, ◌++◌, codes, Option, Some, None, if◌then◌else◌}
use Rattle.hex.specs.Hex.{encode_lower}
use Rattle.x86_operand.specs.Meaning.{Meaning}
use Rattle.x86_permit.specs.Permission.{permits}
use Rattle.vex_encode.specs.Canon.{canon}
use Rattle.vex_asm.specs.Line.{meaning_of}
use Rattle.vex_lines.specs.ErrorLine.{error_line}

-- the line of the canonical bytes of a meaning, whose opcode is permitted or not
abbrev pub bytes_line : Bool → Option (List ℕ) → List ℕ
bytes_line permitted None = error_line (codes "NoSpelling")
bytes_line permitted (Some bytes) = if permitted then encode_lower bytes
    ++ codes "\n" else error_line (codes "InvalidOpcode")

-- the line of a meaning under settings
abbrev pub meaning_line : List Bool → Option Meaning → List ℕ
meaning_line settings None = error_line (codes "BadText")
meaning_line settings (Some m) = bytes_line (permits settings m.evex m.opcode) (canon m)

-- the line of a text under settings: the canonical bytes of its meaning, or why there are none
unfoldable pub asm_line : List Bool → List ℕ → List ℕ
asm_line settings line = meaning_line settings (meaning_of line)
