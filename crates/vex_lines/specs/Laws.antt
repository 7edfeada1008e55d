-- The laws of the lines of texts, and of result lines.
use Rattle.std.specs.Prelude.{◌≡◌, ℕ, Bool, List, ◌++◌, codes, None}
use Rattle.hex.specs.Hex.{encode_lower}
use Rattle.x86_operand.specs.Meaning.{Meaning}
use Rattle.x86_permit.specs.Permission.{permits}
use Rattle.vex_decode.specs.Blocked.{blocked}
use Rattle.vex_encode.specs.Canon.{canon}
use Rattle.vex_asm.specs.Laws.{IsTextOf}
use Rattle.vex_asm.specs.Text.{text, words}
use Rattle.vex_lines.specs.AsmLine.{asm_line, bytes_line}
use Rattle.vex_lines.specs.ErrorLine.{error_line}
use Rattle.vex_lines.specs.ResultLine.{instruction_line, result_line}

-- the line of a text is that of the canonical bytes of the meaning that it writes
abbrev pub LineOfText : Type 0
LineOfText =
    (settings : List Bool) (line : List ℕ) (m : Meaning) → IsTextOf line m
    → asm_line settings line ≡ bytes_line (permits settings m.evex m.opcode) (canon m)

-- the line of what writes no meaning names this error
abbrev pub LineOfNoText : Type 0
LineOfNoText = (settings : List Bool) (line : List ℕ) → ((m : Meaning) → IsTextOf line m → ⊥)
    → asm_line settings line ≡ error_line (codes "BadText")

-- a result line is that of a meaning, whose text assembles under the same settings to the bytes at its end
pub record IsAssembled (settings : List Bool) (bytes : List ℕ) : Type 0 where
  pub n : ℕ
  pub meaning : Meaning
  pub canonical : List ℕ
  pub result : result_line settings bytes ≡ instruction_line n meaning canonical
  pub assembles : (line : List ℕ) → words line ≡ text meaning
      → asm_line settings line ≡ encode_lower canonical ++ codes "\n"

-- where no error blocks the bytes, the text of their result line assembles to the bytes at its end
abbrev pub ResultAssembles : List Bool → List ℕ → Type 0
ResultAssembles settings bytes = blocked settings bytes ≡ None → IsAssembled settings bytes
