-- The lines of texts that are assembled.
use Rattle.std.proofs.Common.{◌≡◌, ℕ, Bool, List, true, Option, Some, None, Err, codes, sym, ap, refl, ◌∙◌}
use Rattle.x86_operand.specs.Meaning.{Meaning, Decoded}
use Rattle.x86_operand.specs.Range.{IsMeaning}
use Rattle.x86_permit.specs.Permission.{permits}
use Rattle.vex_decode.specs.Spelling.{Spells}
use Rattle.vex_encode.specs.Canon.{canon}
use Rattle.vex_encode.specs.Laws.{CanonicalSpells}
use Rattle.vex_asm.specs.declared.error.AsmError.{AsmError}
use Rattle.vex_asm.specs.declared.error.AsmError.TheVariants.{BadText, NoSpelling}
use Rattle.vex_asm.specs.Assembly.{Assembles, AssemblesAs}
use Rattle.vex_asm.specs.Errors.{asm_error_name}
use Rattle.vex_asm.specs.Laws.{MeaningOfLine}
use Rattle.vex_asm.specs.Line.{meaning_of}
use Rattle.vex_lines.specs.AsmLine.{asm_line, bytes_line, meaning_line}
use Rattle.vex_lines.specs.ErrorLine.{error_line}
use Rattle.vex_lines.specs.Laws.{LineOfText, LineOfNoText, ResultAssembles}
use Rattle.vex_lines.specs.ResultLine.{instruction_line, result_line}

-- a line that writes a meaning
pub line-text : MeaningOfLine → LineOfText
unfolding asm_line
line-text law settings line m h = ap (meaning_line settings) ((law line m).1 h)

-- a line that writes none
pub line-no_text : MeaningOfLine → LineOfNoText
unfolding asm_line
line-no_text law settings line none = by (meaning_of line) refl where
  by : (o : Option Meaning) → meaning_of line ≡ o
      → meaning_line settings (meaning_of line) ≡ error_line (codes "BadText")
  by None e = ap (meaning_line settings) e
  by (Some m) e = absurd (none m ((law line m).0 e))

-- a meaning that no bytes spell has no canonical bytes
no-canon : CanonicalSpells → (m : Meaning) → ((bytes : List ℕ) → Spells bytes m → ⊥) → canon m ≡ None
no-canon law m none = by (canon m) refl where
  by : (o : Option (List ℕ)) → canon m ≡ o → o ≡ None
  by None e = refl
  by (Some bytes) e = absurd (none bytes (law m bytes e))

-- the line of a text that isn't assembled names the error
pub line-refused_text : LineOfText → LineOfNoText → CanonicalSpells
    → (settings : List Bool) (line : List ℕ) (error : AsmError) → Assembles line (Err error)
    → error_line (asm_error_name error) ≡ asm_line settings line
line-refused_text texts others law settings line BadText h = sym (others settings line h)
line-refused_text texts others law settings line NoSpelling h =
    sym (texts settings line h.meaning h.written
    ∙ ap (bytes_line (permits settings h.meaning.evex h.meaning.opcode)) (no-canon law h.meaning h.unspelled))

-- the line of a text that is assembled, by whether it is permitted
pub line-assembled : LineOfText → (settings : List Bool) (line : List ℕ) (read : Decoded) (bytes : List ℕ)
    (permitted : Bool)
    → AssemblesAs line read bytes → permitted ≡ permits settings read.meaning.evex read.meaning.opcode
    → bytes_line permitted (Some bytes) ≡ asm_line settings line
line-assembled texts settings line read bytes permitted h p =
    ap (λ b. bytes_line b (Some bytes)) p
    ∙ sym (texts settings line read.meaning h.written
    ∙ ap (bytes_line (permits settings read.meaning.evex read.meaning.opcode)) h.canonical)

-- the text of a meaning that was decoded, as its result line has it
pub result-assembles : LineOfText
    → (settings : List Bool) (bytes : List ℕ) (n : ℕ) (m : Meaning) (canonical : List ℕ)
    → result_line settings bytes ≡ instruction_line n m canonical
    → permits settings m.evex m.opcode ≡ true → canon m ≡ Some canonical → IsMeaning m
    → ResultAssembles settings bytes
result-assembles texts settings bytes n m canonical result permitted is in_range = λ begun. record {
  n = n;
  meaning = m;
  canonical = canonical;
  result = result;
  assembles = λ line same.
      texts settings line m (record { in_range = in_range; text = sym same })
      ∙ ap (λ b. bytes_line b (canon m)) permitted
      ∙ ap (bytes_line true) is;
}
