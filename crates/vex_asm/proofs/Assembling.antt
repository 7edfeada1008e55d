-- A line that has canonical bytes has no error, and the other way round.
use Rattle.std.proofs.Common.{◌≡◌, ℕ, List, Bool, Some, Err, subst, sym, ap, ◌∙◌}
use Rattle.std.proofs.lemmas.Option.{same_Some}
use Rattle.x86_operand.specs.Meaning.{Meaning}
use Rattle.x86_operand.specs.Range.{IsMeaning}
use Rattle.vex_decode.specs.Laws.{Decodes, SameAnswer}
use Rattle.vex_decode.specs.Spelling.{Spells}
use Rattle.vex_encode.specs.Canon.{canon}
use Rattle.vex_encode.specs.Laws.{CanonicalSpells}
use Rattle.vex_asm.specs.declared.error.AsmError.{AsmError}
use Rattle.vex_asm.specs.declared.error.AsmError.TheVariants.{BadText, NoSpelling}
use Rattle.vex_asm.specs.Text.{text}
use Rattle.vex_asm.specs.Laws.{IsTextOf}
use Rattle.vex_asm.specs.Assembly.{Assembles, AssemblesTo, HasNoSpelling, TextAssembles}
use Rattle.vex_asm.proofs.Meanings.{as_words, same_meaning}

-- a line writes one meaning
pub one_written : (line : List ℕ) (m n : Meaning) → IsTextOf line m → IsTextOf line n → m ≡ n
one_written line m n h k = same_meaning m n h.in_range k.in_range (h.text ∙ sym k.text)

-- a line has at most one string of canonical bytes
pub one_spelling : (line a b : List ℕ) → AssemblesTo line a → AssemblesTo line b → a ≡ b
one_spelling line a b h k = same_Some _ _
    (sym h.canonical ∙ ap canon (one_written line _ _ h.written k.written) ∙ k.canonical)

-- no line has canonical bytes and a meaning that no bytes spell
pub apart : CanonicalSpells → (line bytes : List ℕ) → AssemblesTo line bytes → HasNoSpelling line → ⊥
apart law line bytes h k = k.unspelled bytes
    (subst (Spells bytes) (one_written line _ _ h.written k.written) (law h.meaning bytes h.canonical))

-- a line with an error has no canonical bytes
pub refused : CanonicalSpells → (line : List ℕ) (error : AsmError) → Assembles line (Err error) → (bytes : List ℕ)
    → AssemblesTo line bytes → ⊥
refused law line BadText h bytes k = h k.meaning k.written
refused law line NoSpelling h bytes k = apart law line bytes k h

-- a line that is the text of a meaning has the canonical bytes of this meaning
pub written_text : (line : List ℕ) (m : Meaning) (bytes : List ℕ) → IsMeaning m → text m ≡ line → canon m ≡ Some bytes
    → AssemblesTo line bytes
written_text line m bytes h e c = record { meaning = m; written = as_words m line h e; canonical = c }

-- where a decode answers a meaning in range, the text of this meaning has its canonical bytes
pub decoded_text : SameAnswer → (settings : List Bool) (bytes : List ℕ) (m : Meaning) (n : ℕ) (canonical : List ℕ)
    → Decodes settings bytes m n → IsMeaning m → canon m ≡ Some canonical → TextAssembles settings bytes
decoded_text law settings bytes m n canonical decoded in_range is = λ other k line again same.
    let meaning : m ≡ other = (law settings settings bytes m other n k decoded again).0 in
    let c : canon other ≡ Some canonical = ap canon (sym meaning) ∙ is in (
      canonical,
      c,
      record {
        meaning = other;
        written =
            record { in_range = subst IsMeaning meaning in_range; text = sym same };
        canonical = c;
      },
    )
