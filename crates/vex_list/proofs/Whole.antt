-- What a decode of whole bytes answers, they spell.
use Rattle.std.specs.Prelude.{◌≡◌, ℕ, List, [], Bool, length, take, Result, Ok}
use Rattle.std.proofs.Common.{ap, sym, ◌∙◌, subst}
use Rattle.std.proofs.Math.Seq.{take-length}
use Rattle.std.proofs.lemmas.List.{append-nil}
use Rattle.x86_operand.specs.declared.error.DecodeError.{DecodeError}
use Rattle.x86_operand.specs.Meaning.{Meaning, Decoded}
use Rattle.x86_settings.specs.Bits.{all_bits}
use Rattle.x86_permit.specs.Laws.{AllSettingsPermitAll}
use Rattle.vex_decode.specs.Spelling.{Spells}
use Rattle.vex_decode.specs.Decode.{decode}
use Rattle.vex_decode.specs.Laws.{DecodeOfSpelling}

-- bytes that are all taken and mean it spell it
pub whole : (bytes : List ℕ) (m : Meaning) (n : ℕ) (d : Meaning) → Spells (take n bytes) d → n ≡ length bytes → d ≡ m
    → Spells bytes m
whole bytes m n d spells e means =
    subst (Spells bytes) means (subst (λ front. Spells front d) (ap (λ k. take k bytes) e ∙ take-length bytes) spells)

-- bytes that spell it are all taken and mean it, whatever their opcode
pub its_answer : DecodeOfSpelling → AllSettingsPermitAll → (settings : List Bool) → settings ≡ all_bits
    → (bytes : List ℕ) (m : Meaning) (first : Result Decoded DecodeError) → first ≡ decode settings bytes
    → Spells bytes m
    → first ≡ Ok (record { meaning = m; len = length bytes })
its_answer law permit settings all bytes m first answer spells =
    answer ∙ ap (λ s. decode s bytes) all ∙ ap (decode all_bits) (sym (append-nil bytes))
    ∙ law all_bits bytes [] m spells (permit m.evex m.opcode)

ok_same : {x y : Decoded} → ◌≡◌ {A = Result Decoded DecodeError} (Ok x) (Ok y) → x ≡ y
ok_same e = cc

pub its_instruction : DecodeOfSpelling → AllSettingsPermitAll → (settings : List Bool) → settings ≡ all_bits
    → (bytes : List ℕ) (m : Meaning) (decoded : Decoded) → Ok decoded ≡ decode settings bytes → Spells bytes m
    → decoded ≡ record { meaning = m; len = length bytes }
its_instruction law permit settings all bytes m decoded answer spells =
    ok_same (its_answer law permit settings all bytes m (Ok decoded) answer spells)
