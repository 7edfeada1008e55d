-- What a struct tells, by what was made of it.
use Rattle.std.proofs.Common.{◌≡◌, ℕ, List, Option, Some, ap, sym, subst, refl, ◌∙◌, option_map}
use Rattle.x86_operand.specs.Meaning.{Decoded, Meaning}
use Rattle.vex_decode.specs.Spelling.{Spells}
use Rattle.vex_calls.specs.declared.call_error.CallError.TheVariants.{NoSpelling}
use Rattle.vex_calls.specs.declared.flat_instruction.FlatInstruction.{FlatInstruction}
use Rattle.vex_calls.specs.Errors.{error_number}
use Rattle.vex_calls.specs.Instructions.{meaning_of}
use Rattle.vex_c.specs.Encoding.{AnswersNoBytes}

abbrev pub meaning_made : Decoded → Meaning
meaning_made made = made.meaning

-- the meaning of the instruction that was made of a struct is what it tells
pub told : (flat : FlatInstruction) (made : Option Decoded) (decoded : Decoded)
    → option_map meaning_made made ≡ meaning_of flat → made ≡ Some decoded
    → meaning_of flat ≡ Some decoded.meaning
told flat made decoded is some = sym is ∙ ap (option_map meaning_made) some

-- no bytes spell what a struct tells
pub no_bytes : (flat : FlatInstruction) (made : Option Decoded) (decoded : Decoded)
    → option_map meaning_made made ≡ meaning_of flat → made ≡ Some decoded
    → ((bytes : List ℕ) → Spells bytes decoded.meaning → ⊥)
    → AnswersNoBytes (meaning_of flat) (error_number NoSpelling)
no_bytes flat made decoded is some unspelled =
    subst (λ m. AnswersNoBytes m (error_number NoSpelling)) (sym (told flat made decoded is some)) (refl, unspelled)
