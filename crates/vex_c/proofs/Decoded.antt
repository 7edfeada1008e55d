-- How a decode ends.
use Rattle.std.proofs.Common.{◌≡◌, ◌↔◌, ℕ, Bool, List, None, Result, Ok, Err}
use Rattle.std.specs.Prelude.{IfOk, IfErr}
use Rattle.vex_decode.specs.Blocked.{blocked}
use Rattle.vex_calls.specs.declared.call_error.CallError.{CallError}
use Rattle.vex_calls.specs.declared.flat_instruction.FlatInstruction.{FlatInstruction}
use Rattle.vex_calls.specs.Errors.{error_number}
use Rattle.vex_c.specs.Answers.{Fills}
use Rattle.vex_c.specs.Decoding.{AnswersBlocked, HoldsFirst}
use Rattle.vex_c.proofs.Filled.{Filled, filled, filled-exactly}

module _ (settings : List Bool) (bytes : List ℕ) where
  -- bytes that an error blocks don't begin with a permitted spelling
  pub excluded : (answer : ℕ) → AnswersBlocked settings bytes answer → blocked settings bytes ≡ None → ⊥
  excluded answer is none = let some = is.blocked in cc

  module _ (found : Result FlatInstruction CallError) (answer : ℕ) (old new : FlatInstruction)
      (holds : IfOk found (HoldsFirst settings bytes))
      (refuses : IfErr found (λ error. AnswersBlocked settings bytes (error_number error)))
      (fills : Fills found answer old new) where
    pub ends : Filled (HoldsFirst settings bytes) (AnswersBlocked settings bytes) answer old new
    ends = filled (HoldsFirst settings bytes) (AnswersBlocked settings bytes) found answer old new holds refuses fills

    begun_value : (found : Result FlatInstruction CallError) → IfOk found (HoldsFirst settings bytes)
        → IfOk found (λ flat. blocked settings bytes ≡ None)
    begun_value (Ok flat) holds = holds.begun
    begun_value (Err error) holds = holds

    begun_error : (found : Result FlatInstruction CallError)
        → IfErr found (λ error. AnswersBlocked settings bytes (error_number error))
        → IfErr found (λ error. blocked settings bytes ≡ None → ⊥)
    begun_error (Ok flat) refuses = refuses
    begun_error (Err error) refuses = excluded (error_number error) refuses

    pub begun : (answer ≡ 0) ↔ (blocked settings bytes ≡ None)
    begun = filled-exactly (blocked settings bytes ≡ None) found answer old new (begun_value found holds)
        (begun_error found refuses) fills
