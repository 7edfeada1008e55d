-- What a call that fills a place leaves, by its answer.
use Rattle.std.proofs.Common.{◌≡◌, ◌≢◌, ◌↔◌, ◌≤◌, ℕ, Result, Ok, Err, arith, sym, subst}
use Rattle.std.specs.Prelude.{IfOk, IfErr}
use Rattle.vex_calls.specs.declared.call_error.CallError.{CallError}
use Rattle.vex_calls.specs.declared.call_error.CallError.TheVariants.{ExhaustedInput, InvalidOpcode, InvalidOperand}
use Rattle.vex_calls.specs.declared.call_error.CallError.TheVariants.{Outside, NoSpelling, BadInstruction, BadEncoding}
use Rattle.vex_calls.specs.declared.call_error.CallError.TheVariants.{BadText, BadSyntax, NoRoom, NoSuchName}
use Rattle.vex_calls.specs.declared.call_error.CallError.TheVariants.{NoSuchNumber, Marked}
use Rattle.vex_calls.specs.Errors.{error_number}
use Rattle.vex_c.specs.Answers.{Fills}

-- no error has the number 0
pub error_positive : (error : CallError) → 1 ≤ error_number error
error_positive ExhaustedInput = omega arith
error_positive InvalidOpcode = omega arith
error_positive InvalidOperand = omega arith
error_positive Outside = omega arith
error_positive NoSpelling = omega arith
error_positive BadInstruction = omega arith
error_positive BadEncoding = omega arith
error_positive BadText = omega arith
error_positive BadSyntax = omega arith
error_positive NoRoom = omega arith
error_positive NoSuchName = omega arith
error_positive NoSuchNumber = omega arith
error_positive Marked = omega arith

pub not_zero : (error : CallError) (answer : ℕ) → answer ≡ error_number error → answer ≡ 0 → ⊥
not_zero error answer is zero = omega (arith, is, zero, error_positive error)

-- after 0 the place holds such a value; else the answer is such a number, and the place is as it was
pub record Filled {A : Type 0} (Holds : A → Type 0) (Refuses : ℕ → Type 0) (answer : ℕ) (old new : A) : Type 0 where
  pub holds : answer ≡ 0 → Holds new
  pub refused : answer ≢ 0 → Refuses answer
  pub kept : answer ≢ 0 → new ≡ old

pub filled : {A : Type 0} (Holds : A → Type 0) (Refuses : ℕ → Type 0) (found : Result A CallError) (answer : ℕ)
    (old new : A)
    → IfOk found Holds → IfErr found (λ error. Refuses (error_number error)) → Fills found answer old new
    → Filled Holds Refuses answer old new
filled Holds Refuses (Ok value) answer old new holds refuses fills = record {
  holds = λ zero. subst Holds (sym fills.1) holds;
  refused = λ other. absurd (other fills.0);
  kept = λ other. absurd (other fills.0);
}
filled Holds Refuses (Err error) answer old new holds refuses fills = record {
  holds = λ zero. absurd (not_zero error answer fills.0 zero);
  refused = λ other. subst Refuses (sym fills.0) refuses;
  kept = λ other. fills.1;
}

-- 0 is answered exactly where such a fact holds, which a value brings and an error excludes
pub filled-exactly : {A : Type 0} (Fact : Type 0) (found : Result A CallError) (answer : ℕ) (old new : A)
    → IfOk found (λ value. Fact) → IfErr found (λ error. Fact → ⊥) → Fills found answer old new
    → (answer ≡ 0) ↔ Fact
filled-exactly Fact (Ok value) answer old new holds excluded fills = (λ zero. holds, λ fact. fills.0)
filled-exactly Fact (Err error) answer old new holds excluded fills = (
  λ zero. absurd (not_zero error answer fills.0 zero),
  λ fact. absurd (excluded fact),
)
