-- What it is for a call that reads bytes to follow a step of a walk over lists, and what that says to its caller.
pub mod Lemmas
use Rattle.std.specs.Prelude.{◌≡◌, ◌≢◌, ◌≤◌, ◌+◌, ℕ, List, [], ◌++◌, Some, Result, Ok, Err, IsOk}
use Rattle.x86_operand.specs.declared.error.DecodeError.{DecodeError}
use Rattle.x86_operand.specs.declared.error.DecodeError.TheVariants.{ExhaustedInput}
use Rattle.x86_reader.specs.Reader.{ReaderState, Passes, CountsRefusal}
use Rattle.x86_reader.specs.SliceReader.{SliceReader, slice_state}
use Rattle.x86_address.specs.Reading.{Reading}

-- the same value
abbrev pub Same : {A : Type 0} → A → A → Type 0
Same value answer = answer ≡ value

-- whatever was answered
abbrev pub Any : {A B : Type 0} → A → B → Type 0
Any value answer = Unit {0}

-- the call answered what the step answers at these bytes, whatever follows them; where they were exhausted, nothing
-- does
abbrev pub Answers : {A B : Type 0} → (List ℕ → Reading A) → (A → B → Type 0) → List ℕ → Result B DecodeError → Type 0
Answers {A} step IsSo bytes (Ok answer) =
    (value : A) × IsSo value answer × ((rest : List ℕ) → step (bytes ++ rest) ≡ Ok (value, rest))
Answers {A} step IsSo bytes (Err error) =
    (rest : List ℕ) → (error ≡ ExhaustedInput → rest ≡ []) → step (bytes ++ rest) ≡ Err (error, rest)

-- a refusal was counted exactly where the bytes were exhausted
pub record Refused (old new : ReaderState) (error : DecodeError) : Type 0 where
  pub counted : error ≡ ExhaustedInput → CountsRefusal old new
  pub uncounted : error ≢ ExhaustedInput → new.refusals ≡ old.refusals

-- no refusal was counted, or the one that the error says
abbrev pub Counts : {B : Type 0} → ReaderState → ReaderState → Result B DecodeError → Type 0
Counts old new (Ok answer) = new.refusals ≡ old.refusals
Counts old new (Err error) = Refused old new error

-- the reader gave some bytes and no others, and the call answered what the step answers at them: a value to which the
-- answer is so, or its error
pub record Follows {A B : Type 0} (step : List ℕ → Reading A) (IsSo : A → B → Type 0) (old new : ReaderState)
    (result : Result B DecodeError) : Type 0 where
  pub bytes : List ℕ
  pub passes : Passes old new bytes
  pub counts : Counts old new result
  pub answers : Answers step IsSo bytes result

-- a call that reads nothing answers what the step answers, and no refusal
pub record Decides {A B : Type 0} (step : List ℕ → Reading A) (IsSo : A → B → Type 0) (result : Result B DecodeError) :
    Type 0 where
  pub answers : Answers step IsSo [] result
  pub other : result ≢ Err ExhaustedInput

-- both numbers of the reader rose by one number, at most this
abbrev pub Rises : ℕ → ReaderState → ReaderState → Type 0
Rises most old new = (n : ℕ) × (n ≤ most) × (new.total ≡ old.total + n) × (new.since_mark ≡ old.since_mark + n)

-- over bytes that the reader tells, the call answers what the step does and leaves what it leaves, other than that the
-- bytes are exhausted
abbrev pub AnswersTold : {A B : Type 0} → (List ℕ → Reading A) → (A → B → Type 0) → ReaderState → List ℕ
    → Result B DecodeError → Type 0
AnswersTold {A} step IsSo new left (Ok answer) =
    (value : A) × (rest : List ℕ) × IsSo value answer × (step left ≡ Ok (value, rest)) × (new.left ≡ Some rest)
AnswersTold {A} step IsSo new left (Err error) =
    error ≢ ExhaustedInput → (rest : List ℕ) × (step left ≡ Err (error, rest)) × (new.left ≡ Some rest)

abbrev pub OverTold : {A B : Type 0} → (List ℕ → Reading A) → (A → B → Type 0) → ReaderState → ReaderState
    → Result B DecodeError → Type 0
OverTold step IsSo old new result = (left : List ℕ) → old.left ≡ Some left → AnswersTold step IsSo new left result

-- over a `U8Reader` the call answers what the step does over the bytes left, and leaves what it leaves
abbrev pub AnswersSlice : {A B : Type 0} → (List ℕ → Reading A) → (A → B → Type 0) → SliceReader → SliceReader
    → Result B DecodeError → Type 0
AnswersSlice {A} step IsSo before after (Ok answer) =
    (value : A) × IsSo value answer × (step before.left ≡ Ok (value, after.left))
AnswersSlice {A} step IsSo before after (Err error) = step before.left ≡ Err (error, after.left)

abbrev pub OverSlice : {A B : Type 0} → (List ℕ → Reading A) → (A → B → Type 0) → ReaderState → ReaderState
    → Result B DecodeError → Type 0
OverSlice step IsSo old new result =
    (before after : SliceReader) → old ≡ slice_state before → new ≡ slice_state after
    → AnswersSlice step IsSo before after result

-- where the step succeeds over the bytes that the reader tells, and no refusal was counted, the call succeeds
abbrev pub Completes : {A B : Type 0} → (List ℕ → Reading A) → ReaderState → ReaderState → Result B DecodeError → Type 0
Completes step old new result =
    (left : List ℕ) → old.left ≡ Some left → IsOk (step left) → (CountsRefusal old new → ⊥) → IsOk result
