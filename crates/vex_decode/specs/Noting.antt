-- Steps that note what they read, and what it is for a call that reads bytes and records notes to follow one. Private
-- functions alone cite what stands here.
use Rattle.std.specs.Prelude.{◌≡◌, ℕ, List, [], ◌++◌, Result, Ok, Err}
use Rattle.x86_operand.specs.declared.error.DecodeError.{DecodeError}
use Rattle.x86_operand.specs.declared.error.DecodeError.TheVariants.{ExhaustedInput}
use Rattle.x86_reader.specs.Reader.{ReaderState, Passes}
use Rattle.x86_reader.specs.Sink.{SinkState, Triple, Records}
use Rattle.x86_address.specs.Reading.{Reading}
use Rattle.x86_address.specs.Follows.{Counts}

-- the notes of a step, and what it answers
abbrev pub Noted : Type 0 → Type 0 → Type 0
Noted D A = List (Triple D) × Reading A

-- a step that notes what it reads
abbrev pub Noting : Type 0 → Type 0 → Type 0
Noting D A = List ℕ → Noted D A

-- what follows some notes: after an answer the notes of the next step, after an error nothing
abbrev pub go_on : {D A B : Type 0} → List (Triple D) → Reading A → (A → Noting D B) → Noted D B
go_on notes (Ok read) next = (notes ++ (next read.0 read.1).0, (next read.0 read.1).1)
go_on notes (Err error) next = (notes, Err error)

-- one step after another: the notes of both
infixl 10 ◌>>◌
abbrev pub ◌>>◌ : {D A B : Type 0} → Noting D A → (A → Noting D B) → Noting D B
◌>>◌ step next bytes = go_on (step bytes).0 (step bytes).1 next

-- a step that notes nothing
abbrev pub silent : {D A : Type 0} → (List ℕ → Reading A) → Noting D A
silent step bytes = ([], step bytes)

-- these notes, and then the step
abbrev pub noting : {D A : Type 0} → List (Triple D) → Noting D A → Noting D A
noting notes step bytes = (notes ++ (step bytes).0, (step bytes).1)

-- these notes are the step's at these bytes, and the call answered what the step answers there, whatever follows them;
-- where they were exhausted, nothing does
abbrev pub AnswersNoting : {D A B : Type 0} → Noting D A → (A → B → Type 0) → List ℕ → List (Triple D)
    → Result B DecodeError → Type 0
AnswersNoting {D} {A} step IsSo bytes notes (Ok answer) =
    (value : A) × IsSo value answer × ((rest : List ℕ) → step (bytes ++ rest) ≡ (notes, Ok (value, rest)))
AnswersNoting {D} {A} step IsSo bytes notes (Err error) =
    (rest : List ℕ) → (error ≡ ExhaustedInput → rest ≡ []) → step (bytes ++ rest) ≡ (notes, Err (error, rest))

-- the reader gave some bytes and no others, the call answered what the step answers at them, and the sink was given the
-- step's notes on them
pub record FollowsNoting {D A B : Type 0} (step : Noting D A) (IsSo : A → B → Type 0) (old new : ReaderState)
    (sink_old sink_new : SinkState D) (result : Result B DecodeError) : Type 0 where
  pub bytes : List ℕ
  pub notes : List (Triple D)
  pub passes : Passes old new bytes
  pub counts : Counts old new result
  pub records : Records sink_old sink_new notes
  pub answers : AnswersNoting step IsSo bytes notes result
