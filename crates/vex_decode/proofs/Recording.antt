-- Calls that follow steps with notes, one after the other.
use Rattle.std.specs.Result.{IsErrAnd}
use Rattle.std.proofs.Common.{◌≡◌, ◌≢◌, ◌∙◌, ap, sym, subst, refl, ℕ, List, [], ◌++◌, Result, Ok, Err, IsErr}
use Rattle.std.proofs.Common.{append_assoc, append-nil}
use Rattle.x86_operand.specs.declared.error.DecodeError.{DecodeError}
use Rattle.x86_operand.specs.declared.error.DecodeError.TheVariants.{ExhaustedInput}
use Rattle.x86_operand.specs.Meaning.{Decoded}
use Rattle.x86_reader.specs.Reader.{ReaderState}
use Rattle.x86_reader.specs.Reader.Lemmas.{Passes-none, Passes-trans}
use Rattle.x86_reader.specs.Sink.{SinkState, Triple, Records}
use Rattle.x86_reader.specs.Sink.Lemmas.{Records-none, Records-trans}
use Rattle.x86_address.specs.Reading.{Reading, ◌>>=◌}
use Rattle.x86_address.specs.Follows.{Answers, Counts, Follows}
use Rattle.vex_forms.specs.Operands.{made}
use Rattle.vex_decode.specs.Noting.{Noted, Noting, go_on, ◌>>◌, silent, noting, AnswersNoting, FollowsNoting}

-- an error that is given again by `?` is that of what was made
pub made_fails : (error : DecodeError) (result : Result (Unit {0}) DecodeError) (instruction : Decoded)
    → IsErr result × IsErrAnd result (λ e. e ≡ error)
    → IsErr (made result instruction) × IsErrAnd (made result instruction) (λ e. e ≡ error)
made_fails error (Err e) instruction is = is
made_fails error (Ok done) instruction is = cc

-- a call that notes nothing
pub noting_silent : {D A B : Type 0} {step : List ℕ → Reading A} {IsSo : A → B → Type 0} {old new : ReaderState}
    {sink : SinkState D} (result : Result B DecodeError) → Follows step IsSo old new result
    → FollowsNoting (silent step) IsSo old new sink sink result
noting_silent {D} {step = step} {IsSo = IsSo} {sink = sink} result f = record {
  bytes = f.bytes;
  notes = [];
  passes = f.passes;
  counts = f.counts;
  records = Records-none sink;
  answers = by result f.answers;
}
  where
    by : (result : Result _ DecodeError) → Answers step IsSo f.bytes result
        → AnswersNoting {D = D} (silent step) IsSo f.bytes [] result
    by (Ok answer) answers = (answers.0, answers.1, λ rest. ap (λ r. ([], r)) (answers.2 rest))
    by (Err error) answers = λ rest none. ap (λ r. ([], r)) (answers rest none)

module _ {D A C T : Type 0} (step : Noting D A) (next : A → Noting D C) (Then : C → T → Type 0) where
  answers_after : (value : A) (one two : List ℕ) (notes more : List (Triple D)) (result : Result T DecodeError)
      → ((rest : List ℕ) → step (one ++ rest) ≡ (notes, Ok (value, rest)))
      → AnswersNoting (next value) Then two more result
      → AnswersNoting (step >> next) Then (one ++ two) (notes ++ more) result
  answers_after value one two notes more (Ok answer) first second = (
    second.0,
    second.1,
    λ rest. rw (append_assoc one two rest)
        (ap (λ (r : Noted D A). go_on r.0 r.1 next) (first (two ++ rest))
        ∙ ap (λ (r : Noted D C). (notes ++ r.0, r.1)) (second.2 rest)),
  )
  answers_after value one two notes more (Err error) first second = λ rest none.
      rw (append_assoc one two rest)
      (ap (λ (r : Noted D A). go_on r.0 r.1 next) (first (two ++ rest))
      ∙ ap (λ (r : Noted D C). (notes ++ r.0, r.1)) (second rest none))

-- counts after a step that counted none
counts_after : {B : Type 0} (old mid new : ReaderState) (result : Result B DecodeError) → mid.refusals ≡ old.refusals
    → Counts mid new result → Counts old new result
counts_after old mid new (Ok answer) same counts = counts ∙ same
counts_after old mid new (Err error) same counts = record {
  counted = λ e. rw (← same) (counts.counted e);
  uncounted = λ e. counts.uncounted e ∙ same;
}

module _ {D A B C T : Type 0} {step : Noting D A} (next : A → Noting D C) {IsSo : A → B → Type 0}
    {Then : C → T → Type 0} where
  -- the first answers
  pub noting_then : {old mid new : ReaderState} {s0 s1 s2 : SinkState D} {answer : B} (result : Result T DecodeError)
      → FollowsNoting step IsSo old mid s0 s1 (Ok answer)
      → ((value : A) → IsSo value answer → FollowsNoting (next value) Then mid new s1 s2 result)
      → FollowsNoting (step >> next) Then old new s0 s2 result
  noting_then {old} {mid} {new} result first second =
      let after = second first.answers.0 first.answers.1 in
      record {
        bytes = first.bytes ++ after.bytes;
        notes = first.notes ++ after.notes;
        passes = Passes-trans first.passes after.passes;
        counts = counts_after old mid new result first.counts after.counts;
        records = Records-trans first.records after.records;
        answers = answers_after step next Then first.answers.0 first.bytes after.bytes first.notes after.notes result
            first.answers.2 after.answers;
      }

  fails_with : {old new : ReaderState} {s0 s1 : SinkState D} {error : DecodeError}
      → FollowsNoting step IsSo old new s0 s1 (Err error) → FollowsNoting (step >> next) Then old new s0 s1 (Err error)
  fails_with first = record {
    bytes = first.bytes;
    notes = first.notes;
    passes = first.passes;
    counts = first.counts;
    records = first.records;
    answers = λ rest none. ap (λ (r : Noted D A). go_on r.0 r.1 next) (first.answers rest none);
  }

  -- the first fails, and its error is given again, by `?`
  pub noting_fails : {old new : ReaderState} {s0 s1 : SinkState D} {error : DecodeError}
      (result : Result T DecodeError) → IsErr result × IsErrAnd result (λ e. e ≡ error)
      → FollowsNoting step IsSo old new s0 s1 (Err error) → FollowsNoting (step >> next) Then old new s0 s1 result
  noting_fails {old} {new} {s0} {s1} (Err e) is first =
      subst (λ e. FollowsNoting (step >> next) Then old new s0 s1 (Err e)) (sym is.1) (fails_with first)
  noting_fails (Ok answer) is first = cc

-- the first answers a view of the value that the step answers
pub noting_seen : {D A B C T : Type 0} {step : Noting D A} (next : A → Noting D C) {Then : C → T → Type 0}
    {view : B → A} {old mid new : ReaderState} {s0 s1 s2 : SinkState D} {answer : B} (result : Result T DecodeError)
    → FollowsNoting step (λ value answer. view answer ≡ value) old mid s0 s1 (Ok answer)
    → FollowsNoting (next (view answer)) Then mid new s1 s2 result
    → FollowsNoting (step >> next) Then old new s0 s2 result
noting_seen next {Then = Then} {mid = mid} {new = new} {s1 = s1} {s2 = s2} result first second =
    noting_then next result first (λ value so. subst (λ value. FollowsNoting (next value) Then mid new s1 s2 result) so
    second)

-- notes are recorded, and then a step is done
pub noting_noted : {D A B : Type 0} {notes : List (Triple D)} (step : Noting D A) {IsSo : A → B → Type 0}
    {old new : ReaderState} {s0 s1 s2 : SinkState D} (result : Result B DecodeError) → Records s0 s1 notes
    → FollowsNoting step IsSo old new s1 s2 result → FollowsNoting (noting notes step) IsSo old new s0 s2 result
noting_noted {D} {A} {B} {notes} step {IsSo} result records after = record {
  bytes = after.bytes;
  notes = notes ++ after.notes;
  passes = after.passes;
  counts = after.counts;
  records = Records-trans records after.records;
  answers = by result after.answers;
}
  where
    by : (result : Result B DecodeError) → AnswersNoting step IsSo after.bytes after.notes result
        → AnswersNoting (noting notes step) IsSo after.bytes (notes ++ after.notes) result
    by (Ok answer) answers = (
      answers.0,
      answers.1,
      λ rest. ap (λ (r : Noted D A). (notes ++ r.0, r.1)) (answers.2 rest),
    )
    by (Err error) answers = λ rest none. ap (λ (r : Noted D A). (notes ++ r.0, r.1)) (answers rest none)

-- a step that answers a value at once
pub noting_value : {D A C T : Type 0} (step : List ℕ → Reading A) (value : A) (next : A → Noting D C)
    {Then : C → T → Type 0} {old new : ReaderState} {s0 s1 : SinkState D} (result : Result T DecodeError)
    → ((bytes : List ℕ) → step bytes ≡ Ok (value, bytes)) → FollowsNoting (next value) Then old new s0 s1 result
    → FollowsNoting (silent step >> next) Then old new s0 s1 result
noting_value {A = A} step value next {old = old} result same second =
    noting_seen {B = A} next {view = λ v. v} {answer = value} result
    (noting_silent (Ok value) (record {
      bytes = [];
      passes = Passes-none old;
      counts = refl;
      answers =
          (value, refl, same);
    })) second

-- a step that refuses at once
pub noting_refused : {D A C T : Type 0} (step : List ℕ → Reading A) (error : DecodeError) (next : A → Noting D C)
    {Then : C → T → Type 0} {state : ReaderState} {sink : SinkState D} → error ≢ ExhaustedInput
    → ((bytes : List ℕ) → step bytes ≡ Err (error, bytes))
    → FollowsNoting (silent step >> next) Then state state sink sink (Err error)
noting_refused step error next {state = state} {sink = sink} other same = record {
  bytes = [];
  notes = [];
  passes = Passes-none state;
  counts = record { counted = λ e. absurd (other e); uncounted = λ e. refl };
  records = Records-none sink;
  answers = λ rest none. ap (λ r. go_on [] r next) (same rest);
}

-- a value that is turned into one more
pub noting_map : {D A B C : Type 0} {step : Noting D A} (f : A → C) {IsSo : A → B → Type 0} {Wider : C → B → Type 0}
    {old new : ReaderState} {s0 s1 : SinkState D} (result : Result B DecodeError)
    → ((value : A) (answer : B) → IsSo value answer → Wider (f value) answer)
    → FollowsNoting step IsSo old new s0 s1 result
    → FollowsNoting (step >> (λ value. silent (λ bytes. Ok (f value, bytes)))) Wider old new s0 s1 result
noting_map {D} f {Wider = Wider} {new = new} {s1 = s1} (Ok answer) wider first =
    noting_then _ _ first (λ value so. noting_silent _
    (record {
      bytes = [];
      passes = Passes-none new;
      counts = refl;
      answers =
          (f value, wider value answer so, λ rest. refl);
    }))
noting_map f (Err error) wider first = noting_fails _ _ (refl, refl) first

-- ---- without the notes

-- what the step answers is what the other answers
pub record Erases {D A : Type 0} (noted : Noting D A) (plain : List ℕ → Reading A) : Type 0 where
  pub same : (bytes : List ℕ) → (noted bytes).1 ≡ plain bytes

pub erases_silent : {D A : Type 0} (step : List ℕ → Reading A) → Erases {D = D} (silent step) step
erases_silent step = record { same = λ bytes. refl }

pub erases_noted : {D A : Type 0} (notes : List (Triple D)) (step : Noting D A) (plain : List ℕ → Reading A)
    → Erases step plain → Erases (noting notes step) plain
erases_noted notes step plain after = record { same = λ bytes. after.same bytes }

pub erases_then : {D A B : Type 0} (noted : Noting D A) (plain : List ℕ → Reading A) (next : A → Noting D B)
    (plain_next : A × List ℕ → Reading B) → Erases noted plain
    → ((value : A) → Erases (next value) (λ bytes. plain_next (value, bytes)))
    → Erases (noted >> next) (λ bytes. plain bytes >>= plain_next)
erases_then {D} {A} {B} noted plain next plain_next one two =
    record { same = λ bytes. by (noted bytes).0 (noted bytes).1 (plain bytes) (one.same bytes) }
  where
    by : (notes : List (Triple D)) (reading other : Reading A) → reading ≡ other
        → (go_on notes reading next).1 ≡ (other >>= plain_next)
    by notes (Ok read) other e = (two read.0).same read.1 ∙ ap (λ r. r >>= plain_next) e
    by notes (Err error) other e = ap (λ (r : Reading A). r >>= plain_next) e

module _ {D A B : Type 0} {noted : Noting D A} {IsSo : A → B → Type 0} {old new : ReaderState} {s0 s1 : SinkState D}
  where
    -- a call that follows a step with notes follows it without them
    pub follows_erased : {plain : List ℕ → Reading A} (result : Result B DecodeError) → Erases noted plain
        → FollowsNoting noted IsSo old new s0 s1 result → Follows plain IsSo old new result
    follows_erased {plain} result erases f =
        record { bytes = f.bytes; passes = f.passes; counts = f.counts; answers = by result f.answers }
      where
        by : (result : Result B DecodeError) → AnswersNoting noted IsSo f.bytes f.notes result
            → Answers plain IsSo f.bytes result
        by (Ok answer) answers = (
          answers.0,
          answers.1,
          λ rest. sym (erases.same (f.bytes ++ rest)) ∙ ap (λ (r : Noted D A). r.1) (answers.2 rest),
        )
        by (Err error) answers = λ rest none. sym (erases.same (f.bytes ++ rest))
            ∙ ap (λ (r : Noted D A). r.1) (answers rest none)

    -- the notes are those of the step over the bytes that were taken
    pub notes_taken : (result : Result B DecodeError) → (f : FollowsNoting noted IsSo old new s0 s1 result)
        → f.notes ≡ (noted f.bytes).0
    notes_taken (Ok answer) f = sym (ap (λ bytes. (noted bytes).0) (sym (append-nil f.bytes))
        ∙ ap (λ (r : Noted D A). r.0) (f.answers.2 []))
    notes_taken (Err error) f = sym (ap (λ bytes. (noted bytes).0) (sym (append-nil f.bytes))
        ∙ ap (λ (r : Noted D A). r.0) (f.answers [] (λ e. refl)))
