-- Lemmas for calls that follow steps, and for what they say to their callers; no contract cites them.
use Rattle.std.proofs.Common.{◌≡◌, ◌≢◌, Bool, true, false, if◌then◌else◌, ◌∙◌, ap, sym, subst, ℕ, ◌≤◌, List, [], ◌∷◌}
use Rattle.std.proofs.Common.{◌++◌, length, Option, Some, None, Result, Ok, Err, IsErr, refl, append_assoc, append-nil}
use Rattle.std.proofs.Common.{arith}
use Rattle.std.specs.Prelude.{IsOk}
use Rattle.std.specs.Result.{IsErrAnd}
use Rattle.std.specs.Io.KnownBytes.{prepend_known}
use Rattle.x86_operand.specs.declared.error.DecodeError.{DecodeError}
use Rattle.x86_operand.specs.declared.error.DecodeError.TheVariants.{ExhaustedInput}
use Rattle.x86_reader.specs.Reader.{ReaderState, Takes, Stops, Passes, ChangesOnlyCount, CountsRefusal}
use Rattle.x86_reader.specs.Reader.Lemmas.{Passes-none, Passes-trans, Passes-refused, Stops-slice}
use Rattle.x86_reader.specs.SliceReader.{slice_state}
use Rattle.x86_address.specs.Reading.{Reading, ◌>>=◌, take_byte}
use Rattle.x86_address.specs.Most.{left_by, TakesAtMost}
use Rattle.x86_address.specs.Follows.{Same, Any, Answers, Counts, Follows, Decides, Rises, OverTold, OverSlice}
use Rattle.x86_address.specs.Follows.{Completes}

-- ---- one step

-- a byte is given
pub follows_byte : {old new : ReaderState} {byte : ℕ} → Takes old new (byte ∷ [])
    → Follows take_byte Same old new (Ok byte)
follows_byte {byte = byte} taken = record {
  bytes = byte ∷ [];
  passes = taken.passes;
  counts = taken.uncounted;
  answers = (byte, refl, λ rest. refl);
}

-- or refused
pub lacks_byte : {old new : ReaderState} → ChangesOnlyCount old new → CountsRefusal old new
    → Follows {B = ℕ} take_byte Same old new (Err ExhaustedInput)
lacks_byte unchanged counted = record {
  bytes = [];
  passes = Passes-refused unchanged;
  counts = record { counted = λ e. counted; uncounted = λ e. absurd (e refl) };
  answers = λ rest none. rw (none refl) refl;
}

-- a step that reads nothing and answers
pub follows_ok : {A B : Type 0} {IsSo : A → B → Type 0} {state : ReaderState} {value : A} {answer : B}
    → IsSo value answer → Follows (λ bytes. Ok (value, bytes)) IsSo state state (Ok answer)
follows_ok {state = state} {value = value} so = record {
  bytes = [];
  passes = Passes-none state;
  counts = refl;
  answers = (value, so, λ rest. refl);
}

-- a step that reads nothing and refuses
pub follows_err : {A B : Type 0} {IsSo : A → B → Type 0} {state : ReaderState} {error : DecodeError}
    → error ≢ ExhaustedInput → Follows {A = A} (λ bytes. Err (error, bytes)) IsSo state state (Err error)
follows_err {state = state} other = record {
  bytes = [];
  passes = Passes-none state;
  counts = record { counted = λ e. absurd (other e); uncounted = λ e. refl };
  answers = λ rest none. refl;
}

-- a call that reads nothing
pub follows_decided : {A B : Type 0} {step : List ℕ → Reading A} {IsSo : A → B → Type 0} {state : ReaderState}
    (result : Result B DecodeError) → Decides step IsSo result → Follows step IsSo state state result
follows_decided {state = state} (Ok answer) decides = record {
  bytes = [];
  passes = Passes-none state;
  counts = refl;
  answers = decides.answers;
}
follows_decided {state = state} (Err error) decides = record {
  bytes = [];
  passes = Passes-none state;
  counts = record { counted = λ e. absurd (decides.other (ap Err e)); uncounted = λ e. refl };
  answers = decides.answers;
}

-- another step that answers as this does, and a wider relation
pub follows_as : {A B : Type 0} {step other : List ℕ → Reading A} {IsSo Wider : A → B → Type 0} {old new : ReaderState}
    (result : Result B DecodeError) → ((bytes : List ℕ) → other bytes ≡ step bytes)
    → ((value : A) (answer : B) → IsSo value answer → Wider value answer) → Follows step IsSo old new result
    → Follows other Wider old new result
follows_as {A} {B} {step} {other} {IsSo} {Wider} result same wider follows = record {
  bytes = follows.bytes;
  passes = follows.passes;
  counts = follows.counts;
  answers = by result follows.answers;
}
  where
    by : (result : Result B DecodeError) → Answers step IsSo follows.bytes result
        → Answers other Wider follows.bytes result
    by (Ok answer) answers = (
      answers.0,
      wider answers.0 answer answers.1,
      λ rest. same (follows.bytes ++ rest) ∙ answers.2 rest,
    )
    by (Err error) answers = λ rest none. same (follows.bytes ++ rest) ∙ answers rest none

-- an answer that is turned into another, which is so of the value that the step answers
pub follows_answered : {A B C : Type 0} {step : List ℕ → Reading A} {IsSo : A → B → Type 0} {Wider : A → C → Type 0}
    {old new : ReaderState} {answer : B} {turned : C} → (f : Follows step IsSo old new (Ok answer))
    → Wider f.answers.0 turned → Follows step Wider old new (Ok turned)
follows_answered f so = record {
  bytes = f.bytes;
  passes = f.passes;
  counts = f.counts;
  answers = (f.answers.0, so, f.answers.2);
}

-- a value that is turned into one more
pub follows_map : {A B C : Type 0} {step : List ℕ → Reading A} (f : A → C) {IsSo : A → B → Type 0}
    {Wider : C → B → Type 0} {old new : ReaderState} (result : Result B DecodeError)
    → ((value : A) (answer : B) → IsSo value answer → Wider (f value) answer) → Follows step IsSo old new result
    → Follows (λ bytes. step bytes >>= (λ read. Ok (f read.0, read.1))) Wider old new result
follows_map {A} {B} {C} {step} f {IsSo} {Wider} result wider follows = record {
  bytes = follows.bytes;
  passes = follows.passes;
  counts = follows.counts;
  answers = by result follows.answers;
}
  where
    by : (result : Result B DecodeError) → Answers step IsSo follows.bytes result
        → Answers (λ bytes. step bytes >>= (λ read. Ok (f read.0, read.1))) Wider follows.bytes result
    by (Ok answer) answers = (f answers.0, wider answers.0 answer answers.1, λ rest. rw (answers.2 rest) refl)
    by (Err error) answers = λ rest none. rw (answers rest none) refl

-- one step or another
pub follows_true : {A B : Type 0} (one other : List ℕ → Reading A) {IsSo : A → B → Type 0} {old new : ReaderState}
    {result : Result B DecodeError} (test : Bool) → test ≡ true → Follows one IsSo old new result
    → Follows (λ bytes. if test then one bytes else other bytes) IsSo old new result
follows_true one other true e follows = follows
follows_true one other false e follows = cc

pub follows_false : {A B : Type 0} (one other : List ℕ → Reading A) {IsSo : A → B → Type 0} {old new : ReaderState}
    {result : Result B DecodeError} (test : Bool) → test ≡ false → Follows other IsSo old new result
    → Follows (λ bytes. if test then one bytes else other bytes) IsSo old new result
follows_false one other true e follows = cc
follows_false one other false e follows = follows

-- ---- one step after another

-- counts after a step that counted none
counts_after : {B : Type 0} (old mid new : ReaderState) (result : Result B DecodeError) → mid.refusals ≡ old.refusals
    → Counts mid new result → Counts old new result
counts_after old mid new (Ok answer) same counts = counts ∙ same
counts_after old mid new (Err error) same counts = record {
  counted = λ e. rw (← same) (counts.counted e);
  uncounted = λ e. counts.uncounted e ∙ same;
}

module _ {A C D : Type 0} (step : List ℕ → Reading A) (next : A × List ℕ → Reading C) (Then : C → D → Type 0) where
  answers_after : {value : A} (one two : List ℕ) (result : Result D DecodeError)
      → ((rest : List ℕ) → step (one ++ rest) ≡ Ok (value, rest))
      → Answers (λ bytes. next (value, bytes)) Then two result
      → Answers (λ bytes. step bytes >>= next) Then (one ++ two) result
  answers_after one two (Ok answer) first second =
      (second.0, second.1, λ rest. rw (append_assoc one two rest, first (two ++ rest)) (second.2 rest))
  answers_after one two (Err error) first second =
      λ rest none. rw (append_assoc one two rest, first (two ++ rest)) (second rest none)

module _ {A B C D : Type 0} {step : List ℕ → Reading A} (next : A × List ℕ → Reading C) {IsSo : A → B → Type 0}
    {Then : C → D → Type 0} where
  -- the first answers
  pub follows_then : {old mid new : ReaderState} {answer : B} (result : Result D DecodeError)
      → Follows step IsSo old mid (Ok answer)
      → ((value : A) → IsSo value answer → Follows (λ bytes. next (value, bytes)) Then mid new result)
      → Follows (λ bytes. step bytes >>= next) Then old new result
  follows_then {old} {mid} {new} result first second =
      let after = second first.answers.0 first.answers.1 in
      record {
        bytes = first.bytes ++ after.bytes;
        passes = Passes-trans first.passes after.passes;
        counts = counts_after old mid new result first.counts after.counts;
        answers = answers_after step next Then first.bytes after.bytes result first.answers.2 after.answers;
      }

  -- the first fails
  fails_with : {old new : ReaderState} {error : DecodeError} → Follows step IsSo old new (Err error)
      → Follows (λ bytes. step bytes >>= next) Then old new (Err error)
  fails_with first = record {
    bytes = first.bytes;
    passes = first.passes;
    counts = first.counts;
    answers = λ rest none. rw (first.answers rest none) refl;
  }

  -- and its error is given again, by `?`
  pub fails_first : {old new : ReaderState} {error : DecodeError} (result : Result D DecodeError)
      → IsErr result × IsErrAnd result (λ e. e ≡ error) → Follows step IsSo old new (Err error)
      → Follows (λ bytes. step bytes >>= next) Then old new result
  fails_first {old} {new} (Err e) is first =
      subst (λ e. Follows (λ bytes. step bytes >>= next) Then old new (Err e)) (sym is.1) (fails_with first)
  fails_first (Ok answer) is first = cc

-- the first answers a view of the value that the step answers
pub follows_seen : {A B C D : Type 0} {step : List ℕ → Reading A} (next : A × List ℕ → Reading C)
    {Then : C → D → Type 0} {view : B → A} {old mid new : ReaderState} {answer : B} (result : Result D DecodeError)
    → Follows step (λ value answer. view answer ≡ value) old mid (Ok answer)
    → Follows (λ bytes. next (view answer, bytes)) Then mid new result
    → Follows (λ bytes. step bytes >>= next) Then old new result
follows_seen next {Then = Then} {mid = mid} {new = new} result first second =
    follows_then next result first (λ value so. subst
    (λ value. Follows (λ bytes. next (value, bytes)) Then mid new result) so second)

-- the first is a check that passed
pub follows_checked : {B C D : Type 0} {step : List ℕ → Reading (Unit {0})} (next : Unit {0} × List ℕ → Reading C)
    {Then : C → D → Type 0} {old new : ReaderState} {answer : B} (result : Result D DecodeError)
    → Decides step Any (Ok answer) → Follows (λ bytes. next (tt, bytes)) Then old new result
    → Follows (λ bytes. step bytes >>= next) Then old new result
follows_checked next result decides second = follows_then next result (follows_decided _ decides) (λ value is. second)

-- a reader that comes from a call that leaves all as it was, as a mark that was at 0
pub follows_from : {A B : Type 0} {step : List ℕ → Reading A} {IsSo : A → B → Type 0} {other old new : ReaderState}
    {result : Result B DecodeError} → other ≡ old → Follows step IsSo other new result
    → Follows step IsSo old new result
follows_from {step = step} {IsSo = IsSo} {new = new} {result = result} same follows =
    subst (λ s. Follows step IsSo s new result) same follows

-- ---- what it says to a caller

-- the bytes that the reader gave stood first in those that it told
stood_first : (bytes left : List ℕ) (known : Option (List ℕ)) → Some left ≡ prepend_known bytes known
    → (rest : List ℕ) × (left ≡ bytes ++ rest) × (known ≡ Some rest)
stood_first bytes left None e = cc
stood_first bytes left (Some rest) e = (rest, cc, refl)

stood : {old new : ReaderState} {bytes : List ℕ} (left : List ℕ) → Passes old new bytes → old.left ≡ Some left
    → (rest : List ℕ) × (left ≡ bytes ++ rest) × (new.left ≡ Some rest)
stood {old} {new} {bytes} left passes told = stood_first bytes left new.left (sym told ∙ passes.left)

module _ {A B : Type 0} {step : List ℕ → Reading A} {IsSo : A → B → Type 0} {old new : ReaderState} where
  -- the step takes all the bytes that the reader gave
  pub takes_all : (answer : B) (f : Follows step IsSo old new (Ok answer)) → step f.bytes ≡ Ok (f.answers.0, [])
  takes_all answer f = ap step (sym (append-nil f.bytes)) ∙ f.answers.2 []

  -- and fails at their end
  pub fails_at_end : (error : DecodeError) (f : Follows step IsSo old new (Err error)) → step f.bytes ≡ Err (error, [])
  fails_at_end error f = ap step (sym (append-nil f.bytes)) ∙ f.answers [] (λ e. refl)

  -- none is left by it
  none_left : (result : Result B DecodeError) (f : Follows step IsSo old new result) → left_by (step f.bytes) ≡ []
  none_left (Ok answer) f = rw (takes_all answer f) refl
  none_left (Err error) f = rw (fails_at_end error f) refl

  -- they are no more than the step takes at most
  pub most_taken : (n : ℕ) → TakesAtMost n step
      → (result : Result B DecodeError) (f : Follows step IsSo old new result) → length f.bytes ≤ n
  most_taken n most result f =
      let none : length (left_by (step f.bytes)) ≡ 0 = ap length (none_left result f) in
      omega (arith, most.within f.bytes)

  -- both numbers rise by how many they are
  pub rises : (n : ℕ) → TakesAtMost n step → (result : Result B DecodeError) → Follows step IsSo old new result
      → Rises n old new
  rises n most result f = (length f.bytes, most_taken n most result f, f.passes.total, f.passes.since_mark)

  -- over bytes that the reader tells
  pub over_told : (result : Result B DecodeError) → Follows step IsSo old new result → OverTold step IsSo old new result
  over_told (Ok answer) f left told =
      let at = stood left f.passes told in
      (f.answers.0, at.0, f.answers.1, ap step at.1 ∙ f.answers.2 at.0, at.2)
  over_told (Err error) f left told = λ other.
      let at = stood left f.passes told in
      (at.0, ap step at.1 ∙ f.answers at.0 (λ e. absurd (other e)), at.2)

  -- a reader that tells its bytes and counts no refusal
  pub completes : (result : Result B DecodeError) → Follows step IsSo old new result → Completes step old new result
  completes (Ok answer) f left told ok uncounted = refl
  completes (Err error) f left told ok uncounted =
      let fails = over_told (Err error) f left told (λ e. uncounted (f.counts.counted e)) in
      let both : IsOk {T = A × List ℕ} {E = DecodeError × List ℕ} (Err (error, fails.0)) = subst IsOk fails.1 ok in
      cc

some_same : {xs ys : List ℕ} → Some xs ≡ Some ys → xs ≡ ys
some_same e = cc

-- over a `U8Reader`
pub over_slice : {A B : Type 0} {step : List ℕ → Reading A} {IsSo : A → B → Type 0} {old new : ReaderState}
    (result : Result B DecodeError) → Follows step IsSo old new result → OverSlice step IsSo old new result
over_slice {step = step} (Ok answer) f before after is_old is_new =
    let at = stood before.left f.passes (ap (λ s. s.left) is_old) in
    let same : at.0 ≡ after.left = some_same (sym at.2 ∙ ap (λ s. s.left) is_new) in
    (f.answers.0, f.answers.1, ap step at.1 ∙ f.answers.2 at.0 ∙ ap (λ rest. Ok (f.answers.0, rest)) same)
over_slice {step = step} {old = old} {new = new} (Err error) f before after is_old is_new =
    let at = stood before.left f.passes (ap (λ s. s.left) is_old) in
    let same : at.0 ≡ after.left = some_same (sym at.2 ∙ ap (λ s. s.left) is_new) in
    ap step (at.1 ∙ ap (λ rest. f.bytes ++ rest) same)
    ∙ f.answers after.left (λ e. (Stops-slice before after f.bytes
    (subst (λ s. Stops s (slice_state after) f.bytes) is_old
    (subst (λ s. Stops old s f.bytes) is_new (record { passes = f.passes; counted = f.counts.counted e })))).1)
