-- A piece of the input, line by line.
use Rattle.std.proofs.Common.{true, ◌≡◌, ℕ, ◌+◌, ◌<◌, List, [], ◌∷◌, ◌++◌, length, get_or, take, drop, eqb, Option}
use Rattle.std.proofs.Common.{Some, None, Err, append_assoc, sym, subst, ap, ◌∙◌, refl, inl, inr, arith}
use Rattle.std.specs.Prelude.{IsSomeAnd}
use Rattle.std.proofs.lemmas.List.{append-nil, take-append-drop, take_more}
use Rattle.std.proofs.Math.Seq.{take-length}
use Rattle.std.proofs.lemmas.Bool.{eqb-true}
use Rattle.memchr.specs.Find.{IsFirstByte, is_byte}
use Rattle.std.specs.Io.KnownBytes.{Appends, Keeps}
use Rattle.vex_lines.specs.declared.stop.Stop.{Stop}
use Rattle.vex_lines.specs.Ends.{AppendsFront, RoseOrIsLast}
use Rattle.vex_lines.specs.Internal.Stops.{Answers, IsStopped}
use Rattle.vex_lines.specs.Internal.LineMachine.{EndedBefore, appended, kept_report, line_after, ended}
use Rattle.vex_lines.specs.Ends.Lemmas.{Appends-keeps, Appends-none, Appends-then, AppendsFront-keeps}
use Rattle.vex_lines.specs.Ends.Lemmas.{AppendsFront-then, AppendsFront-more}
use Rattle.vex_lines.proofs.EndsLemmas.{Answers-fault}
use Rattle.vex_lines.proofs.LineMachineLemmas.{NoEnd, NoEnd-take, line_after-append, line_after-inside, line_after-line}
use Rattle.vex_lines.proofs.LineMachineLemmas.{ended-append, ended-inside, ended-line}

-- what a sink tells: its bytes and its count of faults
pub record Told : Type 0 where
  pub text : Option (List ℕ)
  pub faults : ℕ

-- the bytes of the front were taken, from a line and a sink as these were first to what they are now
pub record Fed (f : List ℕ → List ℕ) (first : Option (List ℕ)) (sink : Told) (front : List ℕ) (line : Option (List ℕ))
    (now : Told) : Type 0 where
  pub kept : line ≡ line_after first front
  pub written : Appends sink.text now.text (ended f first front)
  pub quiet : now.faults ≡ sink.faults

module _ (f : List ℕ → List ℕ) (first : Option (List ℕ)) (sink : Told) where
  pub Fed-none : Fed f first sink [] first sink
  unfolding line_after ended
  Fed-none = record { kept = refl; written = Appends-none sink.text; quiet = refl }

  -- what was written, with what more bytes give
  ended-more : (front : List ℕ) (line : Option (List ℕ)) (bytes : List ℕ) → line ≡ line_after first front
      → ended f first (front ++ bytes) ≡ ended f first front ++ ended f line bytes
  ended-more front line bytes kept =
      ended-append f first front bytes ∙ ap (λ k. ended f first front ++ ended f k bytes) (sym kept)

  pub Fed-more : (front : List ℕ) (line next : Option (List ℕ)) (now new : Told) (bytes : List ℕ)
      → Fed f first sink front line now
      → next ≡ line_after line bytes → Appends now.text new.text (ended f line bytes) → new.faults ≡ now.faults
      → Fed f first sink (front ++ bytes) next new
  Fed-more front line next now new bytes fed kept written quiet = record {
    kept = kept ∙ ap (λ k. line_after k bytes) fed.kept ∙ sym (line_after-append first front bytes);
    written = rw (ended-more front line bytes fed.kept)
        (Appends-then sink.text now.text new.text _ _ fed.written written);
    quiet = quiet ∙ fed.quiet;
  }

  -- a write failed at some bytes of the piece
  Fed-fault : (front piece bytes rest : List ℕ) (line : Option (List ℕ)) (now : Told) (new : Option (List ℕ))
      → Fed f first sink front line now
      → piece ≡ (front ++ bytes) ++ rest → AppendsFront now.text new (ended f line bytes)
      → AppendsFront sink.text new (ended f first piece)
  Fed-fault front piece bytes rest line now new fed split written =
      rw (split, ended-append f first (front ++ bytes) rest, ended-more front line bytes fed.kept)
      (AppendsFront-more sink.text new _ _ (AppendsFront-then sink.text now.text new _ _ fed.written written))

-- a list round its element at i
split_at : (xs : List ℕ) (i : ℕ) → i < length xs → xs ≡ (take i xs ++ get_or xs i 0 ∷ []) ++ drop (i + 1) xs
split_at xs i h = sym (take-append-drop (i + 1) xs) ∙ ap (λ t. t ++ drop (i + 1) xs) (take_more xs i 0 h)

-- a piece was taken up to what is left of it
pub record FedUpTo (f : List ℕ → List ℕ) (first : Option (List ℕ)) (sink : Told) (piece rest : List ℕ)
    (line : Option (List ℕ)) (now : Told) : Type 0 where
  pub front : List ℕ
  pub split : piece ≡ front ++ rest
  pub fed : Fed f first sink front line now

-- where the first line end is in some bytes
pub record EndsAt (bytes : List ℕ) (at : ℕ) : Type 0 where
  pub within : at < length bytes
  pub is_end : eqb (get_or bytes at 0) 10 ≡ true
  pub before : NoEnd (take at bytes)

-- as a search for it says
pub EndsAt-found : (bytes : List ℕ) (at : ℕ) → IsFirstByte (is_byte 10) bytes (Some at) → EndsAt bytes at
EndsAt-found bytes at found = record {
  within = found.0.high;
  is_end = found.1;
  before = NoEnd-take bytes at (λ i below. found.0.before i (omega arith) below);
}

-- where a search finds none
pub NoEnd-not_found : (bytes : List ℕ) → IsFirstByte (is_byte 10) bytes None → NoEnd bytes
NoEnd-not_found bytes none =
    subst NoEnd (take-length bytes) (NoEnd-take bytes (length bytes) (λ i below. none i (omega arith) below))

module _ (f : List ℕ → List ℕ) (first : Option (List ℕ)) (sink : Told) (piece rest : List ℕ) (line : Option (List ℕ))
    (now : Told)
    (so_far : FedUpTo f first sink piece rest line now) where
  -- the piece, round the bytes up to a line end
  split-line : (at : ℕ) → at < length rest
      → piece ≡ (so_far.front ++ (take at rest ++ get_or rest at 0 ∷ [])) ++ drop (at + 1) rest
  split-line at within =
      so_far.split ∙ ap (λ t. so_far.front ++ t) (split_at rest at within)
      ∙ sym (append_assoc so_far.front (take at rest ++ get_or rest at 0 ∷ []) (drop (at + 1) rest))

  -- a line was ended, and answered
  pub FedUpTo-line : (at : ℕ) (next : Option (List ℕ)) (new : Told) → EndsAt rest at → next ≡ Some []
      → Appends now.text new.text (kept_report f (appended line (take at rest))) → new.faults ≡ now.faults
      → FedUpTo f first sink piece (drop (at + 1) rest) next new
  FedUpTo-line at next new ends empty written quiet =
      let b = get_or rest at 0 in
      record {
        front = so_far.front ++ (take at rest ++ b ∷ []);
        split = split-line at ends.within;
        fed = Fed-more f first sink so_far.front line next now new (take at rest ++ b ∷ []) so_far.fed
            (empty ∙ sym (line_after-line line (take at rest) b ends.is_end))
            (rw (ended-line f line (take at rest) b ends.before ends.is_end) written) quiet;
      }

  -- the rest ends no line
  pub FedUpTo-rest : (next : Option (List ℕ)) → NoEnd rest → next ≡ appended line rest → Fed f first sink piece next now
  FedUpTo-rest next none more =
      rw (so_far.split)
      (Fed-more f first sink so_far.front line next now now rest so_far.fed
      (more ∙ sym (line_after-inside line rest none))
      (rw (ended-inside f line rest none) (Appends-none now.text)) refl)

  -- the report of a line of the piece wasn't written
  pub FedUpTo-stopped : (P : List ℕ → Type 0) (at : ℕ) (new : Option (List ℕ)) (after : ℕ) (stop : Stop)
      → EndsAt rest at
      → Answers (λ written. (written ≡ []) × IsSomeAnd (appended line (take at rest)) P) (Err stop) now.text new
      now.faults after
      (kept_report f (appended line (take at rest)))
      → Answers (λ written. EndedBefore f P first piece written) (Err stop) sink.text new sink.faults after
      (ended f first piece)
  FedUpTo-stopped P at new after stop ends h =
      let b = get_or rest at 0 in
      let fed = so_far.fed in
      let split = split-line at ends.within in record {
        appends = tt;
        quiet = tt;
        front = λ is.
            Fed-fault f first sink so_far.front piece (take at rest ++ b ∷ []) (drop (at + 1) rest) line now new fed
            split
            (rw (ended-line f line (take at rest) b ends.before ends.is_end) (h.front is));
        cause = λ is. rw fed.quiet at (h.cause is);
        lacked = λ is.
            let lacked = h.lacked is in
            let nothing : Appends now.text new [] = subst (λ t. Appends now.text new t) lacked.1.0 lacked.2 in (
              ended f first so_far.front,
              record {
                front = so_far.front ++ take at rest;
                rest = drop (at + 1) rest;
                split =
                    so_far.split ∙ ap (λ t. so_far.front ++ t) (split_at rest at ends.within)
                    ∙ ap (λ t. so_far.front ++ t) (append_assoc (take at rest) (b ∷ []) (drop (at + 1) rest))
                    ∙ sym (append_assoc so_far.front (take at rest) (b ∷ drop (at + 1) rest))
                    ∙ ap (λ e. (so_far.front ++ take at rest) ++ e ∷ drop (at + 1) rest) (eqb-true b 10 ends.is_end);
                line = subst (λ k. IsSomeAnd k P)
                    (sym (line_after-inside line (take at rest) ends.before)
                    ∙ ap (λ k. line_after k (take at rest)) fed.kept
                    ∙ sym (line_after-append first so_far.front (take at rest))) lacked.1.1;
                gives = sym (ended-more f first sink so_far.front line (take at rest) fed.kept
                    ∙ ap (λ t. ended f first so_far.front ++ t) (ended-inside f line (take at rest) ends.before)
                    ∙ append-nil (ended f first so_far.front));
              },
              rw append-nil at (Appends-then sink.text now.text new (ended f first so_far.front) [] fed.written
                  nothing),
            );
        lacked_quiet = λ is. h.lacked_quiet is ∙ fed.quiet;
      }

-- what was written before a line that there was no memory for is a front of what all lines give
ended-before : (f : List ℕ → List ℕ) (P : List ℕ → Type 0) (line : Option (List ℕ)) (piece written : List ℕ)
    → EndedBefore f P line piece written
    → (back : List ℕ) × (ended f line piece ≡ written ++ back)
ended-before f P line piece written h = (
  ended f (line_after line h.front) (10 ∷ h.rest),
  ap (ended f line) h.split ∙ ended-append f line h.front (10 ∷ h.rest)
      ∙ ap (λ t. t ++ ended f (line_after line h.front) (10 ∷ h.rest)) (sym h.gives),
)

-- the answers before a line that there was no memory for were handed on, or that failed
pub Fed-stopped-handed_on : (f : List ℕ → List ℕ) (P : List ℕ → Type 0) (line : Option (List ℕ)) (piece : List ℕ)
    (stop result : Stop)
    (old mid new : Option (List ℕ)) (before between after : ℕ)
    → Answers (λ written. EndedBefore f P line piece written) (Err stop) old mid before between (ended f line piece)
    → Keeps mid new → IsStopped stop result between after
    → Answers (λ written. EndedBefore f P line piece written) (Err result) old new before after (ended f line piece)
Fed-stopped-handed_on f P line piece stop result old mid new before between after h keeps (inl same) = record {
  appends = tt;
  quiet = tt;
  front = λ is. AppendsFront-keeps old mid new _ (h.front (ap Err (sym same.0) ∙ is)) keeps;
  cause = λ is. subst (λ n. RoseOrIsLast before n) (sym same.1) (h.cause (ap Err (sym same.0) ∙ is));
  lacked = λ is.
      let lacked = h.lacked (ap Err (sym same.0) ∙ is) in
      (lacked.0, lacked.1, Appends-keeps old mid new lacked.0 lacked.2 keeps);
  lacked_quiet = λ is. same.1 ∙ h.lacked_quiet (ap Err (sym same.0) ∙ is);
}
Fed-stopped-handed_on f P line piece stop result old mid new before between after h keeps (inr failed) =
    let is = ap Err failed.0 in
    let lacked = h.lacked is in
    let written = Appends-keeps old mid new lacked.0 lacked.2 keeps in
    let cause = subst (λ n. RoseOrIsLast n after) (h.lacked_quiet is) failed.2 in
    let front = ended-before f P line piece lacked.0 lacked.1 in
    rw (failed.1)
    (Answers-fault _ old new before after (ended f line piece)
    (record { front = lacked.0; back = front.0; split = front.1; appended = written }) cause)
