-- The loop over the input: what is so between two reads, and how each end follows from it.
use Rattle.std.proofs.Common.{◌≡◌, ℕ, ◌+◌, ◌-◌, ◌<◌, ◌≤◌, ◌≢◌, List, [], ◌∷◌, ◌++◌, length, take, Option, Some, Err}
use Rattle.std.proofs.Common.{append_assoc, subst, sym, ap, ◌∙◌, refl, inl, inr, arith}
use Rattle.std.specs.Prelude.{IsSomeAnd}
use Rattle.std.specs.Io.KnownBytes.{Appends, Consumes, Keeps, IsAtEnd}
use Rattle.std.specs.List.{flat_map}
use Rattle.std.proofs.lemmas.Bool.{cases_lt}
use Rattle.std.proofs.lemmas.List.{append-nil, length-append, length-take-le, take_at}
use Rattle.vex_lines.specs.declared.stop.Stop.{Stop}
use Rattle.vex_lines.specs.declared.stop.Stop.TheVariants as stop
use Rattle.vex_lines.specs.declared.status.Status.TheVariants.{Done, ReadFault, WriteFault, NoMemory, TooLong}
use Rattle.vex_lines.specs.Ends.{AppendsFront, RoseOrIsLast, counted}
use Rattle.vex_lines.specs.Internal.Stops.{Answers}
use Rattle.vex_lines.specs.Lines.{input_limit, lines, whole}
use Rattle.vex_lines.specs.Internal.LineMachine.{EndedBefore, line_after, ended, last}
use Rattle.vex_lines.specs.Internal.Run.{Moment, Ran}
use Rattle.vex_lines.specs.Internal.Stops.{status_of_stop}
use Rattle.vex_lines.specs.Ends.Lemmas.{Appends-keeps, Appends-none, Appends-then, AppendsFront-all, AppendsFront-then}
use Rattle.vex_lines.specs.Ends.Lemmas.{AppendsFront-more, Consumes-none, Consumes-then, Consumes-keeps}
use Rattle.vex_lines.proofs.LineMachineLemmas.{SameForLong, begun-is, begun_line, ended-append, ended_lines}
use Rattle.vex_lines.proofs.LineMachineLemmas.{line_after-append, lines-ended, lines-last, output-ended}
use Rattle.vex_lines.proofs.LineMachineLemmas.{output-ended_lines, output-whole}

-- between two reads: what was taken so far, how much room there is to the limit, and what is kept of the
-- unfinished line
pub record Going (f : List ℕ → List ℕ) (before : Moment) (line : Option (List ℕ)) (room : ℕ) (now : Moment) : Type 0
  where
    pub front : List ℕ
    pub taken : Consumes before.left now.left front
    pub start : length front ≡ 0 → now.given ≡ before.given
    pub number : 0 < length front → now.given ≡ counted before.given (length front)
    pub to_limit : length front + room ≡ input_limit
    pub kept : line ≡ line_after (Some []) front
    pub written : Appends before.text now.text (ended f (Some []) front)
    pub source_quiet : now.source_faults ≡ before.source_faults
    pub sink_quiet : now.sink_faults ≡ before.sink_faults

-- a read gave a piece
pub record Gave (piece : List ℕ) (now mid : Moment) : Type 0 where
  pub taken : Consumes now.left mid.left piece
  pub number : mid.given ≡ counted now.given (length piece)
  pub source_quiet : mid.source_faults ≡ now.source_faults
  pub text : mid.text ≡ now.text
  pub sink_quiet : mid.sink_faults ≡ now.sink_faults

counted-counted : (n a b : ℕ) → counted (counted n a) b ≡ counted n (a + b)
counted-counted n a b = omega arith

module _ (f : List ℕ → List ℕ) (before : Moment) where
  pub Going-first : Going f before (Some []) input_limit before
  unfolding line_after ended
  Going-first = record {
    front = [];
    taken = Consumes-none before.left;
    start = λ _. refl;
    number = λ h. absurd (omega arith);
    to_limit = refl;
    kept = refl;
    written = Appends-none before.text;
    source_quiet = refl;
    sink_quiet = refl;
  }

  -- what the sink held back was handed on
  pub Going-handed_on : (line : Option (List ℕ)) (room : ℕ) (now : Moment) (text : Option (List ℕ)) (faults : ℕ)
      → Going f before line room now
      → Keeps now.text text → faults ≡ now.sink_faults
      → Going f before line room (record now { text = text; sink_faults = faults })
  Going-handed_on line room now text faults going keeps quiet = record {
    front = going.front;
    taken = going.taken;
    start = going.start;
    number = going.number;
    to_limit = going.to_limit;
    kept = going.kept;
    written = Appends-keeps before.text now.text text _ going.written keeps;
    source_quiet = going.source_quiet;
    sink_quiet = quiet ∙ going.sink_quiet;
  }

  module _ (P : List ℕ → Type 0) (line : Option (List ℕ)) (room : ℕ) (now : Moment)
      (going : Going f before line room now) where
    -- ---- what was taken, with one more piece

    taken-more : (piece : List ℕ) (mid : Moment) → Gave piece now mid
        → Consumes before.left mid.left (going.front ++ piece)
    taken-more piece mid gave = Consumes-then before.left now.left mid.left going.front piece going.taken gave.taken

    number-more : (piece : List ℕ) (mid : Moment) → Gave piece now mid → 0 < length (going.front ++ piece)
        → mid.given ≡ counted before.given (length (going.front ++ piece))
    number-more piece mid gave some =
        let len = length-append going.front piece in
        elim (cases_lt 0 (length going.front)) [
          | inl more ↦
              let old = going.number more in
              gave.number ∙ ap (λ n. counted n (length piece)) old
              ∙ counted-counted before.given (length going.front) (length piece)
              ∙ ap (counted before.given) (sym len)
          | inr none ↦
              let old = going.start (omega arith) in
              let same : length piece ≡ length (going.front ++ piece) = omega arith in
              gave.number ∙ ap (λ n. counted n (length piece)) old ∙ ap (counted before.given) same
        ]

    number-at_most : now.given ≤ before.given + length going.front
    number-at_most =
        elim (cases_lt 0 (length going.front)) [
          | inl more ↦ let is = going.number more in omega arith
          | inr none ↦ let is = going.start (omega arith) in omega arith
        ]

    number-at_most-more : (piece : List ℕ) (mid : Moment) → Gave piece now mid
        → mid.given ≤ before.given + length (going.front ++ piece)
    number-at_most-more piece mid gave =
        let len = length-append going.front piece in
        let so_far = number-at_most in
        let is = gave.number in
        omega arith

    written-more : (piece : List ℕ) (mid : Moment) → Gave piece now mid
        → Appends before.text mid.text (ended f (Some []) going.front)
    written-more piece mid gave = rw gave.text going.written

    ended-more : (piece : List ℕ) → ended f (Some []) (going.front ++ piece)
        ≡ ended f (Some []) going.front ++ ended f line piece
    ended-more piece =
        ended-append f (Some []) going.front piece
        ∙ ap (λ k. ended f (Some []) going.front ++ ended f k piece) (sym going.kept)

    -- ---- the piece was taken, and its lines answered

    pub Going-step : (piece : List ℕ) (mid : Moment) (next : Option (List ℕ)) (text : Option (List ℕ)) (faults : ℕ)
        → Gave piece now mid → 0 < length piece → length piece ≤ room
        → next ≡ line_after line piece → Appends mid.text text (ended f line piece) → faults ≡ mid.sink_faults
        → Going f before next (room - length piece) (record mid { text = text; sink_faults = faults })
    Going-step piece mid next text faults gave some fits kept written quiet =
        let len = length-append going.front piece in
        let limit = going.to_limit in
        record {
          front = going.front ++ piece;
          taken = taken-more piece mid gave;
          start = λ h. absurd (omega arith);
          number = number-more piece mid gave;
          to_limit = omega arith;
          kept = kept ∙ ap (λ k. line_after k piece) going.kept ∙ sym (line_after-append (Some []) going.front piece);
          written = rw (ended-more piece) (Appends-then before.text mid.text text _ _ (written-more piece mid gave)
              written);
          source_quiet = gave.source_quiet ∙ going.source_quiet;
          sink_quiet = quiet ∙ gave.sink_quiet ∙ going.sink_quiet;
        }

    -- ---- the run ends

    -- what the lines up to the last line end gave
    whole-written : (text : Option (List ℕ)) → SameForLong f → Appends before.text text (ended f (Some []) going.front)
        → Appends before.text text (flat_map f (lines (whole going.front)))
    whole-written text long written = rw (output-whole f long going.front) written

    -- what all lines give, of which the last has no end
    output-going : SameForLong f → flat_map f (lines going.front) ≡ ended f (Some []) going.front ++ last f line
    output-going long =
        output-ended f long going.front
        ∙ ap (λ k. ended f (Some []) going.front ++ last f k) (sym going.kept)

    pub Ran-read_fault : SameForLong f → (left : Option (List ℕ)) (given faults : ℕ)
        → Keeps now.left left → given ≡ now.given → RoseOrIsLast now.source_faults faults
        → Ran f P ReadFault before (record now { left = left; given = given; source_faults = faults })
    Ran-read_fault long left given faults keeps same cause =
        let limit = going.to_limit in
        record {
          bytes = going.front;
          taken = Consumes-keeps before.left now.left left going.front going.taken keeps;
          number = λ some. same ∙ going.number some;
          at_most = rw same number-at_most;
          ends = record {
            within = omega arith;
            written = whole-written now.text long going.written;
            cause = rw going.source_quiet at cause;
            sink_quiet = going.sink_quiet;
          };
        }

    pub Ran-flush_fault : SameForLong f → (text : Option (List ℕ)) (faults : ℕ) → Keeps now.text text
        → RoseOrIsLast now.sink_faults faults
        → Ran f P WriteFault before (record now { text = text; sink_faults = faults })
    Ran-flush_fault long text faults keeps cause =
        let limit = going.to_limit in
        record {
          bytes = going.front;
          taken = going.taken;
          number = going.number;
          at_most = number-at_most;
          ends = record {
            within = omega arith;
            written = rw (output-going long)
                (AppendsFront-more before.text text _ _
                (AppendsFront-all before.text text _
                (Appends-keeps before.text now.text text _ going.written keeps)));
            source_quiet = going.source_quiet;
            cause = rw going.sink_quiet at cause;
          };
        }

    pub Ran-too_long : SameForLong f → (piece : List ℕ) (mid : Moment) → Gave piece now mid → room ≡ 0
        → length piece ≡ 1
        → Ran f P TooLong before mid
    Ran-too_long long piece mid gave full one =
        let len = length-append going.front piece in
        let limit = going.to_limit in
        let at_limit : length going.front ≡ input_limit = omega arith in
        record {
          bytes = going.front ++ piece;
          taken = taken-more piece mid gave;
          number = number-more piece mid gave;
          at_most = number-at_most-more piece mid gave;
          ends = record {
            past = omega arith;
            written = rw (take_at going.front piece input_limit at_limit)
                (whole-written mid.text long (written-more piece mid gave));
            source_quiet = gave.source_quiet ∙ going.source_quiet;
            sink_quiet = gave.sink_quiet ∙ going.sink_quiet;
          };
        }

    taken-none : (mid : Moment) → Gave [] now mid → Consumes before.left mid.left going.front
    taken-none mid gave = rw append-nil at (taken-more [] mid gave)

    number-none : (mid : Moment) → Gave [] now mid → 0 < length going.front
        → mid.given ≡ counted before.given (length going.front)
    number-none mid gave = rw append-nil at (number-more [] mid gave)

    number-at_most-none : (mid : Moment) → Gave [] now mid → mid.given ≤ before.given + length going.front
    number-at_most-none mid gave = rw append-nil at (number-at_most-more [] mid gave)

    pub Ran-done : SameForLong f → (mid : Moment) (text : Option (List ℕ)) (faults : ℕ) → Gave [] now mid
        → IsAtEnd mid.left
        → Appends mid.text text (last f line) → faults ≡ mid.sink_faults
        → Ran f P Done before (record mid { text = text; sink_faults = faults })
    Ran-done long mid text faults gave at_end written quiet =
        let limit = going.to_limit in
        record {
          bytes = going.front;
          taken = taken-none mid gave;
          number = number-none mid gave;
          at_most = number-at_most-none mid gave;
          ends = record {
            within = omega arith;
            at_end = at_end;
            written = rw (output-going long) (Appends-then before.text mid.text text _ _ (written-more [] mid gave)
                written);
            source_quiet = gave.source_quiet ∙ going.source_quiet;
            sink_quiet = quiet ∙ gave.sink_quiet ∙ going.sink_quiet;
          };
        }

    pub Ran-finish_fault : SameForLong f → (mid : Moment) (text : Option (List ℕ)) (faults : ℕ) → Gave [] now mid
        → AppendsFront mid.text text (last f line) → RoseOrIsLast mid.sink_faults faults
        → Ran f P WriteFault before (record mid { text = text; sink_faults = faults })
    Ran-finish_fault long mid text faults gave written cause =
        let limit = going.to_limit in
        record {
          bytes = going.front;
          taken = taken-none mid gave;
          number = number-none mid gave;
          at_most = number-at_most-none mid gave;
          ends = record {
            within = omega arith;
            written = rw (output-going long) (AppendsFront-then before.text mid.text text _ _
                (written-more [] mid gave) written);
            source_quiet = gave.source_quiet ∙ going.source_quiet;
            cause = rw (gave.sink_quiet ∙ going.sink_quiet) at cause;
          };
        }

    pub Ran-feed_fault : SameForLong f → (piece : List ℕ) (mid : Moment) (text : Option (List ℕ)) (faults : ℕ)
        → Gave piece now mid
        → length piece ≤ room → AppendsFront mid.text text (ended f line piece) → RoseOrIsLast mid.sink_faults faults
        → Ran f P WriteFault before (record mid { text = text; sink_faults = faults })
    Ran-feed_fault long piece mid text faults gave fits written cause =
        let len = length-append going.front piece in
        let limit = going.to_limit in
        record {
          bytes = going.front ++ piece;
          taken = taken-more piece mid gave;
          number = number-more piece mid gave;
          at_most = number-at_most-more piece mid gave;
          ends = record {
            within = omega arith;
            written = rw (output-ended f long (going.front ++ piece), ended-more piece)
                (AppendsFront-more before.text text _ _
                (AppendsFront-then before.text mid.text text _ _ (written-more piece mid gave) written));
            source_quiet = gave.source_quiet ∙ going.source_quiet;
            cause = rw (gave.sink_quiet ∙ going.sink_quiet) at cause;
          };
        }

    -- ---- there is no memory

    -- the bytes before the line that lacked it, and what follows
    pub Ran-feed_lacked : SameForLong f → (piece : List ℕ) (mid : Moment) (text : Option (List ℕ)) (faults : ℕ)
        (written : List ℕ)
        → Gave piece now mid → length piece ≤ room → EndedBefore f P line piece written → Appends mid.text text written
        → faults ≡ mid.sink_faults → Ran f P NoMemory before (record mid { text = text; sink_faults = faults })
    Ran-feed_lacked long piece mid text faults written gave fits ended_before appended quiet =
        let len = length-append going.front piece in
        let limit = going.to_limit in
        let here : List ℕ = going.front ++ ended_before.front in
        let kept : line_after line ended_before.front ≡ line_after (Some []) here =
        ap (λ k. line_after k ended_before.front) going.kept
        ∙ sym (line_after-append (Some []) going.front ended_before.front) in
        record {
          bytes = going.front ++ piece;
          taken = taken-more piece mid gave;
          number = number-more piece mid gave;
          at_most = number-at_most-more piece mid gave;
          ends = record {
            within = omega arith;
            answered = record {
              earlier = ended_lines [] here;
              line = begun_line [] here;
              later = lines ended_before.rest;
              split =
                  ap (λ p. lines (going.front ++ p)) ended_before.split
                  ∙ ap lines (sym (append_assoc going.front ended_before.front (10 ∷ ended_before.rest)))
                  ∙ lines-ended here ended_before.rest;
              is = begun-is here P (subst (λ k. IsSomeAnd k P) kept ended_before.line);
              written = rw (output-ended_lines f long here, ended-more ended_before.front)
                  (Appends-then before.text mid.text text _ _ (written-more piece mid gave)
                  (subst (λ t. Appends mid.text text t) ended_before.gives appended));
            };
            source_quiet = gave.source_quiet ∙ going.source_quiet;
            sink_quiet = quiet ∙ gave.sink_quiet ∙ going.sink_quiet;
          };
        }

    pub Ran-finish_lacked : SameForLong f → (mid : Moment) (text : Option (List ℕ)) (faults : ℕ) → Gave [] now mid
        → (line ≡ Some [] → ⊥) → IsSomeAnd line P → Appends mid.text text [] → faults ≡ mid.sink_faults
        → Ran f P NoMemory before (record mid { text = text; sink_faults = faults })
    Ran-finish_lacked long mid text faults gave some is appended quiet =
        let limit = going.to_limit in
        record {
          bytes = going.front;
          taken = taken-none mid gave;
          number = number-none mid gave;
          at_most = number-at_most-none mid gave;
          ends = record {
            within = omega arith;
            answered = record {
              earlier = ended_lines [] going.front;
              line = begun_line [] going.front;
              later = [];
              split = lines-last going.front (λ none. some (going.kept ∙ none));
              is = begun-is going.front P (subst (λ k. IsSomeAnd k P) going.kept is);
              written = rw (output-ended_lines f long going.front)
                  (rw append-nil at (Appends-then before.text mid.text text _ [] (written-more [] mid gave) appended));
            };
            source_quiet = gave.source_quiet ∙ going.source_quiet;
            sink_quiet = quiet ∙ gave.sink_quiet ∙ going.sink_quiet;
          };
        }

    -- ---- by what stopped the answers

    pub Ran-feed_stopped : SameForLong f → (piece : List ℕ) (mid : Moment) (text : Option (List ℕ)) (faults : ℕ)
        (stop : Stop)
        → Gave piece now mid → length piece ≤ room
        → Answers (λ written. EndedBefore f P line piece written) (Err stop) mid.text text mid.sink_faults faults
        (ended f line piece)
        → Ran f P (status_of_stop stop) before (record mid { text = text; sink_faults = faults })
    Ran-feed_stopped long piece mid text faults stop.WriteFault gave fits h =
        Ran-feed_fault long piece mid text faults gave fits (h.front refl) (h.cause refl)
    Ran-feed_stopped long piece mid text faults stop.NoMemory gave fits h =
        let lacked = h.lacked refl in
        Ran-feed_lacked long piece mid text faults lacked.0 gave fits lacked.1 lacked.2 (h.lacked_quiet refl)

    pub Ran-finish_stopped : SameForLong f → (mid : Moment) (text : Option (List ℕ)) (faults : ℕ) (stop : Stop)
        → Gave [] now mid
        → Answers (λ written. (written ≡ []) × (line ≢ Some []) × IsSomeAnd line P) (Err stop) mid.text text
        mid.sink_faults faults (last f line)
        → Ran f P (status_of_stop stop) before (record mid { text = text; sink_faults = faults })
    Ran-finish_stopped long mid text faults stop.WriteFault gave h =
        Ran-finish_fault long mid text faults gave (h.front refl) (h.cause refl)
    Ran-finish_stopped long mid text faults stop.NoMemory gave h =
        let lacked = h.lacked refl in
        Ran-finish_lacked long mid text faults gave lacked.1.1 lacked.1.2
        (subst (λ t. Appends mid.text text t) lacked.1.0 lacked.2) (h.lacked_quiet refl)

-- a read put n bytes into the first places
pub Gave-read : (now : Moment) (left : Option (List ℕ)) (given faults n : ℕ) (into : List ℕ) → n ≤ length into
    → Consumes now.left left (take n into) → given ≡ counted now.given n → faults ≡ now.source_faults
    → Gave (take n into) now (record now { left = left; given = given; source_faults = faults })
Gave-read now left given faults n into fits takes counts quiet = record {
  taken = takes;
  number = counts ∙ ap (counted now.given) (sym (length-take-le n into fits));
  source_quiet = quiet;
  text = refl;
  sink_quiet = refl;
}

-- a read that gave nothing
pub Gave-none : (now : Moment) (left : Option (List ℕ)) (given faults n : ℕ) (into : List ℕ) → n ≡ 0
    → Consumes now.left left (take n into) → given ≡ counted now.given n → faults ≡ now.source_faults
    → Gave [] now (record now { left = left; given = given; source_faults = faults })
Gave-none now left given faults n into none takes counts quiet = record {
  taken = rw none at takes;
  number = rw none at counts;
  source_quiet = quiet;
  text = refl;
  sink_quiet = refl;
}
