-- Facts on texts that are written.
use Rattle.std.proofs.Common.{◌≡◌, ℕ, List, [], ◌++◌, Option, Result, Ok, Err, subst, refl, ◌∙◌}
use Rattle.std.proofs.lemmas.List.{append-nil}
use Rattle.std.specs.Io.KnownBytes.{Appends, Keeps}
use Rattle.std.specs.Prelude.{OnOk, OnErr}
use Rattle.vex_lines.specs.declared.stop.Stop.{Stop}
use Rattle.vex_lines.specs.declared.stop.Stop.TheVariants.{WriteFault, NoMemory}
use Rattle.vex_lines.specs.Ends.{AppendsFront, RoseOrIsLast, Writes}
use Rattle.vex_lines.specs.Internal.Stops.{Answers}
use Rattle.vex_lines.specs.Ends.Lemmas.{Appends-keeps, Appends-then, AppendsFront-all, AppendsFront-then}

-- ---- texts written

-- a text was written
pub Writes-all : {T E : Type 0} (result : Result T E) (x : T) (old new : Option (List ℕ)) (before after : ℕ)
    (text : List ℕ)
    → result ≡ Ok x → Appends old new text → after ≡ before → Writes result old new before after text
Writes-all result x old new before after text is written quiet =
    rw is (record { appends = written; quiet = quiet; front = tt; cause = tt })

-- a text was not written
pub Writes-fault : {T E : Type 0} (result : Result T E) (e : E) (old new : Option (List ℕ)) (before after : ℕ)
    (text : List ℕ)
    → result ≡ Err e → AppendsFront old new text → RoseOrIsLast before after → Writes result old new before after text
Writes-fault result e old new before after text is front cause =
    rw is (record { appends = tt; quiet = tt; front = front; cause = cause })

-- a text was written, and then another was or failed
pub Writes-then : {T E : Type 0} (result : Result T E) (old mid new : Option (List ℕ)) (before between after : ℕ)
    (a b : List ℕ)
    → Appends old mid a → between ≡ before → Writes result mid new between after b
    → Writes result old new before after (a ++ b)
Writes-then (Ok x) old mid new before between after a b first quiet then =
    record {
      appends = Appends-then old mid new a b first then.appends;
      quiet = then.quiet ∙ quiet;
      front = tt;
      cause =
          tt;
    }
Writes-then (Err e) old mid new before between after a b first quiet then = record {
  appends = tt;
  quiet = tt;
  front = AppendsFront-then old mid new a b first then.front;
  cause = subst (λ n. RoseOrIsLast n after) quiet then.cause;
}

-- a text was written, and then handed on or not
pub Writes-handed_on : {T E : Type 0} (result : Result T E) (old mid new : Option (List ℕ)) (before between after : ℕ)
    (text : List ℕ)
    → Appends old mid text → between ≡ before → Keeps mid new → OnOk result (after ≡ between)
    → OnErr result (RoseOrIsLast between after)
    → Writes result old new before after text
Writes-handed_on (Ok x) old mid new before between after text written same keeps quiet cause =
    record { appends = Appends-keeps old mid new text written keeps; quiet = quiet ∙ same; front = tt; cause = tt }
Writes-handed_on (Err e) old mid new before between after text written same keeps quiet cause = record {
  appends = tt;
  quiet = tt;
  front = AppendsFront-all old new text (Appends-keeps old mid new text written keeps);
  cause = subst (λ n. RoseOrIsLast n after) same cause;
}

-- ---- texts written where memory may lack

-- a text was written
pub Answers-all : (P : List ℕ → Type 0) (result : Result (Unit {0}) Stop) (x : Unit {0}) (old new : Option (List ℕ))
    (before after : ℕ) (text : List ℕ)
    → result ≡ Ok x → Appends old new text → after ≡ before → Answers P result old new before after text
Answers-all P result x old new before after text is written quiet = rw is (record {
  appends = written;
  quiet = quiet;
  front = λ e. cc;
  cause = λ e. cc;
  lacked = λ e. absurd (cc);
  lacked_quiet = λ e. cc;
})

-- a text was not written
pub Answers-fault : (P : List ℕ → Type 0) (old new : Option (List ℕ)) (before after : ℕ) (text : List ℕ)
    → AppendsFront old new text → RoseOrIsLast before after → Answers P (Err WriteFault) old new before after text
Answers-fault P old new before after text front cause = record {
  appends = tt;
  quiet = tt;
  front = λ e. front;
  cause = λ e. cause;
  lacked = λ e. absurd (cc);
  lacked_quiet = λ e. cc;
}

-- what holds where memory lacked may be said otherwise
pub Answers-as : (P Q : List ℕ → Type 0) (result : Result (Unit {0}) Stop) (old new : Option (List ℕ))
    (before after : ℕ) (text : List ℕ)
    → ((written : List ℕ) → P written → Q written) → Answers P result old new before after text
    → Answers Q result old new before after text
Answers-as P Q result old new before after text as_said h = record {
  appends = h.appends;
  quiet = h.quiet;
  front = h.front;
  cause = h.cause;
  lacked = λ e. let lacked = h.lacked e in (lacked.0, as_said lacked.0 lacked.1, lacked.2);
  lacked_quiet = h.lacked_quiet;
}

-- a text was written, and then handed on or not
pub Answers-handed_on : (P : List ℕ → Type 0) (result : Result (Unit {0}) Stop) (old mid new : Option (List ℕ))
    (before between after : ℕ) (text : List ℕ)
    → Appends old mid text → between ≡ before → Answers (λ _. ⊥) result mid new between after []
    → Answers P result old new before after text
Answers-handed_on P (Ok x) old mid new before between after text written same h =
    Answers-all P (Ok x) x old new before after text refl
    (rw append-nil at (Appends-then old mid new text [] written h.appends)) (h.quiet ∙ same)
Answers-handed_on P (Err WriteFault) old mid new before between after text written same h =
    Answers-fault P old new before after text
    (rw append-nil at (AppendsFront-then old mid new text [] written (h.front refl)))
    (subst (λ n. RoseOrIsLast n after) same (h.cause refl))
Answers-handed_on P (Err NoMemory) old mid new before between after text written same h = absurd (h.lacked refl).1
