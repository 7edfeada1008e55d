-- What a run did, clause by clause.
use Rattle.std.proofs.Common.{◌≡◌, ℕ, ◌+◌, ◌<◌, ◌≤◌, List, [], ◌++◌, length, take, Option, Some, None, sym, ap, ◌∙◌}
use Rattle.std.proofs.Common.{subst, refl, inl, inr, arith}
use Rattle.std.specs.Prelude.{flat_map, ◌↔◌, ◌⊎◌, Bool, true, false, IfSome, IsFalse, IsSomeAnd, IsTrue}
use Rattle.std.specs.Io.KnownBytes.{Appends, Consumes, IsAtEnd}
use Rattle.std.proofs.lemmas.Bool.{cases_lt}
use Rattle.std.proofs.lemmas.List.{append-nil, length-append}
use Rattle.vex_lines.specs.declared.command.Command.{Command}
use Rattle.vex_lines.specs.declared.status.Status.{Status}
use Rattle.vex_lines.specs.declared.status.Status.TheVariants.{Done, ReadFault, Usage, WriteFault, NoMemory, TooLong}
use Rattle.vex_lines.specs.Ends.{AppendsFront, IsQuiet, RoseByMoreThan, WhereTaken, counted}
use Rattle.vex_lines.specs.Lines.{input_limit, lines, whole}
use Rattle.vex_lines.specs.Command.{count_made}
use Rattle.vex_lines.specs.Generator.{made}
use Rattle.vex_lines.specs.Report.{report, output, output_by, takes_memory, LackedMemory, MayLackMemory}
use Rattle.vex_lines.specs.Internal.Run.{EndsBy, Moment, Ran}
use Rattle.vex_lines.specs.Ends.Lemmas.{Consumes-none, WhereTaken-from}

-- a fact of the value that an option has
pub IfSome-at : {A : Type 0} (o : Option A) (x : A) (P : A → Type 0) → o ≡ Some x → P x → IfSome o P
IfSome-at o x P e p = rw e p

-- a fact of the value that an option must have
pub IsSomeAnd-at : {A : Type 0} (o : Option A) (x : A) (P : A → Type 0) → o ≡ Some x → IsSomeAnd o P → P x
IsSomeAnd-at o x P e h = subst (λ o. IsSomeAnd o P) e h

-- what was taken of a source that has nothing left is all that it told
IfSome-taken : (old new : Option (List ℕ)) (bytes : List ℕ) (P : List ℕ → Type 0) → Consumes old new bytes
    → IsAtEnd new → P bytes
    → IfSome old P
IfSome-taken None new bytes P taken at_end p = tt
IfSome-taken (Some xs) None bytes P taken at_end p = absurd taken
IfSome-taken (Some xs) (Some ys) bytes P taken at_end p =
    subst P (sym (taken ∙ ap (λ t. bytes ++ t) at_end ∙ append-nil bytes)) p

-- no more was taken than a source told
length-taken : (old new : Option (List ℕ)) (bytes : List ℕ) (n : ℕ) → Consumes old new bytes
    → IsSomeAnd old (λ input. length input ≤ n) → length bytes ≤ n
length-taken None new bytes n taken h = absurd h
length-taken (Some xs) None bytes n taken h = absurd taken
length-taken (Some xs) (Some ys) bytes n taken h = omega (arith, ap length taken, length-append bytes ys)

-- the status past the limit, and no other, comes with more bytes than the limit
past_limit : (status : Status) (f : List ℕ → List ℕ) (P : List ℕ → Type 0) (bytes : List ℕ) (before after : Moment)
    → EndsBy status f P bytes before after
    → (status ≡ TooLong) ↔ (input_limit < length bytes)
past_limit Done f P bytes before after ends = (λ e. cc, λ h. absurd (omega (arith, ends.within)))
past_limit ReadFault f P bytes before after ends = (λ e. cc, λ h. absurd (omega (arith, ends.within)))
past_limit WriteFault f P bytes before after ends = (λ e. cc, λ h. absurd (omega (arith, ends.within)))
past_limit TooLong f P bytes before after ends = (λ e. omega (arith, ends.past), λ h. refl)
past_limit Usage f P bytes before after ends = absurd ends
past_limit NoMemory f P bytes before after ends = (λ e. cc, λ h. absurd (omega (arith, ends.within)))

-- where nothing failed and no byte came past the limit, all is done
completed : (status : Status) (f : List ℕ → List ℕ) (P : List ℕ → Type 0) (bytes : List ℕ) (before after : Moment)
    → EndsBy status f P bytes before after
    → IsQuiet before.source_faults after.source_faults → IsQuiet before.sink_faults after.sink_faults
    → (length bytes ≡ input_limit + 1 → ⊥) → (status ≡ Done) ⊎ (status ≡ NoMemory)
completed Done f P bytes before after ends source sink within = inl refl
completed ReadFault f P bytes before after ends source sink within =
    absurd (elim ends.cause [ inl rose ↦ omega (arith, source.0, rose) | inr is_last ↦ source.1 is_last ])
completed WriteFault f P bytes before after ends source sink within =
    absurd (elim ends.cause [ inl rose ↦ omega (arith, sink.0, rose) | inr is_last ↦ sink.1 is_last ])
completed TooLong f P bytes before after ends source sink within = absurd (within ends.past)
completed Usage f P bytes before after ends source sink within = absurd ends
completed NoMemory f P bytes before after ends source sink within = inr refl

-- a number that rose by a byte more than the limit, or stopped at its last value
rose : (n before after : ℕ) → after ≡ counted before (n + 1) → RoseByMoreThan n before after
rose n before after e = elim (cases_lt (before + n) after) [
  | inl more ↦ inl more
  | inr less ↦ inr (omega arith)
]

apart : (b : Bool) → IsTrue b → IsFalse b → ⊥
apart true is isnt = cc
apart false is isnt = cc

-- what a command writes that makes spellings, and one that reads lines
pub output-made : (c : Command) (count : ℕ) (bytes : List ℕ) → count_made c ≡ Some count → output c bytes ≡ made count
unfolding output
output-made c count bytes e = ap (λ o. output_by o c bytes) e

pub output-lines : (c : Command) (bytes : List ℕ) → count_made c ≡ None
    → output c bytes ≡ flat_map (report c) (lines bytes)
unfolding output
output-lines c bytes e = ap (λ o. output_by o c bytes) e

-- the line of a command that makes spellings, whatever the source had left
pub made_written : (c : Command) (count : ℕ) (left old new : Option (List ℕ)) → count_made c ≡ Some count
    → Appends old new (made count)
    → IfSome left (λ input. Appends old new (output c input))
made_written c count None old new e written = tt
made_written c count (Some input) old new e written = rw (output-made c count input e) written

pub made_front : (c : Command) (count : ℕ) (left old new : Option (List ℕ)) → count_made c ≡ Some count
    → AppendsFront old new (made count)
    → WhereTaken left left (λ taken. AppendsFront old new (output c taken))
made_front c count left old new e written =
    WhereTaken-from left left _ [] (Consumes-none left) (rw (output-made c count [] e) written)

module _ (c : Command) (status : Status) (before after : Moment) (reads : count_made c ≡ None)
    (ran : Ran (report c) (MayLackMemory c) status before after) where
  -- the run, where its status is known
  by : (known : Status) → status ≡ known → Ran (report c) (MayLackMemory c) known before after
  by known e = subst (λ s. Ran (report c) (MayLackMemory c) s before after) e ran

  pub done_written : status ≡ Done → IfSome before.left (λ input. Appends before.text after.text (output c input))
  done_written e =
      let done = by Done e in
      IfSome-taken before.left after.left done.bytes _ done.taken done.ends.at_end
      (rw (output-lines c done.bytes reads) done.ends.written)

  pub too_long : status ≡ TooLong → RoseByMoreThan input_limit before.given after.given
  too_long e =
      let long = by TooLong e in
      rose input_limit before.given after.given
      (long.number (omega (arith, long.ends.past)) ∙ ap (counted before.given) long.ends.past)

  pub too_long_by_number : before.given + input_limit < after.given → status ≡ TooLong
  too_long_by_number more =
      let at_most = ran.at_most in
      (past_limit status (report c) (MayLackMemory c) ran.bytes before after ran.ends).1 (omega arith)

  pub too_long_exactly : WhereTaken before.left after.left (λ taken. (status ≡ TooLong) ↔ (input_limit < length taken))
  too_long_exactly =
      WhereTaken-from before.left after.left _ ran.bytes ran.taken
      (past_limit status (report c) (MayLackMemory c) ran.bytes before after ran.ends)

  pub after_read_fault : status ≡ ReadFault
      → WhereTaken before.left after.left (λ taken. Appends before.text after.text (output c (whole taken)))
  after_read_fault e =
      let failed = by ReadFault e in
      WhereTaken-from before.left after.left _ failed.bytes failed.taken
      (rw (output-lines c (whole failed.bytes) reads) failed.ends.written)

  pub after_write_fault : status ≡ WriteFault
      → WhereTaken before.left after.left (λ taken. AppendsFront before.text after.text (output c taken))
  after_write_fault e =
      let failed = by WriteFault e in
      WhereTaken-from before.left after.left _ failed.bytes failed.taken
      (rw (output-lines c failed.bytes reads) failed.ends.written)

  pub after_too_long : status ≡ TooLong → WhereTaken before.left after.left
      (λ taken. Appends before.text after.text (output c (whole (take input_limit taken))))
  after_too_long e =
      let long = by TooLong e in
      WhereTaken-from before.left after.left _ long.bytes long.taken
      (rw (output-lines c (whole (take input_limit long.bytes)) reads) long.ends.written)

  pub completes_or_lacks : IsQuiet before.source_faults after.source_faults
      → IsQuiet before.sink_faults after.sink_faults
      → IsSomeAnd before.left (λ input. length input ≤ input_limit) → (status ≡ Done) ⊎ (status ≡ NoMemory)
  completes_or_lacks source sink within =
      let fits = length-taken before.left after.left ran.bytes input_limit ran.taken within in
      completed status (report c) (MayLackMemory c) ran.bytes before after ran.ends source sink
      (λ past. omega (arith, fits, past))

  pub completes_or_lacks_by_number : IsQuiet before.source_faults after.source_faults
      → IsQuiet before.sink_faults after.sink_faults
      → (RoseByMoreThan input_limit before.given after.given → ⊥) → (status ≡ Done) ⊎ (status ≡ NoMemory)
  completes_or_lacks_by_number source sink within =
      completed status (report c) (MayLackMemory c) ran.bytes before after ran.ends source sink
      (λ past. within (rose input_limit before.given after.given
      (ran.number (omega (arith, past)) ∙ ap (counted before.given) past)))

  -- only a command that takes memory lacks it
  pub no_memory : status ≡ NoMemory → IsTrue (takes_memory c)
  no_memory e = (by NoMemory e).ends.answered.is.0

  pub done_unless : IsFalse (takes_memory c) → (status ≡ Done) ⊎ (status ≡ NoMemory) → status ≡ Done
  done_unless takes_none ends = elim ends
      [ inl e ↦ e | inr e ↦ absurd (apart (takes_memory c) (no_memory e) takes_none) ]

  pub after_no_memory : status ≡ NoMemory
      → WhereTaken before.left after.left (λ taken. LackedMemory c taken before.text after.text)
  after_no_memory e =
      let lacked = by NoMemory e in
      WhereTaken-from before.left after.left _ lacked.bytes lacked.taken lacked.ends.answered
