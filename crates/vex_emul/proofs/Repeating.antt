-- A run is its instructions, one after another.
use Rattle.std.proofs.Common.{◌≡◌, refl, sym, ◌∙◌, ap, subst, ℕ, zero, suc, ◌+◌, ◌-◌, ◌≤◌, Bool, List, [], ◌∷◌}
use Rattle.std.proofs.Common.{◌++◌, length, take, drop, Some, None, Ok, Err, arith, true, take-append-drop}
use Rattle.std.specs.Prelude.{Option, Result}
use Rattle.std.proofs.lemmas.List.{append_assoc, length-append, length-drop, drop-append-le}
use Rattle.x86_operand.specs.declared.error.DecodeError.{DecodeError}
use Rattle.x86_operand.specs.Meaning.{Meaning}
use Rattle.x86_permit.specs.Permission.{permits}
use Rattle.x86_address.specs.Bytes.{IsBytes}
use Rattle.x86_address.specs.Bytes.Lemmas.{IsBytes-append, IsBytes-back}
use Rattle.vex_decode.specs.Spelling.{Spells}
use Rattle.vex_decode.specs.Blocked.{blocked}
use Rattle.vex_decode.specs.Laws.{SpellingLength, BlockedOrBegun, BeginsPermitted}
use Rattle.vex_emul.specs.Laws.{StepOfSpelling, StepOfError}
use Rattle.vex_emul.specs.Machine.{State}
use Rattle.vex_emul.specs.Subset.{work_of}
use Rattle.vex_emul.specs.Work.{after}
use Rattle.vex_emul.specs.declared.work.Work.{Work}
use Rattle.vex_emul.specs.Run.{step, Stepped, step_by, step_into, ran, ran_from, ran_by, Outcome}
use Rattle.vex_emul.specs.declared.run.Halt.{Halt}
use Rattle.vex_emul.specs.Repeated.{behind, RunOfNothing, RunOfHalt, RunOfTwo, left_by}
use Rattle.vex_emul.specs.Repeated.{MeaningDecides}
use Rattle.vex_emul.proofs.Running.{from-step, from-halt}

-- ---- a run behind bytes and instructions is the run of the same bytes, moved

module _ (settings : List Bool) (p c : ℕ) where
  from-behind : (k : ℕ) (state : State) (place count : ℕ) (bytes : List ℕ)
      → ran_from settings k state (p + place) (c + count) bytes ≡ behind p c (ran_from settings k state place count bytes)
  unfolding ran_from
  from-behind k state place count [] = refl
  from-behind (suc k) state place count (b ∷ bs) =
      let at : p + place + 1 ≡ p + (place + 1) = omega arith in
      ap (λ at. ran_from settings k state at (c + count) bs) at ∙ from-behind k state (place + 1) count bs
  from-behind zero state place count (b ∷ bs) =
      by (step settings state (b ∷ bs)) (λ next len. from-behind (len - 1) next (place + 1) (count + 1) bs)
    where
      by : (s : Stepped)
          → ((next : State) (len : ℕ) → ran_from settings (len - 1) next (p + (place + 1)) (c + (count + 1)) bs
          ≡ behind p c (ran_from settings (len - 1) next (place + 1) (count + 1) bs))
          → ran_by state (p + place) (c + count)
          (λ next len. ran_from settings (len - 1) next (p + place + 1) (c + count + 1) bs) s
          ≡ behind p c (ran_by state place count
          (λ next len. ran_from settings (len - 1) next (place + 1) (count + 1) bs) s)
      by (Err cause) later = refl
      by (Ok next) later =
          let at : p + place + 1 ≡ p + (place + 1) = omega arith in
          let many : c + count + 1 ≡ c + (count + 1) = omega arith in
          ap (λ at. ran_from settings (next.1 - 1) next.0 at (c + count + 1) bs) at
          ∙ ap (λ many. ran_from settings (next.1 - 1) next.0 (p + (place + 1)) many bs) many
          ∙ later next.0 next.1

  -- the same of a run from its front
  ran-behind : (state : State) (bytes : List ℕ)
      → ran_from settings 0 state p c bytes ≡ behind p c (ran settings state bytes)
  ran-behind state bytes =
      let at : p ≡ p + 0 = omega arith in
      let many : c ≡ c + 0 = omega arith in
      ap (λ at. ran_from settings 0 state at c bytes) at
      ∙ ap (λ many. ran_from settings 0 state (p + 0) many bytes) many
      ∙ from-behind 0 state 0 0 bytes

-- ---- an instruction that runs is that of the spelling at the front

-- the front of the bytes spells a permitted meaning, by which the instruction does what it does
record Stepping (settings : List Bool) (state next : State) (len : ℕ) (code : List ℕ) : Type 0 where
  front : List ℕ
  rest : List ℕ
  is : code ≡ front ++ rest
  m : Meaning
  spells : Spells front m
  permitted : permits settings m.evex m.opcode ≡ true
  whole : len ≡ length front
  done : step_by state (length front) (work_of state.q m) ≡ Ok (next, len)

abbrev length_in : Stepped → ℕ
length_in (Ok next) = next.1
length_in (Err cause) = 0

length_by : (state next : State) (k len : ℕ) (w : Option Work) → step_by state k w ≡ Ok (next, len) → len ≡ k
length_by state next k len None h = cc
length_by state next k len (Some work) h = by (after state work) h
  where
    by : (o : Option State) → step_into k o ≡ Ok (next, len) → len ≡ k
    by None h = cc
    by (Some s) h = sym (ap length_in h)

module _ (law : StepOfSpelling) (halts : StepOfError) (begun : BlockedOrBegun) (settings : List Bool) (state next : State) (len : ℕ)
    (code : List ℕ) (are_bytes : IsBytes code) (is : step settings state code ≡ Ok (next, len)) where
  stepping_at : BeginsPermitted settings code → Stepping settings state next len code
  stepping_at at =
      let front = at.front in
      let rest = at.begins.0 in
      let done : step_by state (length front) (work_of state.q at.m) ≡ Ok (next, len) =
      sym (law settings state front rest at.m at.spells at.permitted)
      ∙ ap (step settings state) (sym at.begins.1) ∙ is in
      record {
        front = front;
        rest = rest;
        is = at.begins.1;
        m = at.m;
        spells = at.spells;
        permitted = at.permitted;
        whole = length_by state next (length front) len (work_of state.q at.m) done;
        done = done;
      }

  stepping : Stepping settings state next len code
  stepping = by (blocked settings code) refl
    where
      by : (o : Option (DecodeError × ℕ)) → blocked settings code ≡ o → Stepping settings state next len code
      by None e = stepping_at ((begun settings code are_bytes).0 e)
      by (Some error) e =
          let halted = halts settings state code error.0 error.1 e in cc

module _ (law : StepOfSpelling) (halts : StepOfError) (long : SpellingLength) (begun : BlockedOrBegun) (settings : List Bool) where
  -- how much an instruction that runs takes
  step-some : (state next : State) (len : ℕ) (code : List ℕ) → IsBytes code
      → step settings state code ≡ Ok (next, len) → (1 ≤ len) × (len ≤ length code)
  step-some state next len code are_bytes is =
      let at = stepping law halts begun settings state next len code are_bytes is in
      let least = (long at.front at.m at.spells).0 in
      let all = ap length at.is ∙ length-append at.front at.rest in
      (omega (arith, least, at.whole), omega (arith, all, at.whole))

  -- more bytes behind it change nothing
  step-more : (state next : State) (len : ℕ) (code more : List ℕ) → IsBytes code
      → step settings state code ≡ Ok (next, len) → step settings state (code ++ more) ≡ Ok (next, len)
  step-more state next len code more are_bytes is =
      let at = stepping law halts begun settings state next len code are_bytes is in
      ap (λ code. step settings state (code ++ more)) at.is
      ∙ ap (step settings state) (append_assoc at.front at.rest more)
      ∙ law settings state at.front (at.rest ++ more) at.m at.spells at.permitted
      ∙ at.done

  pub run_of_step : (state next : State) (len : ℕ) (code : List ℕ) → IsBytes code
      → step settings state code ≡ Ok (next, len)
      → ran settings state code ≡ behind len 1 (ran settings next (drop len code))
  run_of_step state next len code are_bytes is =
      let some = step-some state next len code are_bytes is in
      let at : 0 + len ≡ len = omega arith in
      from-step settings state next 0 0 len code is some.0 some.1
      ∙ ap (λ at. ran_from settings 0 next at 1 (drop len code)) at
      ∙ ran-behind settings len 1 next (drop len code)

pub run_of_nothing : RunOfNothing
unfolding ran_from
run_of_nothing settings state = refl

pub run_of_halt : RunOfHalt
run_of_halt settings state cause [] some is = absurd (some refl)
run_of_halt settings state cause (b ∷ bs) some is = from-halt settings state 0 0 (b ∷ bs) cause is (omega arith)

-- ---- code, and more code

behind-none : (state : State) (answer : Result ℕ Halt) → behind 0 0 (state, answer) ≡ (state, answer)
behind-none state (Ok n) = let same : 0 + n ≡ n = omega arith in ap (λ n. (state, Ok n)) same
behind-none state (Err halt) =
    let at : 0 + halt.place ≡ halt.place = omega arith in
    let many : 0 + halt.count ≡ halt.count = omega arith in
    ap (λ at. (state, Err (record { place = at; count = 0 + halt.count; cause = halt.cause }))) at
    ∙ ap (λ many. (state, Err (record { place = halt.place; count = many; cause = halt.cause }))) many

behind-behind : (p q c d : ℕ) (state : State) (answer : Result ℕ Halt)
    → behind p c (behind q d (state, answer)) ≡ behind (p + q) (c + d) (state, answer)
behind-behind p q c d state (Ok n) =
    let many : c + (d + n) ≡ c + d + n = omega arith in ap (λ n. (state, Ok n)) many
behind-behind p q c d state (Err halt) =
    let at : p + (q + halt.place) ≡ p + q + halt.place = omega arith in
    let many : c + (d + halt.count) ≡ c + d + halt.count = omega arith in
    ap (λ at. (state, Err (record { place = at; count = c + (d + halt.count); cause = halt.cause }))) at
    ∙ ap (λ many. (state, Err (record { place = p + q + halt.place; count = many; cause = halt.cause }))) many

-- the rest of a byte string is one
IsBytes-drop : (n : ℕ) (bytes : List ℕ) → IsBytes bytes → IsBytes (drop n bytes)
IsBytes-drop n bytes are_bytes =
    IsBytes-back (take n bytes) (drop n bytes) (subst IsBytes (sym (take-append-drop n bytes)) are_bytes)

-- what ended well behind other instructions ended well by itself
record EndsBefore (p c : ℕ) (outcome : Outcome) (state : State) (n : ℕ) : Type 0 where
  last : ℕ
  is : outcome ≡ (state, Ok last)
  sum : c + last ≡ n

abbrev ok_or : Result ℕ Halt → ℕ
ok_or (Ok n) = n
ok_or (Err halt) = 0

ends_before : (p c : ℕ) (s : State) (answer : Result ℕ Halt) (state : State) (n : ℕ)
    → behind p c (s, answer) ≡ (state, Ok n) → EndsBefore p c (s, answer) state n
ends_before p c s (Ok last) state n e =
    record { last = last; is = ap (λ (o : Outcome). (o.0, Ok last)) e; sum = ap (λ (o : Outcome). ok_or o.1) e }
ends_before p c s (Err halt) state n e =
    let no = ap (λ (o : Outcome). o.1) e in cc

module _ (law : StepOfSpelling) (halts : StepOfError) (long : SpellingLength) (begun : BlockedOrBegun) (settings : List Bool) where
  -- the run of code that has at most so many bytes, with more behind it
  abbrev Continues : ℕ → Type 0
  Continues fuel = (start state : State) (n : ℕ) (code more : List ℕ) → length code ≤ fuel → IsBytes code
      → IsBytes more → ran settings start code ≡ (state, Ok n)
      → ran settings start (code ++ more) ≡ behind (length code) n (ran settings state more)

  -- one instruction, and the rest of the code, which has fewer bytes
  run_on : (fuel : ℕ) → Continues fuel → (start state : State) (n : ℕ) (code more : List ℕ) → length code ≤ suc fuel
      → IsBytes code → IsBytes more → ran settings start code ≡ (state, Ok n)
      → (next : State) (len : ℕ) → step settings start code ≡ Ok (next, len)
      → ran settings start (code ++ more) ≡ behind (length code) n (ran settings state more)
  run_on fuel fewer start state n code more within are_bytes more_bytes ends next len is =
      let some = step-some law halts long begun settings start next len code are_bytes is in
      let rest = drop len code in
      let left = length-drop len code in
      let whole : len + length rest ≡ length code = omega (arith, some.1, left) in
      let went = ran settings next rest in
      let first = run_of_step law halts long begun settings start next len code are_bytes is in
      let before = ends_before len 1 went.0 went.1 state n (sym first ∙ ends) in
      let far = ran settings state more in
      let again = step-more law halts long begun settings start next len code more are_bytes is in
      let both = IsBytes-append code more are_bytes more_bytes in
      run_of_step law halts long begun settings start next len (code ++ more) both again
      ∙ ap (λ bytes. behind len 1 (ran settings next bytes)) (drop-append-le len code more some.1)
      ∙ ap (behind len 1) (fewer next state before.last rest more (omega (arith, some.0, left, within))
      (IsBytes-drop len code are_bytes) more_bytes before.is)
      ∙ behind-behind len (length rest) 1 before.last far.0 far.1
      ∙ ap (λ p. behind p (1 + before.last) far) whole
      ∙ ap (λ c. behind (length code) c far) before.sum

  run_within : (fuel : ℕ) → Continues fuel
  run_within fuel start state n [] more within are_bytes more_bytes ends =
      let here : (start, Ok 0) ≡ (state, Ok n) = sym (run_of_nothing settings start) ∙ ends in
      let same : start ≡ state = ap (λ (o : Outcome). o.0) here in
      let none : 0 ≡ n = ap (λ (o : Outcome). ok_or o.1) here in
      let far = ran settings state more in
      ap (λ s. ran settings s more) same
      ∙ sym (behind-none far.0 far.1)
      ∙ ap (λ c. behind 0 c far) none
  run_within zero start state n (b ∷ bs) more within are_bytes more_bytes ends = absurd (omega (arith, within))
  run_within (suc fuel) start state n (b ∷ bs) more within are_bytes more_bytes ends =
      by (step settings start (b ∷ bs)) refl (run_within fuel)
    where
      by : (s : Stepped) → step settings start (b ∷ bs) ≡ s → Continues fuel
          → ran settings start (b ∷ bs ++ more) ≡ behind (length (b ∷ bs)) n (ran settings state more)
      by (Ok next) e fewer =
          run_on fuel fewer start state n (b ∷ bs) more within are_bytes more_bytes ends next.0 next.1 e
      by (Err cause) e fewer =
          let halted = run_of_halt settings start cause (b ∷ bs) (λ e. cc) e in
          let no = ap (λ (o : Outcome). o.1) (sym halted ∙ ends) in cc

pub run_of_two : StepOfSpelling → StepOfError → SpellingLength → BlockedOrBegun → RunOfTwo
run_of_two law halts long begun settings start state n code more are_bytes more_bytes ends =
    run_within law halts long begun settings (length code) start state n code more (omega arith) are_bytes more_bytes ends

-- ---- one meaning

left_alike : (state : State) (k l : ℕ) (w : Option Work) → left_by (step_by state k w) ≡ left_by (step_by state l w)
left_alike state k l None = refl
left_alike state k l (Some work) = by (after state work)
  where
    by : (o : Option State) → left_by (step_into k o) ≡ left_by (step_into l o)
    by None = refl
    by (Some s) = refl

pub meaning_decides : StepOfSpelling → MeaningDecides
meaning_decides law settings state front other rest behind m one two permitted =
    ap left_by (law settings state front rest m one permitted)
    ∙ left_alike state (length front) (length other) (work_of state.q m)
    ∙ ap left_by (sym (law settings state other behind m two permitted))
