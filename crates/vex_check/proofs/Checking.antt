-- A check, instruction by instruction.
use Rattle.std.proofs.Common.{◌≡◌, ℕ, ◌+◌, ◌-◌, ◌<◌, ◌≤◌, Bool, true, false, List, [], ◌∷◌, ◌++◌, length}
use Rattle.std.proofs.Common.{drop, Some, None, Result, Ok, Err, refl, sym, ap, ◌∙◌, arith, append_assoc}
use Rattle.std.specs.Prelude.{cond, find, if◌then◌else◌}
use Rattle.std.specs.Option.{option_or}
use Rattle.std.proofs.lemmas.List.{append-nil, drop-drop, drop_all, length-append, length-drop}
use Rattle.std.proofs.lemmas.List.Folds.{find-append}
use Rattle.x86_operand.specs.declared.error.DecodeError.{DecodeError}
use Rattle.x86_operand.specs.Meaning.{Decoded}
use Rattle.x86_settings.specs.Bits.{all_bits, is_set}
use Rattle.x86_settings.specs.Sets.{exactly}
use Rattle.x86_permit.specs.LeastSettings.{least}
use Rattle.vex_decode.specs.Decode.{decode}
use Rattle.vex_encode.specs.declared.sweeper.SweepEnd.TheVariants.{End, Stopped}
use Rattle.vex_encode.specs.Sweep.{Swept, SweptItem, item_at, onto, swept_by, swept_from}
use Rattle.vex_encode.specs.Sweep.Lemmas.{from-step}
use Rattle.vex_check.specs.declared.needs.RunCause.{RunCause}
use Rattle.vex_check.specs.declared.needs.RunCause.TheVariants.{Marked}
use Rattle.vex_check.specs.declared.first_places.FirstPlaces.{FirstPlaces}
use Rattle.vex_check.specs.Needs.{all_needed, fault, fault_by, firsts, is_marked, run}
use Rattle.vex_check.specs.FirstPlaces.{all_there, bits_there, cause_of, noted}
use Rattle.vex_check.proofs.Noting.{first_places, firsts-there, needed-there, places-push}

some-same : {a b : RunCause} → Some a ≡ Some b → a ≡ b
some-same e = cc

-- a decoded instruction that isn't unmarked is marked
pub marked-unless : (first : Result Decoded DecodeError) (decoded : Decoded) → first ≡ Ok decoded
    → (decoded.meaning.evex ≡ false → ⊥)
    → cause_of first ≡ Some Marked
marked-unless first decoded is not = ap cause_of is ∙ by decoded.meaning.evex refl where
  by : (b : Bool) → decoded.meaning.evex ≡ b → (if b then Some Marked else None) ≡ Some Marked
  by true e = refl
  by false e = absurd (not e)

-- the items, and then a sweep
pub after : List SweptItem → Swept → Swept
after items swept = record { items = items ++ swept.items; end = swept.end }

after-push : (items : List SweptItem) (item : SweptItem) (swept : Swept)
    → after items (onto item swept) ≡ after (items ++ item ∷ []) swept
unfolding after
after-push items item swept = ap (λ (is : List SweptItem). record { items = is; end = swept.end })
    (sym (append_assoc items (item ∷ []) swept.items))

-- the fault of a run that goes on after unmarked instructions with a fault
stops-at : (items : List SweptItem) (place : ℕ) (rest : List ℕ) (cause : RunCause) → find is_marked items ≡ None
    → 0 < length rest
    → cause_of (decode all_bits rest) ≡ Some cause
    → fault (after items (swept_from all_bits 0 place rest)) ≡ Some (record { place = place; cause = cause })
unfolding after swept_from
stops-at items place [] cause unmarked some is = absurd (omega (arith, some))
stops-at items place (b ∷ bs) cause unmarked some is = by (decode all_bits (b ∷ bs)) is where
  go : Decoded → Swept
  go decoded = swept_from all_bits (decoded.len - 1) (place + 1) bs

  found : (more : List SweptItem) → find is_marked (items ++ more) ≡ find is_marked more
  found more = find-append is_marked items more ∙ ap (λ o. option_or o (find is_marked more)) unmarked

  at : (decoded : Decoded) (p : Bool) → (if p then Some Marked else None) ≡ Some cause
      → fault_by (cond p (Some (item_at place (b ∷ bs) decoded)) (find is_marked (go decoded).items)) (go decoded).end
      ≡ Some (record { place = place; cause = cause })
  at decoded true is = ap (λ (c : RunCause). Some (record { place = place; cause = c })) (some-same is)
  at decoded false is = cc

  by : (first : Result Decoded DecodeError) → cause_of first ≡ Some cause
      → fault (after items (swept_by place (b ∷ bs) go first)) ≡ Some (record { place = place; cause = cause })
  by (Err error) is =
      ap (λ o. fault_by o (Stopped place error)) (found [])
      ∙ ap (λ (c : RunCause). Some (record { place = place; cause = c })) (some-same is)
  by (Ok decoded) is =
      ap (λ o. fault_by o (go decoded).end) (found (item_at place (b ∷ bs) decoded ∷ (go decoded).items))
      ∙ at decoded decoded.meaning.evex is

-- the bytes before a place were gone through: their instructions are unmarked, and their first places were noted
pub record Checking (bytes : List ℕ) (found : FirstPlaces) (place count : ℕ) : Type 0 where
  pub items : List SweptItem
  pub within : place ≤ length bytes
  pub same : run bytes ≡ after items (swept_from all_bits 0 place (drop place bytes))
  pub unmarked : find is_marked items ≡ None
  pub number : count ≡ length items
  pub few : count ≤ place
  pub noted : found ≡ first_places items

module _ (bytes : List ℕ) where
  pub checking-first : (found : FirstPlaces) → found ≡ first_places [] → Checking bytes found 0 0
  unfolding after
  checking-first found is =
      record {
        items = [];
        within = omega arith;
        same = refl;
        unmarked = refl;
        number = refl;
        few =
            omega arith;
        noted = is;
      }

  module _ (found : FirstPlaces) (place count : ℕ) (so_far : Checking bytes found place count) where
    -- a further instruction
    pub checking-step : (decoded : Decoded) (more : FirstPlaces)
        → decode all_bits (drop place bytes) ≡ Ok decoded
        → decoded.meaning.evex ≡ false → 1 ≤ decoded.len → decoded.len ≤ length (drop place bytes)
        → more ≡ noted (is_set (exactly (least decoded.meaning.opcode))) place decoded.meaning.opcode found
        → Checking bytes more (place + decoded.len) (count + 1)
    checking-step decoded more first unmarked some fits is =
        let n = decoded.len in
        let item = item_at place (drop place bytes) decoded in
        record {
          items = so_far.items ++ item ∷ [];
          within = omega (arith, fits, length-drop place bytes, so_far.within);
          same =
              so_far.same
              ∙ ap (after so_far.items) (from-step all_bits place (drop place bytes) decoded first some fits)
              ∙ after-push so_far.items item _
              ∙ ap (λ rest. after (so_far.items ++ item ∷ []) (swept_from all_bits 0 (place + n) rest))
              (drop-drop n place bytes);
          unmarked =
              find-append is_marked so_far.items (item ∷ [])
              ∙ ap (λ o. option_or o (find is_marked (item ∷ []))) so_far.unmarked
              ∙ ap (λ b. cond b (Some item) None) unmarked;
          number = ap (λ k. k + 1) so_far.number ∙ sym (length-append so_far.items (item ∷ []));
          few = omega (arith, some, so_far.few);
          noted = is ∙ ap (noted (is_set (exactly (least decoded.meaning.opcode))) place decoded.meaning.opcode)
              so_far.noted ∙ places-push so_far.items item;
        }

    -- the fault there
    pub checking-fault : (cause : RunCause) → place < length bytes
        → cause_of (decode all_bits (drop place bytes)) ≡ Some cause
        → fault (run bytes) ≡ Some (record { place = place; cause = cause })
    checking-fault cause some is =
        ap fault so_far.same
        ∙ stops-at so_far.items place (drop place bytes) cause so_far.unmarked
        (omega (arith, some, length-drop place bytes)) is

    module _ (all : length bytes ≤ place) where
      -- the whole run, where no byte is left
      whole : run bytes ≡ record { items = so_far.items; end = End }
      unfolding after swept_from
      whole =
          so_far.same
          ∙ ap (λ rest. after so_far.items (swept_from all_bits 0 place rest)) (drop_all place bytes all)
          ∙ ap (λ (is : List SweptItem). record { items = is; end = End }) (append-nil so_far.items)

      pub checking-none : fault (run bytes) ≡ None
      checking-none = ap fault whole ∙ ap (λ o. fault_by o End) so_far.unmarked

      pub checking-count : count ≡ length (run bytes).items
      checking-count = so_far.number ∙ sym (ap (λ (s : Swept). length s.items) whole)

      pub checking-least : bits_there found ≡ all_needed (run bytes).items
      checking-least =
          ap bits_there so_far.noted ∙ sym (needed-there so_far.items)
          ∙ sym (ap (λ (s : Swept). all_needed s.items) whole)

      pub checking-firsts : all_there found ≡ firsts (run bytes).items
      checking-firsts =
          ap all_there so_far.noted ∙ sym (firsts-there so_far.items) ∙ sym (ap (λ (s : Swept). firsts s.items) whole)
