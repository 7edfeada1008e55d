-- A run into places, instruction by instruction.
use Rattle.std.proofs.Common.{◌≡◌, ℕ, suc, ◌+◌, ◌<◌, ◌≤◌, Bool, List, [], ◌∷◌, ◌++◌, length, take, drop, Ok, Err}
use Rattle.std.proofs.Common.{refl, sym, ap, ◌∙◌, arith, set, get_or, add-one, append_assoc, map, nat_lt, cond}
use Rattle.std.proofs.lemmas.Bool.Decides.{nat_tests}
use Rattle.std.proofs.lemmas.List.{append-nil, drop-drop, drop_all, length-append, length-drop, length-map, length-take-le}
use Rattle.std.proofs.lemmas.List.{map-append, take_all, take_at}
use Rattle.std.proofs.lemmas.Grind.{flat_map-append}
use Rattle.std.proofs.Math.Seq.{drop-cons, set-append_seam}
use Rattle.x86_operand.specs.declared.error.DecodeError.{DecodeError}
use Rattle.x86_operand.specs.Meaning.{Decoded}
use Rattle.vex_decode.specs.Decode.{decode}
use Rattle.vex_encode.specs.declared.sweeper.SweepEnd.TheVariants.{End, Stopped}
use Rattle.vex_encode.specs.Sweep.{Swept, SweptItem, item_at, joined, onto, swept, swept_from}
use Rattle.vex_encode.specs.Sweep.Lemmas.{from-step, from-stop}
use Rattle.vex_calls.specs.declared.flat_instruction.FlatInstruction.{FlatInstruction}
use Rattle.vex_calls.specs.Errors.{decode_error, error_number}
use Rattle.vex_calls.specs.Instructions.{flat_instruction}
use Rattle.vex_c.specs.Runs.{HoldsRun, end_number, flat_item, run_number}

-- the items, and then a sweep
abbrev after : List SweptItem → Swept → Swept
after items swept = record { items = items ++ swept.items; end = swept.end }

after-push : (items : List SweptItem) (item : SweptItem) (swept : Swept)
    → after items (onto item swept) ≡ after (items ++ item ∷ []) swept
after-push items item swept = ap (λ (is : List SweptItem). record { items = is; end = swept.end })
    (sym (append_assoc items (item ∷ []) swept.items))

joined-push : (items : List SweptItem) (item : SweptItem) → joined (items ++ item ∷ []) ≡ joined items ++ item.bytes
joined-push items item = flat_map-append (λ (i : SweptItem). i.bytes) items (item ∷ [])
    ∙ ap (λ t. joined items ++ t) (append-nil item.bytes)

-- one more place that is written behind those that were
set-next : (front old : List FlatInstruction) (k : ℕ) (value : FlatInstruction) → length front ≡ k → k < length old
    → set (front ++ drop k old) k value ≡ (front ++ value ∷ []) ++ drop (k + 1) old
set-next front old k value long within =
    ap (λ t. set (front ++ t) k value) (drop-cons old k value within)
    ∙ ap (λ n. set (front ++ get_or old k value ∷ drop (suc k) old) n value) (sym long)
    ∙ set-append_seam front (get_or old k value) (drop (suc k) old) value
    ∙ sym (append_assoc front (value ∷ []) (drop (suc k) old))
    ∙ ap (λ n. (front ++ value ∷ []) ++ drop n old) (sym (add-one k))

-- so many instructions, which the bytes before a place are, stand in the places
pub record Running (settings : List Bool) (bytes : List ℕ) (old now : List FlatInstruction) (count place : ℕ)
    : Type 0 where
  pub items : List SweptItem
  pub within : place ≤ length bytes
  pub counted : length items ≡ count
  pub same : swept settings bytes ≡ after items (swept_from settings 0 place (drop place bytes))
  pub front : length (joined items) ≡ place
  pub held : now ≡ map flat_item items ++ drop count old

module _ (settings : List Bool) (bytes : List ℕ) (old : List FlatInstruction) where
  pub Running-first : Running settings bytes old old 0 0
  Running-first = record {
    items = [];
    within = omega arith;
    counted = refl;
    same = refl;
    front = refl;
    held = refl;
  }

  module _ (now : List FlatInstruction) (count place : ℕ) (so_far : Running settings bytes old now count place) where
    pub Running-step : (decoded : Decoded) → decode settings (drop place bytes) ≡ Ok decoded → 1 ≤ decoded.len
        → decoded.len ≤ length (drop place bytes) → count < length old
        → Running settings bytes old (set now count (flat_instruction decoded)) (count + 1) (place + decoded.len)
    Running-step decoded first some fits room =
        let n = decoded.len in
        let items = so_far.items in
        let item : SweptItem = item_at place (drop place bytes) decoded in
        let left = length-drop place bytes in
        let long : length item.bytes ≡ n = length-take-le n (drop place bytes) fits in
        let written : length (map flat_item items) ≡ count = length-map items flat_item ∙ so_far.counted in
        record {
          items = items ++ item ∷ [];
          within = omega (arith, fits, left, so_far.within);
          counted = omega (arith, length-append items (item ∷ []), so_far.counted);
          same =
              so_far.same
              ∙ ap (after items) (from-step settings place (drop place bytes) decoded first some fits)
              ∙ after-push items item (swept_from settings 0 (place + n) (drop n (drop place bytes)))
              ∙ ap (λ rest. after (items ++ item ∷ []) (swept_from settings 0 (place + n) rest))
              (drop-drop n place bytes);
          front = ap length (joined-push items item)
              ∙ omega (arith, length-append (joined items) item.bytes, so_far.front, long);
          held =
              ap (λ is. set is count (flat_instruction decoded)) so_far.held
              ∙ set-next (map flat_item items) old count (flat_instruction decoded) written room
              ∙ ap (λ is. is ++ drop (count + 1) old) (sym (map-append flat_item items (item ∷ [])));
        }

    -- how it ends, by what the whole sweep is
    finished : (answer : ℕ) (whole : Swept) → swept settings bytes ≡ whole → take (length old) whole.items ≡ so_far.items
        → answer ≡ run_number (length old) whole
        → HoldsRun settings bytes old now (record { instructions = count; bytes = place }) answer
    finished answer whole is taken number =
        let items : take (length old) (swept settings bytes).items ≡ so_far.items =
        ap (λ (s : Swept). take (length old) s.items) is ∙ taken in
        record {
          held =
              so_far.held
              ∙ ap (λ k. map flat_item so_far.items ++ drop k old) (sym so_far.counted)
              ∙ ap (λ is. map flat_item is ++ drop (length is) old) (sym items);
          instructions = sym so_far.counted ∙ ap length (sym items);
          bytes = sym so_far.front ∙ ap (λ is. length (joined is)) (sym items);
          number = number ∙ ap (run_number (length old)) (sym is);
        }

    full_number : (n m k : ℕ) → m ≤ n → 0 ≡ (cond (nat_lt n m) k 0)
    full_number n m k past = grind (arith, nat_tests)

    more_number : (n m k : ℕ) → n < m → k ≡ (cond (nat_lt n m) k 0)
    more_number n m k below = grind (arith, nat_tests)

    -- the places are full
    pub Running-full : count ≡ length old
        → HoldsRun settings bytes old now (record { instructions = count; bytes = place }) 0
    Running-full full =
        let rest = swept_from settings 0 place (drop place bytes) in
        finished 0 (after so_far.items rest) so_far.same
        (take_at so_far.items rest.items (length old) (so_far.counted ∙ full))
        (full_number (length (so_far.items ++ rest.items)) (length old) (end_number rest.end)
        (omega (arith, length-append so_far.items rest.items, so_far.counted, full)))

    -- no byte is left
    pub Running-end : length bytes ≤ place → count < length old
        → HoldsRun settings bytes old now (record { instructions = count; bytes = place }) 0
    unfolding swept_from
    Running-end all room =
        let whole : swept settings bytes ≡ record { items = so_far.items; end = End } =
        so_far.same
        ∙ ap (λ rest. after so_far.items (swept_from settings 0 place rest)) (drop_all place bytes all)
        ∙ ap (λ (is : List SweptItem). record { items = is; end = End }) (append-nil so_far.items) in
        finished 0 _ whole (take_all (length old) so_far.items (omega (arith, so_far.counted, room)))
        (more_number (length so_far.items) (length old) 0 (omega (arith, so_far.counted, room)))

    -- an error blocks the rest
    pub Running-stop : (error : DecodeError) → decode settings (drop place bytes) ≡ Err error
        → place < length bytes → count < length old
        → HoldsRun settings bytes old now (record { instructions = count; bytes = place })
        (error_number (decode_error error))
    Running-stop error first some room =
        let whole : swept settings bytes ≡ record { items = so_far.items; end = Stopped place error } =
        so_far.same
        ∙ ap (after so_far.items) (from-stop settings place (drop place bytes) error first
        (omega (arith, some, length-drop place bytes)))
        ∙ ap (λ (is : List SweptItem). record { items = is; end = Stopped place error }) (append-nil so_far.items) in
        finished _ _ whole (take_all (length old) so_far.items (omega (arith, so_far.counted, room)))
        (more_number (length so_far.items) (length old) (error_number (decode_error error))
        (omega (arith, so_far.counted, room)))
