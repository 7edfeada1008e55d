-- A sweep, instruction by instruction.
use Rattle.std.proofs.Common.{◌≡◌, ℕ, ◌+◌, ◌<◌, ◌≤◌, Bool, List, [], ◌∷◌, ◌++◌, length, take, drop, Some, Ok, Err, refl}
use Rattle.std.proofs.Common.{sym, ap, ◌∙◌, arith, add-zero, append_assoc, take-append-drop, zero-add}
use Rattle.std.specs.Prelude.{All}
use Rattle.std.proofs.lemmas.List.{append-nil, drop-drop, drop_all, length-append, length-drop, length-take-le}
use Rattle.std.proofs.lemmas.List.{take_all}
use Rattle.std.proofs.lemmas.List.Elements.{All-nil, All-push}
use Rattle.std.proofs.lemmas.Grind.{flat_map-append}
use Rattle.std.proofs.Math.Seq.{take-add}
use Rattle.x86_operand.specs.declared.error.DecodeError.{DecodeError}
use Rattle.x86_operand.specs.Meaning.{Decoded}
use Rattle.x86_address.specs.Bytes.{Begins}
use Rattle.vex_decode.specs.Blocked.{blocked}
use Rattle.vex_decode.specs.Decode.{decode}
use Rattle.vex_encode.specs.declared.sweeper.SweepEnd.TheVariants.{End, Stopped}
use Rattle.vex_encode.specs.Sweep.{AreInPlace, EndsAfter, IsPermitted, Swept, SweptItem, item_at}
use Rattle.vex_encode.specs.Sweep.{joined, onto, swept, swept_from}
use Rattle.vex_encode.specs.Sweep.Lemmas.{from-step, from-stop}

-- ---- the items so far

joined-push : (items : List SweptItem) (item : SweptItem) → joined (items ++ item ∷ []) ≡ joined items ++ item.bytes
joined-push items item = flat_map-append (λ (i : SweptItem). i.bytes) items (item ∷ [])
    ∙ ap (λ t. joined items ++ t) (append-nil item.bytes)

in_place-push : (place : ℕ) (items : List SweptItem) (item : SweptItem) → AreInPlace place items
    → item.place ≡ place + length (joined items)
    → AreInPlace place (items ++ item ∷ [])
in_place-push place [] item are is = (is ∙ add-zero place, tt)
in_place-push place (first ∷ items) item are is = (
  are.0,
  in_place-push (place + length first.bytes) items item are.1
      (omega (arith, is, length-append first.bytes (joined items))),
)

-- the items, and then a sweep
pub after : List SweptItem → Swept → Swept
after items swept = record { items = items ++ swept.items; end = swept.end }

after-push : (items : List SweptItem) (item : SweptItem) (swept : Swept)
    → after items (onto item swept) ≡ after (items ++ item ∷ []) swept
unfolding after
after-push items item swept = ap (λ (is : List SweptItem). record { items = is; end = swept.end })
    (sym (append_assoc items (item ∷ []) swept.items))

-- the bytes before a place were swept, and these are their items
pub record Sweeping (settings : List Bool) (bytes : List ℕ) (items : List SweptItem) (place : ℕ) : Type 0 where
  pub within : place ≤ length bytes
  pub front : joined items ≡ take place bytes
  pub same : swept settings bytes ≡ after items (swept_from settings 0 place (drop place bytes))
  pub permitted : All (IsPermitted settings) items
  pub in_place : AreInPlace 0 items

module _ (settings : List Bool) (bytes : List ℕ) where
  pub Sweeping-first : Sweeping settings bytes [] 0
  unfolding after
  Sweeping-first = record {
    within = omega arith;
    front = refl;
    same = refl;
    permitted =
        All-nil (IsPermitted settings);
    in_place = tt;
  }

  module _ (items : List SweptItem) (place : ℕ) (so_far : Sweeping settings bytes items place) where
    -- the number of bytes that were read
    length-front : length (joined items) ≡ place
    length-front = omega (arith, so_far.within, ap length so_far.front, length-take-le place bytes so_far.within)

    pub Sweeping-step : (item : SweptItem) (decoded : Decoded) → item ≡ item_at place (drop place bytes) decoded
        → decode settings (drop place bytes) ≡ Ok decoded → 1 ≤ decoded.len
        → decoded.len ≤ length (drop place bytes)
        → IsPermitted settings item → Sweeping settings bytes (items ++ item ∷ []) (place + length item.bytes)
    Sweeping-step item decoded is first some fits permitted =
        let n = decoded.len in
        let left = length-drop place bytes in
        let long : length item.bytes ≡ n = ap (λ (i : SweptItem). length i.bytes) is
        ∙ length-take-le n (drop place bytes) fits in
        let step = from-step settings place (drop place bytes) decoded first some fits in
        record {
          within = omega (arith, long, fits, left, so_far.within);
          front =
              joined-push items item
              ∙ ap (λ t. t ++ item.bytes) so_far.front
              ∙ ap (λ (i : SweptItem). take place bytes ++ i.bytes) is
              ∙ sym (take-add place n bytes)
              ∙ ap (λ k. take (place + k) bytes) (sym long);
          same =
              so_far.same
              ∙ ap (after items) step
              ∙ after-push items (item_at place (drop place bytes) decoded) _
              ∙ ap (λ (i : SweptItem). after (items ++ i ∷ [])
              (swept_from settings 0 (place + n) (drop n (drop place bytes)))) (sym is)
              ∙ ap (λ rest. after (items ++ item ∷ []) (swept_from settings 0 (place + n) rest))
              (drop-drop n place bytes)
              ∙ ap (λ k. after (items ++ item ∷ []) (swept_from settings 0 (place + k) (drop (place + k) bytes)))
              (sym long);
          permitted = All-push (IsPermitted settings) items item so_far.permitted permitted;
          in_place = in_place-push 0 items item so_far.in_place
              (ap (λ (i : SweptItem). i.place) is ∙ sym length-front ∙ sym (zero-add (length (joined items))));
        }

    -- ---- how it ends

    pub front-read : Begins (joined items) bytes
    front-read = (
      drop place bytes,
      sym (take-append-drop place bytes)
          ∙ ap (λ t. t ++ drop place bytes) (sym so_far.front),
    )

    pub Sweeping-end : length bytes ≤ place
        → (swept settings bytes ≡ record { items = items; end = End }) × EndsAfter settings (joined items) bytes End
    unfolding after swept_from
    Sweeping-end all =
        let none = drop_all place bytes all in (
          so_far.same
              ∙ ap (λ rest. after items (swept_from settings 0 place rest)) none
              ∙ ap (λ (is : List SweptItem). record { items = is; end = End }) (append-nil items),
          sym (so_far.front ∙ take_all place bytes all),
        )

    pub Sweeping-stop : (error : DecodeError) → place < length bytes
        → decode settings (drop place bytes) ≡ Err error
        → swept settings bytes ≡ record { items = items; end = Stopped place error }
    unfolding after
    Sweeping-stop error some first =
        so_far.same
        ∙ ap (after items) (from-stop settings place (drop place bytes) error first
        (omega (arith, some, length-drop place bytes)))
        ∙ ap (λ (is : List SweptItem). record { items = is; end = Stopped place error }) (append-nil items)

    pub stopped : (error : DecodeError) (n : ℕ) → place < length bytes
        → blocked settings (drop place bytes) ≡ Some (error, n)
        → EndsAfter settings (joined items) bytes (Stopped place error)
    stopped error n some is = (sym length-front, some, (n, is))
