-- Which settings accept a run.
use Rattle.std.proofs.Common.{◌||◌, subst, ◌≡◌, ℕ, ◌≤◌, Bool, true, false, not, List, [], ◌∷◌, Option, Some, None}
use Rattle.std.proofs.Common.{refl, sym, ap, ◌∙◌, arith}
use Rattle.std.specs.Prelude.{◌==◌, All, Contains, cond, find, option_map}
use Rattle.std.specs.List.{cons_option, filter_map, list_any, range_with_len}
use Rattle.std.proofs.lemmas.List.Elements.{All-cons, All-contains, All-nil}
use Rattle.std.proofs.lemmas.Bool.{eqb-true}
use Rattle.x86_operand.specs.declared.error.DecodeError.{DecodeError}
use Rattle.x86_settings.specs.Bits.{all_bits, is_set}
use Rattle.x86_settings.specs.Sets.{all_set, is_among}
use Rattle.x86_permit.specs.Permission.{permits}
use Rattle.x86_permit.specs.Laws.{AllSettingsPermitAll}
use Rattle.x86_permit.specs.LeastSettings.{least}
use Rattle.x86_permit.specs.LeastSettings.Lemmas.{permits-least}
use Rattle.x86_address.specs.Bytes.{IsBytes}
use Rattle.vex_decode.specs.Laws.{AreWithin, DecodeIsSpelling, VexOpcodes}
use Rattle.vex_encode.specs.declared.sweeper.SweepEnd.{SweepEnd}
use Rattle.vex_encode.specs.declared.sweeper.SweepEnd.TheVariants.{End, Stopped}
use Rattle.vex_encode.specs.Sweep.{Swept, SweptItem, swept}
use Rattle.vex_check.specs.declared.needs.First.{First}
use Rattle.vex_check.specs.Needs.{all_needed, fault, fault_by, first_needing, first_of, firsts, is_marked}
use Rattle.vex_check.specs.Needs.{needs, run}
use Rattle.vex_check.specs.Accepted.{IsLeastLack, NeedsSayWhoAccepts, NeedsSayWhereOthersStop}
use Rattle.vex_check.specs.Accepted.{StopsAtLack}
use Rattle.vex_check.proofs.Bits.{below, each-among, false-is-not-true, five, from-made, lacking, needed-five, set-each}
use Rattle.vex_check.proofs.Bits.{to-made}
use Rattle.vex_check.proofs.Places.{Ascend, FoundBy, contains-here, contains-later, found-at, found-sooner}
use Rattle.vex_check.proofs.Places.{none-passes}
use Rattle.vex_check.proofs.Runs.{IsVex, end-cut, end_at, is_permitted, run-ascends, run-vex}

no-some : {item : SweptItem} → None ≡ Some item → ⊥
no-some e = cc

found-one : {a b : SweptItem} → Some a ≡ Some b → a ≡ b
found-one e = cc

some-first : {a b : First} → Some a ≡ Some b → a ≡ b
some-first e = cc

not-true : (b : Bool) → not b ≡ true → b ≡ false
not-true true h = cc
not-true false h = refl

-- an unmarked instruction with a VEX opcode is permitted exactly where its least settings are set
by-least : (settings : List Bool) (item : SweptItem) → IsVex item → is_marked item ≡ false
    → is_permitted settings item ≡ all_set settings (least item.decoded.meaning.opcode)
by-least settings item vex unmarked =
    ap (λ mark. permits settings mark item.decoded.meaning.opcode) unmarked
    ∙ permits-least settings item.decoded.meaning.opcode vex

-- ---- what is found, and whether there is any

found-any : (p : SweptItem → Bool) (items : List SweptItem) (item : SweptItem) → find p items ≡ Some item
    → list_any p items ≡ true
found-any p [] item h = cc
found-any p (first ∷ items) item h = by (p first) h (λ k. found-any p items item k) where
  by : (b : Bool) → cond b (Some first) (find p items) ≡ Some item
      → (find p items ≡ Some item → list_any p items ≡ true) → (b || list_any p items) ≡ true
  by true h later = refl
  by false h later = later h

pub record Found (p : SweptItem → Bool) (items : List SweptItem) : Type 0 where
  pub item : SweptItem
  pub is : find p items ≡ Some item

any-found : (p : SweptItem → Bool) (items : List SweptItem) → list_any p items ≡ true → Found p items
any-found p [] h = absurd (false-is-not-true h)
any-found p (first ∷ items) h = by (p first) refl h (λ k. any-found p items k) where
  by : (b : Bool) → p first ≡ b → (b || list_any p items) ≡ true → (list_any p items ≡ true → Found p items)
      → Found p (first ∷ items)
  by true e h later = record { item = first; is = ap (λ c. cond c (Some first) (find p items)) e }
  by false e h later =
      let l = later h in
      record { item = l.item; is = ap (λ c. cond c (Some first) (find p items)) e ∙ l.is }

-- what is kept of a list that is mapped
kept-contains : (f : ℕ → Option First) (bits : List ℕ) (bit : ℕ) (first : First) → is_among bits bit ≡ true
    → f bit ≡ Some first
    → Contains (filter_map f bits) first
kept-contains f [] bit first among is = absurd (false-is-not-true among)
kept-contains f (b ∷ bits) bit first among is =
    by (b == bit) refl among (λ k. kept-contains f bits bit first k is) where
      onto : (o : Option First) → Contains (filter_map f bits) first
          → Contains (cons_option o (filter_map f bits)) first
      onto None has = has
      onto (Some other) has = contains-later other (filter_map f bits) first has

      by : (c : Bool) → (b == bit) ≡ c → (c || is_among bits bit) ≡ true
          → (is_among bits bit ≡ true → Contains (filter_map f bits) first)
          → Contains (cons_option (f b) (filter_map f bits)) first
      by true e among later =
          let same : f b ≡ Some first = ap f (eqb-true b bit e) ∙ is in
          subst (λ o. Contains (cons_option o (filter_map f bits)) first) (sym same)
          (contains-here first (filter_map f bits))
      by false e among later = onto (f b) (later among)

all-kept : (P : First → Type 0) (f : ℕ → Option First) → ((bit : ℕ) (first : First) → f bit ≡ Some first → P first)
    → (bits : List ℕ)
    → All P (filter_map f bits)
all-kept P f h [] = All-nil P
all-kept P f h (b ∷ bits) = by (f b) refl (all-kept P f h bits) where
  by : (o : Option First) → f b ≡ o → All P (filter_map f bits) → All P (cons_option o (filter_map f bits))
  by None e later = later
  by (Some first) e later = All-cons P first (filter_map f bits) (h b first e) later

-- a bit below 128 is among those from 0 to 127
among-all : (bit : ℕ) → is_among five bit ≡ true → is_among (range_with_len 0 128) bit ≡ true
among-all bit h = each-among five (range_with_len 0 128) bit refl h

-- ---- the law

module _ (settings : List Bool) (items : List SweptItem) (up : Ascend 0 items) (vex : All IsVex items)
    (unmarked : All (λ item. is_marked item ≡ false) items) where
  -- an instruction that the settings don't permit
  refused : SweptItem → Bool
  refused item = not (is_permitted settings item)

  -- one that needs a bit which they lack
  refused-lacking : (item : SweptItem) (bit : ℕ) → Contains items item → needs bit item ≡ true
      → is_set settings bit ≡ false → refused item ≡ true
  unfolding refused
  refused-lacking item bit has need lack =
      by (is_permitted settings item) (by-least settings item (All-contains IsVex items item vex has)
      (All-contains (λ i. is_marked i ≡ false) items item unmarked has)) where
        by : (b : Bool) → b ≡ all_set settings (least item.decoded.meaning.opcode) → not b ≡ true
        by true e = absurd (false-is-not-true
            (sym lack ∙ set-each settings (least item.decoded.meaning.opcode) bit (sym e) need))
        by false e = refl

  -- the first that needs such a bit stands no earlier than the first that is refused
  no-sooner : (bit : ℕ) (item : SweptItem) → find (needs bit) items ≡ Some item → is_set settings bit ≡ false
      → FoundBy refused items item.place
  no-sooner bit item h lack =
      let at = found-at (needs bit) items item h in
      found-sooner (needs bit) refused 0 items item up h (refused-lacking item bit at.among at.passes lack)

  -- a bit that the first one refused needs and the settings lack, and the first that needs it
  record FirstLack (item : SweptItem) : Type 0 where
    bit : ℕ
    is_five : is_among five bit ≡ true
    lacked : is_set settings bit ≡ false
    other : SweptItem
    is : find (needs bit) items ≡ Some other
    here : other.place ≡ item.place

  first-lack : (item : SweptItem) → find refused items ≡ Some item → FirstLack item
  unfolding refused
  first-lack item h =
      let at = found-at refused items item h in
      let least_of = least item.decoded.meaning.opcode in
      let lack = lacking settings least_of
      (sym (by-least settings item (All-contains IsVex items item vex at.among)
      (All-contains (λ i. is_marked i ≡ false) items item unmarked at.among))
      ∙ not-true (is_permitted settings item) at.passes) in
      let sooner = found-sooner refused (needs lack.bit) 0 items item up h lack.among in
      let later = no-sooner lack.bit sooner.item sooner.is lack.lacked in
      let same : later.item ≡ item = found-one (sym later.is ∙ h) in
      let place : later.item.place ≡ item.place = ap (λ (i : SweptItem). i.place) same in
      record {
        bit = lack.bit;
        is_five = needed-five item.decoded.meaning.opcode lack.bit lack.among;
        lacked = lack.lacked;
        other = sooner.item;
        is = sooner.is;
        here = omega (arith, place, later.by, sooner.by);
      }

  -- settings with every bit that is needed refuse none
  none-refused : AreWithin (all_needed items) settings → find refused items ≡ None
  unfolding all_needed
  none-refused within = by (find refused items) refl where
    by : (o : Option SweptItem) → find refused items ≡ o → o ≡ None
    by None e = refl
    by (Some item) e =
        let l = first-lack item e in
        let needed = to-made (λ bit. list_any (needs bit) items) l.bit (below l.bit l.is_five)
        (found-any (needs l.bit) items l.other l.is) in
        absurd (false-is-not-true (sym l.lacked ∙ within l.bit needed))

  -- and settings that refuse none have every such bit
  all-within : find refused items ≡ None → AreWithin (all_needed items) settings
  unfolding all_needed
  all-within none bit h = by (is_set settings bit) refl where
    found : Found (needs bit) items
    found = any-found (needs bit) items (from-made (λ bit. list_any (needs bit) items) bit h)

    by : (b : Bool) → is_set settings bit ≡ b → b ≡ true
    by true e = refl
    by false e = absurd (no-some (sym none ∙ (no-sooner bit found.item found.is e).is))

  -- the first that is refused stands at the least place that needs a bit which the settings lack
  least-lack : (item : SweptItem) → find refused items ≡ Some item → IsLeastLack settings (firsts items) item.place
  unfolding firsts
  least-lack item h =
      let l = first-lack item h in
      record {
        first = first_of l.bit l.other;
        among = kept-contains (first_needing items) (range_with_len 0 128) l.bit (first_of l.bit l.other)
            (among-all l.bit l.is_five) (ap (option_map (first_of l.bit)) l.is);
        lacked = l.lacked;
        here = l.here;
        least = all-kept (λ (other : First). is_set settings other.bit ≡ false → item.place ≤ other.place)
            (first_needing items) each-later (range_with_len 0 128);
      } where
        later : (bit : ℕ) (o : Option SweptItem) (first : First) → find (needs bit) items ≡ o
            → option_map (first_of bit) o ≡ Some first
            → is_set settings first.bit ≡ false → item.place ≤ first.place
        later bit None first e is lack = cc
        later bit (Some other) first e is lack =
            let f : first_of bit other ≡ first = some-first is in
            let lacks : is_set settings bit ≡ false = ap (λ (g : First). is_set settings g.bit) f ∙ lack in
            let found = no-sooner bit other e lacks in
            let same : found.item ≡ item = found-one (sym found.is ∙ h) in
            let place : found.item.place ≡ item.place = ap (λ (i : SweptItem). i.place) same in
            let at : other.place ≡ first.place = ap (λ (g : First). g.place) f in
            omega (arith, place, at, found.by)

        each-later : (bit : ℕ) (first : First) → first_needing items bit ≡ Some first
            → is_set settings first.bit ≡ false → item.place ≤ first.place
        each-later bit first is lack = later bit (find (needs bit) items) first refl is lack

no-stop : {place : ℕ} {error : DecodeError} → End ≡ Stopped place error → ⊥
no-stop e = cc

-- a run without a fault has no marked instruction, and no end but that of its bytes
record Faultless (swept : Swept) : Type 0 where
  unmarked : All (λ item. is_marked item ≡ false) swept.items
  ended : swept.end ≡ End

faultless : (swept : Swept) → fault swept ≡ None → Faultless swept
faultless swept h = by (find is_marked swept.items) refl swept.end refl h where
  by : (o : Option SweptItem) → find is_marked swept.items ≡ o → (end : SweepEnd) → swept.end ≡ end
      → fault_by o end ≡ None → Faultless swept
  by None e End is h = record { unmarked = none-passes is_marked swept.items e; ended = is }
  by None e (Stopped place error) is h = cc
  by (Some item) e end is h = cc

module _ (all : AllSettingsPermitAll) (read : DecodeIsSpelling) (are_vex : VexOpcodes) (bytes : List ℕ)
    (is : IsBytes bytes) (none : fault (run bytes) ≡ None)
    (settings : List Bool) where
  ascend : Ascend 0 (run bytes).items
  ascend = run-ascends all_bits 0 0 bytes

  vex : All IsVex (run bytes).items
  vex = run-vex read are_vex all_bits 0 0 bytes is

  unmarked : All (λ item. is_marked item ≡ false) (run bytes).items
  unmarked = (faultless (run bytes) none).unmarked

  -- how a sweep ends under the settings
  ends-by : (o : Option SweptItem) → find (λ item. not (is_permitted settings item)) (run bytes).items ≡ o
      → (swept settings bytes).end ≡ end_at o End
  ends-by o e =
      end-cut all settings 0 0 bytes
      ∙ ap (λ o. end_at o (run bytes).end) e
      ∙ ap (end_at o) (faultless (run bytes) none).ended

  ends-where : AreWithin (all_needed (run bytes).items) settings → (swept settings bytes).end ≡ End
  unfolding refused
  ends-where within = ends-by None (none-refused settings (run bytes).items ascend vex unmarked within)

  within-where : (swept settings bytes).end ≡ End → AreWithin (all_needed (run bytes).items) settings
  unfolding refused
  within-where ended = all-within settings (run bytes).items ascend vex unmarked
      (by (find (λ item. not (is_permitted settings item)) (run bytes).items) refl) where
        by : (o : Option SweptItem) → find (λ item. not (is_permitted settings item)) (run bytes).items ≡ o → o ≡ None
        by None e = refl
        by (Some item) e = absurd (no-stop (sym ended ∙ ends-by (Some item) e))

  stops-where : (AreWithin (all_needed (run bytes).items) settings → ⊥)
      → StopsAtLack settings bytes (firsts (run bytes).items)
  unfolding refused
  stops-where not_within = by (find (λ item. not (is_permitted settings item)) (run bytes).items) refl where
    by : (o : Option SweptItem) → find (λ item. not (is_permitted settings item)) (run bytes).items ≡ o
        → StopsAtLack settings bytes (firsts (run bytes).items)
    by None e = absurd (not_within (all-within settings (run bytes).items ascend vex unmarked e))
    by (Some item) e = record {
      place = item.place;
      stopped = ends-by (Some item) e;
      lack = least-lack settings (run bytes).items ascend vex unmarked item e;
    }

module _ (all : AllSettingsPermitAll) (read : DecodeIsSpelling) (are_vex : VexOpcodes) where
  pub who_accepts : NeedsSayWhoAccepts
  who_accepts bytes is none settings = (
    ends-where all read are_vex bytes is none settings,
    within-where all read are_vex bytes is none settings,
  )

  pub where_others_stop : NeedsSayWhereOthersStop
  where_others_stop bytes is none settings = stops-where all read are_vex bytes is none settings
