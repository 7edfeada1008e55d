-- What holds of the table by tests that are computed: of all entries at most one has a key, and opcode bytes are bytes.
use Rattle.std.specs.Prelude.{◌≡◌, refl, ℕ, ◌<◌, Bool, true, false, not, ◌==◌, nat_lt, List, [], ◌∷◌, map, filter}
use Rattle.std.proofs.Common.{inl, inr, sym, ◌∙◌, subst, arith}
use Rattle.std.proofs.lemmas.Bool.{eqb-true, eq-eqb}
use Rattle.std.proofs.lemmas.Bool.Decides.{nat_tests}
use Rattle.vex_rows.specs.declared.entry.Entry.{Entry}
use Rattle.vex_rows.specs.declared.entry.Rule.{Rule}
use Rattle.vex_rows.specs.declared.entry.Rule.TheVariants.{Zero, One}
use Rattle.vex_rows.specs.declared.key.Key.{Key}
use Rattle.vex_rows.specs.Rules.{has_key, allows, map_number, pp_number}
use Rattle.vex_rows.specs.Table.{table}
use Rattle.vex_rows.specs.Row.{Among}
use Rattle.vex_rows.specs.WellFormed.{agree, share_key, clashes, large_bytes}
use Rattle.vex_rows.specs.Row.Lists.{both-parts, parts-both, among-filter, none-append, none-map}

-- no two entries have a key in common
no_clashes : clashes table ≡ []
unfolding table
no_clashes = refl

-- what it is to have a key
pub record HasKey (entry : Entry) (key : Key) : Type 0 where
  pub byte : entry.byte ≡ key.byte
  pub map : map_number entry.map ≡ map_number key.map
  pub pp : pp_number entry.pp ≡ pp_number key.pp
  pub w : allows entry.w key.w ≡ true
  pub l : allows entry.l key.l ≡ true

pub from-has_key : (entry : Entry) (key : Key) → has_key entry key ≡ true → HasKey entry key
unfolding has_key
from-has_key entry key h =
    let at_l = both-parts _ (allows entry.l key.l) h in
    let at_w = both-parts _ (allows entry.w key.w) at_l.0 in
    let at_pp = both-parts _ (pp_number entry.pp == pp_number key.pp) at_w.0 in
    let at_map = both-parts (entry.byte == key.byte) (map_number entry.map == map_number key.map) at_pp.0 in
    record {
      byte = eqb-true _ _ at_map.0;
      map = eqb-true _ _ at_map.1;
      pp = eqb-true _ _ at_pp.1;
      w = at_w.1;
      l =
          at_l.1;
    }

pub to-has_key : (entry : Entry) (key : Key) → HasKey entry key → has_key entry key ≡ true
unfolding has_key
to-has_key entry key h =
    parts-both _ _ (parts-both _ _ (parts-both _ _ (parts-both _ _ (eq-eqb _ _ h.byte) (eq-eqb _ _ h.map))
    (eq-eqb _ _ h.pp)) h.w) h.l

-- two rules that allow one bit agree
allowed-agree : (a b : Rule) (bit : Bool) → allows a bit ≡ true → allows b bit ≡ true → agree a b ≡ true
allowed-agree Zero One true h k = cc
allowed-agree Zero One false h k = cc
allowed-agree One Zero true h k = cc
allowed-agree One Zero false h k = cc
allowed-agree _ _ bit h k = refl

-- two entries that have one key share it
shared : (a b : Entry) (key : Key) → has_key a key ≡ true → has_key b key ≡ true → share_key a b ≡ true
shared a b key h k =
    let p = from-has_key a key h in
    let q = from-has_key b key k in
    parts-both _ _ (parts-both _ _ (parts-both _ _ (parts-both _ _
    (eq-eqb _ _ (p.byte ∙ sym q.byte)) (eq-eqb _ _ (p.map ∙ sym q.map))) (eq-eqb _ _ (p.pp ∙ sym q.pp)))
    (allowed-agree a.w b.w key.w p.w q.w)) (allowed-agree a.l b.l key.l p.l q.l)

-- entries of a list without clashes that have one key are one
only_one : (entries : List Entry) → clashes entries ≡ [] → (a b : Entry) (key : Key) → Among a entries
    → Among b entries → has_key a key ≡ true → has_key b key ≡ true → a ≡ b
only_one [] none a b key m n h k = absurd m
only_one (entry ∷ entries) none a b key (inl e) (inl f) h k = e ∙ sym f
only_one (entry ∷ entries) none a b key (inl e) (inr n) h k =
    let empty = none-map (λ other. (entry, other)) (filter (share_key entry) entries)
    (none-append (map (λ other. (entry, other)) (filter (share_key entry) entries)) (clashes entries) none).0 in
    absurd (subst (Among b) empty (among-filter (share_key entry) b entries
    (subst (λ c. share_key c b ≡ true) e (shared a b key h k)) n))
only_one (entry ∷ entries) none a b key (inr m) (inl f) h k =
    let empty = none-map (λ other. (entry, other)) (filter (share_key entry) entries)
    (none-append (map (λ other. (entry, other)) (filter (share_key entry) entries)) (clashes entries) none).0 in
    absurd (subst (Among a) empty (among-filter (share_key entry) a entries
    (subst (λ c. share_key c a ≡ true) f (shared b a key k h)) m))
only_one (entry ∷ entries) none a b key (inr m) (inr n) h k =
    only_one entries (none-append (map (λ other. (entry, other)) (filter (share_key entry) entries)) (clashes entries)
    none).1 a b key m n h k

-- of the entries of the table at most one has a key
pub one_entry : (a b : Entry) (key : Key) → Among a table → Among b table → has_key a key ≡ true → has_key b key ≡ true
    → a ≡ b
one_entry a b key m n h k = only_one table no_clashes a b key m n h k

-- every opcode byte is a byte
no_large_bytes : large_bytes table ≡ []
unfolding table
no_large_bytes = refl

byte_of_test : (n : ℕ) → not (nat_lt n 256) ≡ false → n < 256
byte_of_test n h = grind (arith, nat_tests)

pub byte_below : (entry : Entry) → Among entry table → entry.byte < 256
byte_below entry m = byte_of_test entry.byte (by (not (nat_lt entry.byte 256)) refl) where
  by : (b : Bool) → not (nat_lt entry.byte 256) ≡ b → not (nat_lt entry.byte 256) ≡ false
  by true e = absurd (subst (Among entry) no_large_bytes
      (among-filter (λ entry. not (nat_lt entry.byte 256)) entry table e m))
  by false e = e
