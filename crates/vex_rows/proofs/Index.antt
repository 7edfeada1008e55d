-- The cells of the direct index agree with the table.
use Rattle.std.proofs.Common.{◌≡◌, ◌≢◌, ℕ, suc, ◌<◌, ◌+◌, nat_lt, Bool, true, false, ◌&&◌, ◌==◌, List, [], ◌∷◌, ◌++◌}
use Rattle.std.proofs.Common.{flat_map, Option, Some, None, length, slice_get, refl, sym, ap, subst, ◌∙◌, arith, inl}
use Rattle.std.proofs.Common.{inr, eqb-true, ne_eqb, ltb-true}
use Rattle.vex_rows.specs.declared.entry.Entry.{Entry}
use Rattle.vex_rows.specs.declared.key.Key.{Key}
use Rattle.vex_rows.specs.declared.key.Map.{Map}
use Rattle.vex_rows.specs.declared.key.Map.TheVariants.{Map0F, Map0F38, Map0F3A}
use Rattle.vex_rows.specs.declared.key.Pp.{Pp}
use Rattle.vex_rows.specs.declared.key.Pp.TheVariants.{Plain, Prefix66, PrefixF3, PrefixF2}
use Rattle.vex_rows.specs.Cells.{cells_of}
use Rattle.vex_rows.specs.Index.{cell_of}
use Rattle.vex_rows.specs.Row.{Among}
use Rattle.vex_rows.specs.Rules.{allows, has_key, map_number, pp_number}
use Rattle.vex_rows.specs.Table.{table}
use Rattle.vex_rows.specs.Table.Lemmas.{from-has_key}
use Rattle.vex_rows.specs.Row.Lists.{both-parts, parts-both, none-append, none-flat_map, wrong, right, below}
use Rattle.vex_rows.specs.Row.Lists.{among-below, among_bits}

-- a key of an opcode map and an implied prefix
abbrev key_at : Map → Pp → ℕ → Bool → Bool → Key
key_at map pp byte w l = record { map = map; pp = pp; byte = byte; w = w; l = l }

-- ---- the cells of each entry's keys hold its place

-- whether the cell of an entry's key at a W and an L holds a place, where its rules allow them
unfoldable holds : ℕ → Entry → Bool → Bool → Bool
holds place entry w l = elim (allows entry.w w && allows entry.l l)
    [ true ↦ cell_of (key_at entry.map entry.pp entry.byte w l) == place | false ↦ true ]

unfoldable all_hold : ℕ → Entry → Bool
all_hold place entry = (holds place entry false false && holds place entry false true) &&
    (holds place entry true false && holds place entry true true)

-- the entries, counted from a place, of which some cell holds another place
unfoldable unplaced : ℕ → List Entry → List Entry
unplaced place [] = []
unplaced place (entry ∷ entries) = wrong (all_hold place entry) entry ++ unplaced (suc place) entries

none_unplaced : unplaced 0 table ≡ []
unfolding table unplaced all_hold holds cell_of cells_of
none_unplaced = refl

each : (p : Bool → Bool → Bool) → ((p false false && p false true) && (p true false && p true true)) ≡ true
    → (w l : Bool) → p w l ≡ true
each p h false false = (both-parts (p false false) _ (both-parts (p false false && p false true) _ h).0).0
each p h false true = (both-parts (p false false) _ (both-parts (p false false && p false true) _ h).0).1
each p h true false = (both-parts (p true false) _ (both-parts (p false false && p false true) _ h).1).0
each p h true true = (both-parts (p true false) _ (both-parts (p false false && p false true) _ h).1).1

-- an entry's place, which its cells hold
record Placed (entries : List Entry) (first : ℕ) (entry : Entry) : Type 0 where
  place : ℕ
  below : place < first + length entries
  held : all_hold place entry ≡ true

placed : (first : ℕ) (entries : List Entry) → unplaced first entries ≡ [] → (entry : Entry) → Among entry entries
    → Placed entries first entry
unfolding unplaced
placed first [] none entry m = absurd m
placed first (e ∷ entries) none entry (inl same) =
    record {
      place = first;
      below = omega arith;
      held = subst (λ x. all_hold first x ≡ true) (sym same)
          (right (all_hold first e) e (none-append (wrong (all_hold first e) e) (unplaced (suc first) entries) none).0);
    }
placed first (e ∷ entries) none entry (inr m) =
    let later = placed (suc first) entries
    (none-append (wrong (all_hold first e) e) (unplaced (suc first) entries) none).1 entry m in
    record { place = later.place; below = (let b = later.below in omega arith); held = later.held }

take_true : (b c : Bool) → b ≡ true → (elim b [ true ↦ c | false ↦ true ]) ≡ true → c ≡ true
take_true true c h k = k
take_true false c h k = cc

same_map : (a b : Map) → map_number a ≡ map_number b → a ≡ b
same_map Map0F Map0F e = refl
same_map Map0F Map0F38 e = absurd (omega arith)
same_map Map0F Map0F3A e = absurd (omega arith)
same_map Map0F38 Map0F e = absurd (omega arith)
same_map Map0F38 Map0F38 e = refl
same_map Map0F38 Map0F3A e = absurd (omega arith)
same_map Map0F3A Map0F e = absurd (omega arith)
same_map Map0F3A Map0F38 e = absurd (omega arith)
same_map Map0F3A Map0F3A e = refl

same_pp : (a b : Pp) → pp_number a ≡ pp_number b → a ≡ b
same_pp Plain Plain e = refl
same_pp Plain Prefix66 e = absurd (omega arith)
same_pp Plain PrefixF3 e = absurd (omega arith)
same_pp Plain PrefixF2 e = absurd (omega arith)
same_pp Prefix66 Plain e = absurd (omega arith)
same_pp Prefix66 Prefix66 e = refl
same_pp Prefix66 PrefixF3 e = absurd (omega arith)
same_pp Prefix66 PrefixF2 e = absurd (omega arith)
same_pp PrefixF3 Plain e = absurd (omega arith)
same_pp PrefixF3 Prefix66 e = absurd (omega arith)
same_pp PrefixF3 PrefixF3 e = refl
same_pp PrefixF3 PrefixF2 e = absurd (omega arith)
same_pp PrefixF2 Plain e = absurd (omega arith)
same_pp PrefixF2 Prefix66 e = absurd (omega arith)
same_pp PrefixF2 PrefixF3 e = absurd (omega arith)
same_pp PrefixF2 PrefixF2 e = refl

-- the cell of a key holds the place of an entry that has the key
cell-place : (entry : Entry) → Among entry table → (key : Key) → has_key entry key ≡ true → cell_of key < length table
unfolding holds all_hold
cell-place entry m key h =
    let at = placed 0 table none_unplaced entry m in
    let parts = from-has_key entry key h in
    let held = take_true (allows entry.w key.w && allows entry.l key.l) _ (parts-both _ _ parts.w parts.l)
    (each (holds at.place entry) at.held key.w key.l) in
    let same_key : key_at entry.map entry.pp entry.byte key.w key.l ≡ key =
    ap (λ map. key_at map entry.pp entry.byte key.w key.l) (same_map entry.map key.map parts.map)
    ∙ ap (λ pp. key_at key.map pp entry.byte key.w key.l) (same_pp entry.pp key.pp parts.pp)
    ∙ ap (λ byte. key_at key.map key.pp byte key.w key.l) parts.byte in
    let is : cell_of key ≡ at.place = sym (ap cell_of same_key) ∙ eqb-true _ _ held in
    let b = at.below in omega arith

-- ---- a cell that isn't empty names an entry that has its key

unfoldable names : ℕ → Key → Bool
names cell key = elim (cell == 65535) [
  | true ↦ true
  | false ↦ elim (slice_get table cell)
      [ Some entry ↦ has_key entry key | None ↦ false ]
]

-- a key whose cell names an entry that doesn't have it
abbrev misnamed_key : Key → List Key
misnamed_key key = wrong (names (cell_of key) key) key

abbrev misnamed_at : Map → Pp → ℕ → Bool → List Key
misnamed_at map pp byte w = flat_map (λ l. misnamed_key (key_at map pp byte w l)) (false ∷ true ∷ [])

abbrev misnamed_byte : Map → Pp → ℕ → List Key
misnamed_byte map pp byte = flat_map (misnamed_at map pp byte) (false ∷ true ∷ [])

-- the keys of an opcode map and an implied prefix whose cell names an entry that doesn't have the key
unfoldable misnamed : Map → Pp → List Key
misnamed map pp = flat_map (misnamed_byte map pp) (below 256)

named-Map0F-Plain : misnamed Map0F Plain ≡ []
unfolding table misnamed names cell_of cells_of has_key
named-Map0F-Plain = refl

named-Map0F-Prefix66 : misnamed Map0F Prefix66 ≡ []
unfolding table misnamed names cell_of cells_of has_key
named-Map0F-Prefix66 = refl

named-Map0F-PrefixF3 : misnamed Map0F PrefixF3 ≡ []
unfolding table misnamed names cell_of cells_of has_key
named-Map0F-PrefixF3 = refl

named-Map0F-PrefixF2 : misnamed Map0F PrefixF2 ≡ []
unfolding table misnamed names cell_of cells_of has_key
named-Map0F-PrefixF2 = refl

named-Map0F38-Plain : misnamed Map0F38 Plain ≡ []
unfolding table misnamed names cell_of cells_of has_key
named-Map0F38-Plain = refl

named-Map0F38-Prefix66 : misnamed Map0F38 Prefix66 ≡ []
unfolding table misnamed names cell_of cells_of has_key
named-Map0F38-Prefix66 = refl

named-Map0F38-PrefixF3 : misnamed Map0F38 PrefixF3 ≡ []
unfolding table misnamed names cell_of cells_of has_key
named-Map0F38-PrefixF3 = refl

named-Map0F38-PrefixF2 : misnamed Map0F38 PrefixF2 ≡ []
unfolding table misnamed names cell_of cells_of has_key
named-Map0F38-PrefixF2 = refl

named-Map0F3A-Plain : misnamed Map0F3A Plain ≡ []
unfolding table misnamed names cell_of cells_of has_key
named-Map0F3A-Plain = refl

named-Map0F3A-Prefix66 : misnamed Map0F3A Prefix66 ≡ []
unfolding table misnamed names cell_of cells_of has_key
named-Map0F3A-Prefix66 = refl

named-Map0F3A-PrefixF3 : misnamed Map0F3A PrefixF3 ≡ []
unfolding table misnamed names cell_of cells_of has_key
named-Map0F3A-PrefixF3 = refl

named-Map0F3A-PrefixF2 : misnamed Map0F3A PrefixF2 ≡ []
unfolding table misnamed names cell_of cells_of has_key
named-Map0F3A-PrefixF2 = refl

none_misnamed : (map : Map) (pp : Pp) → misnamed map pp ≡ []
none_misnamed Map0F Plain = named-Map0F-Plain
none_misnamed Map0F Prefix66 = named-Map0F-Prefix66
none_misnamed Map0F PrefixF3 = named-Map0F-PrefixF3
none_misnamed Map0F PrefixF2 = named-Map0F-PrefixF2
none_misnamed Map0F38 Plain = named-Map0F38-Plain
none_misnamed Map0F38 Prefix66 = named-Map0F38-Prefix66
none_misnamed Map0F38 PrefixF3 = named-Map0F38-PrefixF3
none_misnamed Map0F38 PrefixF2 = named-Map0F38-PrefixF2
none_misnamed Map0F3A Plain = named-Map0F3A-Plain
none_misnamed Map0F3A Prefix66 = named-Map0F3A-Prefix66
none_misnamed Map0F3A PrefixF3 = named-Map0F3A-PrefixF3
none_misnamed Map0F3A PrefixF2 = named-Map0F3A-PrefixF2

past : (b c : Bool) → b ≡ false → (elim b [ true ↦ true | false ↦ c ]) ≡ true → c ≡ true
past true c h k = cc
past false c h k = k

entry_case : (o : Option Entry) (key : Key) → (elim o [ Some entry ↦ has_key entry key | None ↦ false ]) ≡ true
    → (entry : Entry) × (o ≡ Some entry) × (has_key entry key ≡ true)
entry_case None key h = cc
entry_case (Some entry) key h = (entry, refl, h)

names-entry : (cell : ℕ) (key : Key) → names cell key ≡ true → cell ≢ 65535
    → (entry : Entry) × (slice_get table cell ≡ Some entry) × (has_key entry key ≡ true)
unfolding names
names-entry cell key h filled = entry_case (slice_get table cell) key
    (past (cell == 65535) _ (ne_eqb cell 65535 filled) h)

-- the entry that a cell names has the key
pub found_at : (key : Key) → key.byte < 256 → cell_of key ≢ 65535
    → (entry : Entry) × (slice_get table (cell_of key) ≡ Some entry) × (has_key entry key ≡ true)
unfolding misnamed
found_at key byte filled =
    let of_byte = none-flat_map (misnamed_byte key.map key.pp) key.byte (below 256) (none_misnamed key.map key.pp)
    (among-below key.byte 256 byte) in
    let of_w = none-flat_map (misnamed_at key.map key.pp key.byte) key.w (false ∷ true ∷ []) of_byte (among_bits key.w)
    in
    let of_key = none-flat_map (λ l. misnamed_key (key_at key.map key.pp key.byte key.w l)) key.l (false ∷ true ∷ [])
    of_w (among_bits key.l) in
    names-entry (cell_of key) key (right (names (cell_of key) key) key of_key) filled

-- ---- the table has fewer places than a cell has values

table_is_short : nat_lt (length table) 65535 ≡ true
unfolding table
table_is_short = refl

-- where a cell is empty, no entry has the key
pub none_at : (key : Key) → cell_of key ≡ 65535 → (entry : Entry) → Among entry table → has_key entry key ≡ false
none_at key empty entry m = by (has_key entry key) refl where
  by : (b : Bool) → has_key entry key ≡ b → has_key entry key ≡ false
  by true h =
      let place = cell-place entry m key h in
      let short = ltb-true (length table) 65535 table_is_short in
      absurd (omega arith)
  by false h = h
