-- Every spelling is that of a choice of an entry of the opcode.
use Rattle.std.specs.Prelude.{◌≡◌, refl, ◌↔◌, ◌⊎◌, IfSome, IsNone, ℕ, ◌+◌, ◌*◌, ◌/◌, ◌%◌, ◌==◌, ◌≤◌, ◌<◌, Bool, true}
use Rattle.std.specs.Prelude.{false, ◌&&◌, List, [], ◌∷◌, length, Option, Some, None, if◌then◌else◌, take}
use Rattle.std.proofs.Common.{zero, suc, get_or, add-one, inl, inr, arith, ap, sym, ◌∙◌, subst}
use Rattle.x86_operand.specs.Meaning.{Meaning}
use Rattle.x86_address.specs.Bytes.{bit}
use Rattle.vex_rows.specs.declared.entry.Entry.{Entry}
use Rattle.vex_rows.specs.Entries.{entries_with}
use Rattle.vex_rows.specs.Laws.{RowsHaveEntries}
use Rattle.vex_rows.specs.Row.{Row, IsRow, Among, exists, has_groups, opcode_of}
use Rattle.vex_rows.specs.Row.Lists.{both-parts, parts-both}
use Rattle.vex_rows.specs.Row.Lemmas.{chosen-row}
use Rattle.vex_rows.specs.Table.{table}
use Rattle.vex_forms.specs.Gives.{gives}
use Rattle.vex_forms.specs.Laws.{RowsAreChoices, ChoicesAreRows}
use Rattle.vex_forms.specs.Layout.{row_for, may_be, group_for, IsLayout}
use Rattle.vex_forms.specs.Slots.{size_of}
use Rattle.vex_forms.specs.declared.row_layout.RowLayout.{RowLayout}
use Rattle.vex_decode.specs.Spelling.{Syntax, Spells, SpellsBy, meant}
use Rattle.vex_decode.specs.Laws.{SpellingLength}
use Rattle.vex_list.specs.Order.{Before, IsNext, UpTo}
use Rattle.vex_list.specs.Next.{Between, Covers, Either}
use Rattle.vex_list.specs.Sets.{ByChosen, ByEntry, ByEntries}
use Rattle.vex_list.proofs.Lists.{cover_empty}

-- what a row means has its opcode and its size
opcode_meant : (row : Row) (s : Syntax) → (meant row s).opcode ≡ opcode_of row
unfolding gives
opcode_meant row s = refl

size_meant : (row : Row) (s : Syntax) → (meant row s).size ≡ size_of row
unfolding gives
size_meant row s = refl

pub opcode_spelled : (m : Meaning) (row : Row) (b : List ℕ) → SpellsBy b m row → m.opcode ≡ opcode_of row
opcode_spelled m row b by = ap (λ (m : Meaning). m.opcode) by.means ∙ opcode_meant row by.parts

size_spelled : (m : Meaning) (row : Row) (b : List ℕ) → SpellsBy b m row → m.size ≡ size_of row
size_spelled m row b by = ap (λ (m : Meaning). m.size) by.means ∙ size_meant row by.parts

-- a spelling is by one of the entries of its opcode
by_table : (m : Meaning) → RowsHaveEntries → RowsAreChoices → (b : List ℕ) → Spells b m
    → ByEntries m (entries_with m.opcode) b
by_table m have are b s =
    let choice = are s.row s.is_row in
    let chosen : ByChosen m s.row.entry s.row.w choice.l choice.memory choice.group b = record {
      may_be = choice.may_be;
      is_row = subst IsRow choice.row_is s.is_row;
      by = subst (SpellsBy b m) choice.row_is s.by;
    } in
    let entry : ByEntry m s.row.entry b = (
      s.row.w,
      choice.l,
      choice.memory,
      (choice.group, omega arith, choice.small, chosen),
    ) in (
      s.row.entry,
      subst (λ opcode. Among s.row.entry (entries_with opcode)) (sym (opcode_spelled m s.row b s.by))
          (have s.row s.is_row),
      entry,
    )

pub is_next : (m : Meaning) (previous : List ℕ) (next : Option (List ℕ)) → RowsHaveEntries → RowsAreChoices
    → Covers m previous (ByEntries m (entries_with m.opcode)) None next → IsNext m previous next
is_next m previous next have are c = record
    { later = c.later tt; least = λ b s before. c.covers b (by_table m have are b s) s before }

-- no string comes before the empty one
after_none : SpellingLength → (m : Meaning) (b : List ℕ) → Spells b m → Before [] b
after_none long m b s = by b (long b m s).0 where
  by : (b : List ℕ) → 3 ≤ length b → Before [] b
  by [] h = absurd (omega arith)
  by (byte ∷ b) h = refl

pub first_least : SpellingLength → (m : Meaning) (first : Option (List ℕ)) → IsNext m [] first
    → IfSome first (λ first. (bytes : List ℕ) → Spells bytes m → UpTo first bytes)
first_least long m None next = tt
first_least long m (Some first) next = λ bytes s. next.least bytes s (after_none long m bytes s)

pub first_none : SpellingLength → (m : Meaning) (first : Option (List ℕ)) → IsNext m [] first
    → IsNone first ↔ ((bytes : List ℕ) → Spells bytes m → ⊥)
first_none long m None next = (λ h bytes s. next.least bytes s (after_none long m bytes s), λ h. refl)
first_none long m (Some first) next = (λ h. cc, λ none. absurd (none first next.later.0))

-- a row exists
exists_row : (row : Row) → IsRow row → exists row ≡ true
unfolding exists
exists_row row is_row =
    let chosen = chosen-row row is_row in
    parts-both _ _ (parts-both _ _ chosen.w chosen.l) chosen.checks

some_same : {A : Type 0} (x y : A) → Some x ≡ Some y → x ≡ y
some_same x y e = cc

module _ (m : Meaning) (previous : List ℕ) (entry : Entry) (w l memory : Bool) (group : ℕ) where
  abbrev row : Row
  row = row_for entry w l memory group

  pub is_row_there : ChoicesAreRows → Among entry table → (may_be entry memory && exists row) ≡ true → IsRow row
  is_row_there are listed h = let both = both-parts _ _ h in are entry w l memory group listed both.0 both.1

  -- where the choice is no row
  pub not_there : (a : Option (List ℕ)) → ((may_be entry memory && exists row) ≡ true → ⊥)
      → Covers m previous (ByChosen m entry w l memory group) a a
  not_there a none = cover_empty m previous (ByChosen m entry w l memory group) a
      (λ b t. none (parts-both _ _ t.may_be (exists_row row t.is_row)))

  -- where its opcode or its size is another
  pub other_row : (a : Option (List ℕ)) (layout : RowLayout) → IsLayout row layout
      → ((layout.opcode ≡ m.opcode) × (layout.mem_size ≡ m.size) → ⊥)
      → Covers m previous (ByChosen m entry w l memory group) a a
  other_row a layout is other = cover_empty m previous (ByChosen m entry w l memory group) a
      (λ b t. other (is.opcode ∙ sym (opcode_spelled m row b t.by), is.mem_size ∙ sym (size_spelled m row b t.by)))

  -- the group of the layout is a value of three bits
  pub small_group : group < 8 → (x : ℕ) → group_for entry.form group ≡ Some x → x < 8
  small_group h x e = by (has_groups entry.form) e where
    by : (has : Bool) → (if has then Some group else None) ≡ Some x → x < 8
    by true e = subst (λ n. n < 8) (some_same group x e) h
    by false e = cc

-- without groups all reg fields choose one row
one_group : (m : Meaning) (entry : Entry) (w l memory : Bool) (group : ℕ) (b : List ℕ) → has_groups entry.form ≡ false
    → ByChosen m entry w l memory group b → ByChosen m entry w l memory 0 b
one_group m entry w l memory group b none t =
    let same : row_for entry w l memory group ≡ row_for entry w l memory 0 =
    ap (λ has. record {
      entry = entry;
      w = w;
      l = if l then 1 else 0;
      kind =
          (row_for entry w l memory group).kind;
      group = if has then Some group else None;
    }) none
    ∙ sym (ap (λ has. record {
      entry = entry;
      w = w;
      l = if l then 1 else 0;
      kind =
          (row_for entry w l memory group).kind;
      group = if has then Some 0 else None;
    }) none) in
    record { may_be = t.may_be; is_row = subst IsRow same t.is_row; by = subst (SpellsBy b m) same t.by }

-- ---- the numbers of the choices of an entry

bit_below : (b : Bool) → bit b < 2
bit_below true = omega arith
bit_below false = omega arith

odd_bit : (n : ℕ) (b : Bool) → n % 2 ≡ bit b → (n % 2 == 1) ≡ b
odd_bit n true e = rw e refl
odd_bit n false e = rw e refl

-- the number of a choice
abbrev number : Bool → Bool → Bool → ℕ → ℕ
number w l memory group = 8 * group + 4 * bit w + 2 * bit l + bit memory

-- each choice has a number, and says by it what it was
by_number : (m : Meaning) (entry : Entry) (b : List ℕ) (w l memory : Bool) (group : ℕ)
    → ByChosen m entry w l memory group b
    → let n = number w l memory group in
    ByChosen m entry (n / 4 % 2 == 1) (n / 2 % 2 == 1) (n % 2 == 1) (n / 8) b
by_number m entry b w l memory group t =
    let small : (bit w < 2) × (bit l < 2) × (bit memory < 2) = (bit_below w, bit_below l, bit_below memory) in
    let n = number w l memory group in
    let w_is = odd_bit (n / 4) w (omega (arith, small.0, small.1, small.2)) in
    let l_is = odd_bit (n / 2) l (omega (arith, small.0, small.1, small.2)) in
    let memory_is = odd_bit n memory (omega (arith, small.0, small.1, small.2)) in
    let group_is : n / 8 ≡ group = omega (arith, small.0, small.1, small.2) in
    subst (λ w. ByChosen m entry w (n / 2 % 2 == 1) (n % 2 == 1) (n / 8) b) (sym w_is)
    (subst (λ l. ByChosen m entry w l (n % 2 == 1) (n / 8) b) (sym l_is)
    (subst (λ memory. ByChosen m entry w l memory (n / 8) b) (sym memory_is)
    (subst (λ group. ByChosen m entry w l memory group b) (sym group_is) t)))

-- all are among them, and without groups among the first eight
pub by_numbers : (m : Meaning) (entry : Entry) (b : List ℕ) → ByEntry m entry b
    → Between 0 (if has_groups entry.form then 64 else 8)
    (λ n. ByChosen m entry (n / 4 % 2 == 1) (n / 2 % 2 == 1) (n % 2 == 1) (n / 8)) b
by_numbers m entry b (w, l, memory, (group, from, below, t)) = by (has_groups entry.form) refl where
  small : number w l memory group < 8 * group + 8
  small = omega (arith, bit_below w, bit_below l, bit_below memory)

  small_zero : number w l memory 0 < 8
  small_zero = omega (arith, bit_below w, bit_below l, bit_below memory)

  by : (has : Bool) → has_groups entry.form ≡ has → Between 0 (if has then 64 else 8)
      (λ n. ByChosen m entry (n / 4 % 2 == 1) (n / 2 % 2 == 1) (n % 2 == 1) (n / 8)) b
  by true e = (
    number w l memory group,
    omega arith,
    omega (arith, small, below),
    by_number m entry b w l memory group t,
  )
  by false e = (
    number w l memory 0,
    omega arith,
    small_zero,
    by_number m entry b w l memory 0 (one_group m entry w l memory group b e t),
  )

-- the strings of one more entry
more_entries : (entries : List Entry) (i : ℕ) (other entry : Entry) → i < length entries
    → Among entry (take (i + 1) entries) → Among entry (take i entries) ⊎ (entry ≡ get_or entries i other)
more_entries [] i other entry h m = absurd (omega arith)
more_entries (e ∷ entries) zero other entry h (inl same) = inr same
more_entries (e ∷ entries) zero other entry h (inr m) = absurd m
more_entries (e ∷ entries) (suc i) other entry h m =
    by (rw add-one at m) (λ k. more_entries entries i other entry (omega arith) (rw add-one k)) where
      by : Among entry (e ∷ take (suc i) entries)
          → (Among entry (take (suc i) entries) → Among entry (take i entries) ⊎ (entry ≡ get_or entries i other))
          → Among entry (e ∷ take i entries) ⊎ (entry ≡ get_or entries i other)
      by (inl same) later = inl (inl same)
      by (inr k) later = elim (later k) [ inl l ↦ inl (inr l) | inr same ↦ inr same ]

pub one_more : (m : Meaning) (entries : List Entry) (i : ℕ) (other : Entry) (b : List ℕ) → i < length entries
    → ByEntries m (take (i + 1) entries) b
    → Either (ByEntries m (take i entries)) (ByEntry m (get_or entries i other)) b
one_more m entries i other b h t = elim (more_entries entries i other t.0 h t.1) [
  | inl k ↦ inl (t.0, k, t.2)
  | inr same ↦ inr (subst (λ entry. ByEntry m entry b) same t.2)
]

pub entry_at : (entries : List Entry) (i : ℕ) (other : Entry) → i < length entries
    → Among (get_or entries i other) entries
entry_at [] i other h = absurd (omega arith)
entry_at (e ∷ entries) zero other h = inl refl
entry_at (e ∷ entries) (suc i) other h = inr (entry_at entries i other (omega arith))
