-- What it is to be a row.
use Rattle.std.specs.Prelude.{◌≡◌, refl, ℕ, ◌≤◌, Bool, true, false, ◌&&◌, ◌==◌, List, [], ◌∷◌, ◌++◌, flat_map}
use Rattle.std.specs.List.{list_all}
use Rattle.std.proofs.Common.{zero, suc, inl, inr, sym, subst, arith}
use Rattle.vex_rows.specs.declared.entry.Entry.{Entry}
use Rattle.vex_rows.specs.Rules.{allows}
use Rattle.vex_rows.specs.declared.steps.Check.{Check}
use Rattle.vex_rows.specs.Steps.{steps}
use Rattle.vex_rows.specs.Table.{table}
use Rattle.vex_rows.specs.Row.{Row, Among, rows, row_at, choices, choices_of_kind, choices_of_l, choices_of_w, exists}
use Rattle.vex_rows.specs.Row.{IsRow, kinds_of, group_choices, permits_choice}
use Rattle.vex_rows.specs.Row.Lists.{among-map, from-map, among-flat_map, from-flat_map, among-filter, from-filter}
use Rattle.vex_rows.specs.Row.Lists.{both-parts, parts-both}

-- all checks of an entry's form, in their order
abbrev pub checks_of : Entry → List Check
checks_of entry = (steps entry.form).before_modrm ++ (steps entry.form).after_modrm ++ (steps entry.form).after_address

-- what makes a row one of all rows
pub record Chosen (row : Row) : Type 0 where
  pub listed : Among row.entry table
  pub w : allows row.entry.w row.w ≡ true
  pub l : allows row.entry.l (row.l == 1) ≡ true
  pub one_bit : row.l ≤ 1
  pub kind : Among row.kind (kinds_of row.entry.form)
  pub group : Among row.group (group_choices row.entry.form row.l)
  pub checks : list_all (permits_choice row) (checks_of row.entry) ≡ true

-- a choice of an entry
pub record Choice (entry : Entry) (row : Row) : Type 0 where
  pub entry_is : row.entry ≡ entry
  pub one_bit : row.l ≤ 1
  pub kind : Among row.kind (kinds_of entry.form)
  pub group : Among row.group (group_choices entry.form row.l)

zero_or_one : (l : ℕ) → Among l (0 ∷ 1 ∷ []) → l ≤ 1
zero_or_one l (inl e) = omega arith
zero_or_one l (inr (inl e)) = omega arith
zero_or_one l (inr (inr e)) = absurd e

from-choices : (entry : Entry) (row : Row) → Among row (choices entry) → Choice entry row
unfolding choices
from-choices entry row m =
    let at_w = from-flat_map (choices_of_w entry) row (false ∷ true ∷ []) m in
    let at_l = from-flat_map (choices_of_l entry at_w.0) row (0 ∷ 1 ∷ []) at_w.2 in
    let at_kind = from-flat_map (choices_of_kind entry at_w.0 at_l.0) row (kinds_of entry.form) at_l.2 in
    let at_group = from-map (row_at entry at_w.0 at_l.0 at_kind.0) row (group_choices entry.form at_l.0) at_kind.2 in
    let chosen : Choice entry (row_at entry at_w.0 at_l.0 at_kind.0 at_group.0) =
    record { entry_is = refl; one_bit = zero_or_one at_l.0 at_l.1; kind = at_kind.1; group = at_group.1 } in
    subst (Choice entry) (sym at_group.2) chosen

-- a choice of an entry is that entry's
pub choices-entry : (entry : Entry) (row : Row) → Among row (choices entry) → row.entry ≡ entry
choices-entry entry row m = (from-choices entry row m).entry_is

among_bits : (w : Bool) → Among w (false ∷ true ∷ [])
among_bits false = inl refl
among_bits true = inr (inl refl)

among_zero_one : (l : ℕ) → l ≤ 1 → Among l (0 ∷ 1 ∷ [])
among_zero_one zero h = inl refl
among_zero_one (suc zero) h = inr (inl refl)
among_zero_one (suc (suc l)) h = absurd (omega arith)

to-choices : (row : Row) → row.l ≤ 1 → Among row.kind (kinds_of row.entry.form)
    → Among row.group (group_choices row.entry.form row.l) → Among row (choices row.entry)
unfolding choices
to-choices row one_bit kind group =
    let at_group = among-map (row_at row.entry row.w row.l row.kind) row.group (group_choices row.entry.form row.l)
    group in
    let at_kind = among-flat_map (choices_of_kind row.entry row.w row.l) row.kind row (kinds_of row.entry.form) kind
    at_group in
    let at_l = among-flat_map (choices_of_l row.entry row.w) row.l row (0 ∷ 1 ∷ []) (among_zero_one row.l one_bit)
    at_kind in
    among-flat_map (choices_of_w row.entry) row.w row (false ∷ true ∷ []) (among_bits row.w) at_l

-- a row is chosen
pub chosen-row : (row : Row) → IsRow row → Chosen row
unfolding IsRow rows exists
chosen-row row m =
    let kept = from-filter exists row (flat_map choices table) m in
    let from = from-flat_map choices row table kept.1 in
    let choice = from-choices from.0 row from.2 in
    let both = both-parts (allows row.entry.w row.w && allows row.entry.l (row.l == 1))
    (list_all (permits_choice row) (checks_of row.entry)) kept.0 in
    let rules = both-parts (allows row.entry.w row.w) (allows row.entry.l (row.l == 1)) both.0 in
    record {
      listed = subst (λ entry. Among entry table) (sym choice.entry_is) from.1;
      w = rules.0;
      l = rules.1;
      one_bit = choice.one_bit;
      kind = subst (λ entry. Among row.kind (kinds_of entry.form)) (sym choice.entry_is) choice.kind;
      group = subst (λ entry. Among row.group (group_choices entry.form row.l)) (sym choice.entry_is) choice.group;
      checks = both.1;
    }

-- what is chosen is a row
pub row-chosen : (row : Row) → Chosen row → IsRow row
unfolding IsRow rows exists
row-chosen row chosen =
    let among = among-flat_map choices row.entry row table chosen.listed
    (to-choices row chosen.one_bit chosen.kind chosen.group) in
    among-filter exists row (flat_map choices table) (parts-both _ _ (parts-both _ _ chosen.w chosen.l) chosen.checks)
    among
