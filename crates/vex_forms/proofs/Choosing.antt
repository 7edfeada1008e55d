-- The rows are the choices that can be and exist.
use Rattle.std.specs.Prelude.{◌≡◌, refl, ℕ, ◌<◌, ◌≤◌, Bool, true, false, ◌&&◌, ◌||◌, ◌==◌, nat_lt, List, [], ◌∷◌, ◌++◌}
use Rattle.std.specs.Prelude.{map, Option, Some, None, if◌then◌else◌}
use Rattle.std.specs.List.{list_all, list_any}
use Rattle.std.proofs.Common.{zero, suc, inl, inr, sym, ap, subst, arith, eqb-true, ltb-true}
use Rattle.x86_opcode.specs.declared.Opcode.{Opcode}
use Rattle.vex_rows.specs.declared.entry.Entry.{Entry}
use Rattle.vex_rows.specs.declared.steps.Check.{Check}
use Rattle.vex_rows.specs.declared.steps.Check.TheVariants.{V0, L0, Reg, Mem, Group, VifMem}
use Rattle.vex_rows.specs.Rules.{allows}
use Rattle.vex_rows.specs.FormRows.{gathers}
use Rattle.vex_rows.specs.Steps.{steps}
use Rattle.vex_rows.specs.Groups.{groups}
use Rattle.vex_rows.specs.Table.{table}
use Rattle.vex_rows.specs.Row.{Row, Among, IsRow, row_at, exists, has_groups, is_group, is_group_check, is_memory}
use Rattle.vex_rows.specs.Row.{permits_choice}
use Rattle.vex_rows.specs.Groups.Lemmas.{small_groups}
use Rattle.vex_rows.specs.Row.Lists.{from-map, from-list_all, both-parts, among-append_left, among-append_right}
use Rattle.vex_rows.specs.Row.Lemmas.{chosen-row, row-chosen, checks_of}
use Rattle.vex_forms.specs.Layout.{may_be, row_for}
use Rattle.vex_forms.specs.Layout.Lemmas.{kind-again, may_be-again, kind-among}
use Rattle.vex_forms.specs.Laws.{IsChoice}

-- an L of one bit
one_bit-again : (l : ℕ) → l ≤ 1 → (if l == 1 then 1 else 0) ≡ l
one_bit-again zero h = refl
one_bit-again (suc zero) h = refl
one_bit-again (suc (suc l)) h = absurd (omega arith)

-- a reg field that a form may have
group-again : (grouped : Bool) (gs : List (ℕ × Opcode)) (group : Option ℕ)
    → Among group (if grouped then map (λ g. Some g.0) gs else None ∷ []) → list_all (λ g. nat_lt g.0 8) gs ≡ true
    → (reg : ℕ) × (reg < 8) × ((if grouped then Some reg else None) ≡ group)
group-again true gs group m small =
    let from = from-map (λ g. Some g.0) group gs m in
    (from.0.0, ltb-true from.0.0 8 (from-list_all (λ g. nat_lt g.0 8) from.0 gs small from.1), sym from.2)
group-again false gs group (inl e) small = (0, omega arith, sym e)
group-again false gs group (inr m) small = absurd m

-- every row is a choice
pub row-is_choice : (row : Row) → IsRow row → IsChoice row
row-is_choice row m =
    let chosen = chosen-row row m in
    let field = group-again (has_groups row.entry.form) (groups row.entry.form row.l) row.group chosen.group
    (small_groups row.entry.form row.l) in
    let at_l = one_bit-again row.l chosen.one_bit in
    let at_kind = kind-again (gathers row.entry.form) (steps row.entry.form).modrm row.kind chosen.kind in
    record {
      l = row.l == 1;
      memory = is_memory row.kind;
      group = field.0;
      small = field.1;
      row_is = λ i. record {
        entry = row.entry;
        w = row.w;
        l = sym at_l i;
        kind = sym at_kind i;
        group =
            sym field.2 i;
      };
      may_be = may_be-again (gathers row.entry.form) (steps row.entry.form).modrm row.kind chosen.kind;
    }

-- an L as a number
bit_at_most_one : (l : Bool) → (if l then 1 else 0) ≤ 1
bit_at_most_one true = omega arith
bit_at_most_one false = omega arith

-- a reg field that is one of the groups
group-among : (gs : List (ℕ × Opcode)) (reg : ℕ) → is_group gs reg ≡ true → Among (Some reg) (map (λ g. Some g.0) gs)
group-among [] reg h = cc
group-among (g ∷ gs) reg h = by (g.0 == reg) refl h (group-among gs reg) where
  by : (b : Bool) → (g.0 == reg) ≡ b → (b || is_group gs reg) ≡ true
      → (is_group gs reg ≡ true → Among (Some reg) (map (λ g. Some g.0) gs))
      → Among (Some reg) (map (λ g. Some g.0) (g ∷ gs))
  by true e h next = inl (ap Some (sym (eqb-true g.0 reg e)))
  by false e h next = inr (next h)

-- a form with groups has the check of the reg field
group_check-among : (checks : List Check) → list_any is_group_check checks ≡ true → Among Group checks
group_check-among [] h = cc
group_check-among (Group ∷ checks) h = inl refl
group_check-among (V0 ∷ checks) h = inr (group_check-among checks h)
group_check-among (L0 ∷ checks) h = inr (group_check-among checks h)
group_check-among (Reg ∷ checks) h = inr (group_check-among checks h)
group_check-among (Mem ∷ checks) h = inr (group_check-among checks h)
group_check-among (VifMem ∷ checks) h = inr (group_check-among checks h)

-- where the check of the reg field is passed, the field is one of the form's
field-among : (grouped : Bool) (gs : List (ℕ × Opcode)) (reg : ℕ) → (grouped ≡ true → is_group gs reg ≡ true)
    → Among (if grouped then Some reg else None) (if grouped then map (λ g. Some g.0) gs else None ∷ [])
field-among true gs reg h = group-among gs reg (h refl)
field-among false gs reg h = inl refl

-- the check of the reg field stands among all checks
check-among : (entry : Entry) → has_groups entry.form ≡ true → Among Group (checks_of entry)
unfolding has_groups
check-among entry h =
    among-append_left Group ((steps entry.form).before_modrm ++ (steps entry.form).after_modrm)
    (steps entry.form).after_address
    (among-append_right Group (steps entry.form).before_modrm (steps entry.form).after_modrm
    (group_check-among (steps entry.form).after_modrm h))

-- a group that the check permits
permitted : (row : Row) (reg : ℕ) → row.group ≡ Some reg → permits_choice row Group ≡ true
    → is_group (groups row.entry.form row.l) reg ≡ true
permitted row reg e h = subst (λ group. permits_choice (row_at row.entry row.w row.l row.kind group) Group ≡ true) e h

-- every choice that can be and exists is a row
pub choice-is_row : (entry : Entry) (w l memory : Bool) (group : ℕ) → Among entry table → may_be entry memory ≡ true
    → exists (row_for entry w l memory group) ≡ true → IsRow (row_for entry w l memory group)
unfolding exists
choice-is_row entry w l memory group m may there =
    let row = row_for entry w l memory group in
    let both = both-parts (allows entry.w w && allows entry.l (row.l == 1))
    (list_all (permits_choice row) (checks_of entry)) there in
    let rules = both-parts (allows entry.w w) (allows entry.l (row.l == 1)) both.0 in
    let field : has_groups entry.form ≡ true → is_group (groups entry.form row.l) group ≡ true =
    λ h. permitted row group (ap (λ grouped. if grouped then Some group else None) h)
    (from-list_all (permits_choice row) Group (checks_of entry) both.1 (check-among entry h)) in
    row-chosen row (record {
      listed = m;
      w = rules.0;
      l = rules.1;
      one_bit = bit_at_most_one l;
      kind = kind-among (gathers entry.form) (steps entry.form).modrm memory may;
      group = field-among (has_groups entry.form) (groups entry.form row.l) group field;
      checks = both.1;
    })
