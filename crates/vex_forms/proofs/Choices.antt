-- What the code of a choice needs: checks of joined lists, and rows by the entry's rules.
use Rattle.std.specs.Prelude.{◌≡◌, refl, ℕ, ◌==◌, Bool, true, false, ◌&&◌, List, [], ◌∷◌, ◌++◌, Option, if◌then◌else◌}
use Rattle.std.proofs.Common.{ap, ◌∙◌}
use Rattle.std.specs.List.{list_all}
use Rattle.vex_rows.specs.declared.steps.Check.{Check}
use Rattle.vex_rows.specs.declared.entry.Entry.{Entry}
use Rattle.vex_rows.specs.Rules.{allows}
use Rattle.vex_rows.specs.Steps.{steps}
use Rattle.x86_operand.specs.Kind.{Kind}
use Rattle.vex_rows.specs.Row.{Row, exists, permits_choice, row_at}
use Rattle.vex_forms.specs.Layout.{may_be, row_for, rules_allow}

-- a test of joined lists
list_all-append : {A : Type 0} (p : A → Bool) (xs ys : List A)
    → list_all p (xs ++ ys) ≡ (list_all p xs && list_all p ys)
list_all-append p [] ys = refl
list_all-append p (x ∷ xs) ys = by (p x) (list_all-append p xs ys) where
  by : (b : Bool) → list_all p (xs ++ ys) ≡ (list_all p xs && list_all p ys)
      → (b && list_all p (xs ++ ys)) ≡ ((b && list_all p xs) && list_all p ys)
  by true e = e
  by false e = refl

pub permits_append : (row : Row) (xs ys : List Check)
    → list_all (permits_choice row) (xs ++ ys) ≡ (list_all (permits_choice row) xs && list_all (permits_choice row) ys)
permits_append row xs ys = list_all-append (permits_choice row) xs ys

-- an L as a bit of the row is that L again
bit-again : (l : Bool) → ((if l then 1 else 0) == 1) ≡ l
bit-again true = refl
bit-again false = refl

-- all checks of an entry's form
checks : Entry → List Check
checks entry = (steps entry.form).before_modrm ++ (steps entry.form).after_modrm ++ (steps entry.form).after_address

-- a row exists where the entry's rules allow it and no check refuses it
exists_by : (entry : Entry) (w l : Bool) (kind : Kind) (group : Option ℕ)
    → let row = row_at entry w (if l then 1 else 0) kind group in
    exists row ≡ (rules_allow entry w l && list_all (permits_choice row) (checks entry))
unfolding exists checks
exists_by entry w l kind group =
    let row = row_at entry w (if l then 1 else 0) kind group in
    ap (λ bit. (allows entry.w w && allows entry.l bit) && list_all (permits_choice row) (checks entry)) (bit-again l)

-- where the rules allow it, it is the checks alone
pub exists_by_checks : (entry : Entry) (w l : Bool) (kind : Kind) (group : Option ℕ) → rules_allow entry w l ≡ true
    → let row = row_at entry w (if l then 1 else 0) kind group in
    exists row ≡ list_all (permits_choice row)
    ((steps entry.form).before_modrm ++ (steps entry.form).after_modrm ++ (steps entry.form).after_address)
unfolding checks
exists_by_checks entry w l kind group h =
    let row = row_at entry w (if l then 1 else 0) kind group in
    exists_by entry w l kind group ∙ ap (λ rules. rules && list_all (permits_choice row) (checks entry)) h

both-false : (a b : Bool) → b ≡ false → (a && b) ≡ false
both-false true b h = h
both-false false b h = refl

-- what an entry's rules refuse is no row
pub no_rule_no_row : (entry : Entry) (w l memory : Bool) (group : ℕ) → rules_allow entry w l ≡ false
    → (may_be entry memory && exists (row_for entry w l memory group)) ≡ false
no_rule_no_row entry w l memory group h =
    let row = row_for entry w l memory group in
    both-false (may_be entry memory) (exists row)
    (exists_by entry w l row.kind row.group ∙ ap (λ rules. rules && list_all (permits_choice row) (checks entry)) h)
