-- Every size that a form names is one that a memory operand can have.
use Rattle.std.specs.Prelude.{◌≡◌, refl, ℕ, nat_le, Bool, true, false, ◌&&◌, ◌==◌, List, [], ◌∷◌, find, cond, Option}
use Rattle.std.specs.Prelude.{Some, None, IfSome, IsSome, if◌then◌else◌, ◌↔◌, ◌≤◌}
use Rattle.std.specs.List.{list_all}
use Rattle.std.proofs.Common.{ap}
use Rattle.std.proofs.lemmas.Bool.{leb-true}
use Rattle.x86_opcode.specs.declared.Opcode.{Opcode}
use Rattle.vex_rows.specs.declared.form.Form.{Form}
use Rattle.vex_rows.specs.declared.form.Form.TheVariants as form
use Rattle.vex_rows.specs.declared.form_row.ByteCount.{ByteCount}
use Rattle.vex_rows.specs.declared.form_row.ByteCount.TheVariants.{Nothing, Is, ByL, ByW}
use Rattle.vex_rows.specs.declared.form_row.SizeList.{SizeList}
use Rattle.vex_rows.specs.declared.form_row.SizeList.TheVariants.{Extract}
use Rattle.vex_rows.specs.declared.form_row.SizeRule.{SizeRule}
use Rattle.vex_rows.specs.declared.form_row.SizeRule.TheVariants.{Always, ByOpcode}
use Rattle.vex_rows.specs.FormRows.{form_row, sizes}
use Rattle.vex_rows.specs.Row.{Row, is_memory}
use Rattle.vex_rows.specs.Row.Lists.{both-parts}
use Rattle.vex_forms.specs.Layout.{IsSize}
use Rattle.vex_forms.specs.Slots.{bytes_at, is_of, found_or, size_at, size_of}

abbrev is_size : ℕ → Bool
is_size n = nat_le 1 n && nat_le n 64

abbrev counts_fit : ByteCount → Bool
counts_fit Nothing = true
counts_fit (Is n) = is_size n
counts_fit (ByL a b) = is_size a && is_size b
counts_fit (ByW a b) = is_size a && is_size b

abbrev others_fit : SizeRule → Bool
others_fit (Always count) = counts_fit count
others_fit (ByOpcode list other) = counts_fit other

abbrev all_fit : List (Opcode × ByteCount) → Bool
all_fit sizes = list_all (λ size. counts_fit size.1) sizes

in_memory : (form : Form) → others_fit (form_row form).size ≡ true
unfolding form_row
in_memory form.Nothing = refl
in_memory _ = refl

in_registers : (form : Form) → counts_fit (form_row form).register_size ≡ true
unfolding form_row
in_registers form.Nothing = refl
in_registers _ = refl

in_lists : (list : SizeList) → all_fit (sizes list) ≡ true
unfolding sizes
in_lists Extract = refl
in_lists _ = refl

a_size : (n : ℕ) → is_size n ≡ true → IsSize n
a_size n h = let both = both-parts (nat_le 1 n) (nat_le n 64) h in (leb-true 1 n both.0, leb-true n 64 both.1)

count_fits : (row : Row) (count : ByteCount) → counts_fit count ≡ true → IfSome (bytes_at row count) IsSize
count_fits row Nothing h = search
count_fits row (Is n) h = a_size n h
count_fits row (ByL a b) h = by (row.l == 0) where
  by : (c : Bool) → IsSize (if c then a else b)
  by true = a_size a (both-parts (is_size a) (is_size b) h).0
  by false = a_size b (both-parts (is_size a) (is_size b) h).1
count_fits row (ByW a b) h = by row.w where
  by : (c : Bool) → IsSize (if c then b else a)
  by true = a_size b (both-parts (is_size a) (is_size b) h).1
  by false = a_size a (both-parts (is_size a) (is_size b) h).0

found_fits : (opcode : Opcode) (sizes : List (Opcode × ByteCount)) (other : ByteCount) → all_fit sizes ≡ true
    → counts_fit other ≡ true → counts_fit (found_or (find (is_of opcode) sizes) other) ≡ true
found_fits opcode [] other h k = k
found_fits opcode (size ∷ sizes) other h k =
    let both = both-parts (counts_fit size.1) (all_fit sizes) h in
    by (is_of opcode size) both.0 (found_fits opcode sizes other both.1 k) where
      by : (b : Bool) → counts_fit size.1 ≡ true → counts_fit (found_or (find (is_of opcode) sizes) other) ≡ true
          → counts_fit (found_or (cond b (Some size) (find (is_of opcode) sizes)) other) ≡ true
      by true e f = e
      by false e f = f

rule_fits : (row : Row) (rule : SizeRule) → others_fit rule ≡ true → IfSome (size_at row rule) IsSize
rule_fits row (Always count) h = count_fits row count h
rule_fits row (ByOpcode list other) h =
    count_fits row (found_or (find (is_of row.entry.opcode) (sizes list)) other)
    (found_fits row.entry.opcode (sizes list) other (in_lists list) h)

-- the size of every row is one
pub size_fits : (row : Row) → IfSome (size_of row) IsSize
unfolding size_of
size_fits row = by (is_memory row.kind) where
  by : (b : Bool) → IfSome (if b then size_at row (form_row row.entry.form).size else bytes_at row
      (form_row row.entry.form).register_size) IsSize
  by true = rule_fits row (form_row row.entry.form).size (in_memory row.entry.form)
  by false = count_fits row (form_row row.entry.form).register_size (in_registers row.entry.form)

-- the size that is made of a number within them is that number
pub size_made : (n : ℕ) (size : Option ℕ) → (IsSome size ↔ ((1 ≤ n) × (n ≤ 64))) → IfSome size (λ made. made ≡ n)
    → IsSize n → size ≡ Some n
size_made n None within value fits = let there = within.1 fits in cc
size_made n (Some made) within value fits = ap Some value
