-- The VEX opcodes are the opcodes of rows.
use Rattle.std.specs.Prelude.{◌≡◌, refl, ◌==◌, true, false, not, Bool, ℕ, List, [], map, filter}
use Rattle.std.specs.List.{list_any}
use Rattle.std.proofs.Common.{ap, subst, sym}
use Rattle.x86_opcode.specs.declared.Opcode.{Opcode}
use Rattle.x86_opcode.specs.Number.{opcode_number, same_opcode}
use Rattle.x86_opcode.specs.Number.Lemmas.{same_opcode_equal}
use Rattle.x86_opcode.specs.Vex.{is_vex, vex_opcodes}
use Rattle.vex_rows.specs.Groups.{groups}
use Rattle.vex_rows.specs.FormRows.{form_row, gathers}
use Rattle.vex_rows.specs.Steps.{steps}
use Rattle.vex_rows.specs.Table.{table}
use Rattle.vex_rows.specs.Row.{Row, Among, IsRow, rows, choices, exists, has_groups, opcode_of}
use Rattle.vex_rows.specs.Row.Lists.{among-filter, from-any, from-map}
use Rattle.vex_decode.specs.Laws.{VexOpcodes}
use Rattle.vex_decode.proofs.Permitted.{is_vex-row}

-- whether an opcode has one of these numbers
abbrev is_in : List ℕ → Opcode → Bool
is_in numbers o = list_any (λ n. opcode_number o == n) numbers

-- the VEX opcodes that have none of these numbers
unfoldable left_out : List ℕ → List Opcode
left_out numbers = filter (λ o. not (is_in numbers o)) vex_opcodes

-- the numbers of the opcodes of rows
unfoldable row_numbers : List ℕ
row_numbers = map (λ row. opcode_number (opcode_of row)) rows

-- no VEX opcode is left out by the rows
none_left_out : left_out row_numbers ≡ []
unfolding left_out row_numbers vex_opcodes opcode_number rows choices exists has_groups steps form_row gathers groups
    table opcode_of
none_left_out = refl

-- a VEX opcode has the number of some row's opcode
in_rows : (o : Opcode) → Among o vex_opcodes → is_in row_numbers o ≡ true
unfolding left_out
in_rows o m = by (is_in row_numbers o) refl where
  by : (b : Bool) → is_in row_numbers o ≡ b → b ≡ true
  by true e = refl
  by false e = absurd (subst (Among o) none_left_out
      (among-filter (λ o. not (is_in row_numbers o)) o vex_opcodes (ap not e) m))

-- some row gives it
row_of : (o : Opcode) → Among o vex_opcodes → (row : Row) × IsRow row × (opcode_of row ≡ o)
unfolding row_numbers IsRow same_opcode
row_of o m =
    let number = from-any (λ n. opcode_number o == n) row_numbers (in_rows o m) in
    let from = from-map (λ row. opcode_number (opcode_of row)) number.0 rows number.1 in
    (from.0, from.1, sym (same_opcode_equal o (opcode_of from.0) (same from.0 number.0 number.2 from.2)))
  where
    same : (row : Row) (n : ℕ) → (opcode_number o == n) ≡ true → n ≡ opcode_number (opcode_of row)
        → same_opcode o (opcode_of row) ≡ true
    same row n e is = subst (λ n. (opcode_number o == n) ≡ true) is e

-- an opcode that is a VEX opcode by the test stands in the list
listed : (o : Opcode) → is_vex o ≡ true → Among o vex_opcodes
unfolding is_vex
listed o e =
    let found = from-any (same_opcode o) vex_opcodes e in
    subst (λ p. Among p vex_opcodes) (sym (same_opcode_equal o found.0 found.2)) found.1

pub vex_opcodes_are_rows : VexOpcodes
vex_opcodes_are_rows o = (
  λ e. row_of o (listed o e),
  λ at. subst (λ p. is_vex p ≡ true) at.2 (is_vex-row at.0 at.1),
)
