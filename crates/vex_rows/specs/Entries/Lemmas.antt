-- What crates above need of the rows of entries, and of the entries of an opcode.
use Rattle.std.proofs.Common.{◌≡◌, ◌==◌, true, false, flat_map, refl, sym, subst}
use Rattle.std.proofs.lemmas.Bool.{eq-eqb}
use Rattle.x86_opcode.specs.declared.Opcode.{Opcode}
use Rattle.x86_opcode.specs.Number.{opcode_number, same_opcode}
use Rattle.vex_rows.specs.declared.entry.Entry.{Entry}
use Rattle.vex_rows.specs.Entries.{rows_of, has_opcode, entries_with}
use Rattle.vex_rows.specs.Row.{Row, Among, IsRow, choices, exists, opcode_of, rows}
use Rattle.vex_rows.specs.Table.{table}
use Rattle.vex_rows.specs.Row.Lists.{among-filter, from-filter, among-flat_map, from-flat_map, filter-flat_map}
use Rattle.vex_rows.specs.Row.Lists.{any-among, from-any, none-any}
use Rattle.vex_rows.specs.Row.Lemmas.{choices-entry}

-- all rows are those of the entries, one entry after another
pub rows_by_entry : rows ≡ flat_map rows_of table
unfolding rows rows_of
rows_by_entry = filter-flat_map exists choices table

-- a row is one of its entry's
pub row-rows_of : (row : Row) → IsRow row → Among row.entry table × Among row (rows_of row.entry)
unfolding IsRow rows_of
row-rows_of row m =
    let from = from-flat_map rows_of row table (subst (Among row) rows_by_entry m) in
    let kept = from-filter exists row (choices from.0) from.2 in
    let same = choices-entry from.0 row kept.1 in
    (subst (λ entry. Among entry table) (sym same) from.1, subst (λ entry. Among row (rows_of entry)) (sym same) from.2)

-- each of an entry's rows is a row, and is that entry's
pub rows_of-row : (entry : Entry) (row : Row) → Among entry table → Among row (rows_of entry)
    → IsRow row × (row.entry ≡ entry)
unfolding IsRow rows_of
rows_of-row entry row m n = (
  subst (Among row) (sym rows_by_entry) (among-flat_map rows_of entry row table m n),
  choices-entry entry row (from-filter exists row (choices entry) n).1,
)

-- where no row of an entry gives an opcode, each of them gives another
pub no_row : (entry : Entry) (opcode : Opcode) → has_opcode entry opcode ≡ false → (row : Row)
    → Among row (rows_of entry) → same_opcode (opcode_of row) opcode ≡ false
unfolding has_opcode
no_row entry opcode none row m = none-any (λ row. same_opcode (opcode_of row) opcode) row (rows_of entry) none m

-- an entry of an opcode stands in the table
pub listed_entry : (entry : Entry) (opcode : Opcode) → Among entry (entries_with opcode) → Among entry table
unfolding entries_with
listed_entry entry opcode m = (from-filter (λ entry. has_opcode entry opcode) entry table m).1

-- the entry of a row is one of the entries of the row's opcode
pub row_entry : (row : Row) → IsRow row → Among row.entry (entries_with (opcode_of row))
unfolding entries_with has_opcode same_opcode
row_entry row m =
    let at = row-rows_of row m in
    let same : (opcode_number (opcode_of row) == opcode_number (opcode_of row)) ≡ true = eq-eqb _ _ refl in
    let has = any-among (λ other. opcode_number (opcode_of other) == opcode_number (opcode_of row)) row
    (rows_of row.entry) same at.1 in
    among-filter (λ entry. has_opcode entry (opcode_of row)) row.entry table has at.0

-- an entry of an opcode has a row that gives it
pub entry_row : (entry : Entry) (opcode : Opcode) → Among entry (entries_with opcode)
    → (row : Row) × IsRow row × (row.entry ≡ entry) × (same_opcode (opcode_of row) opcode ≡ true)
unfolding entries_with has_opcode
entry_row entry opcode m =
    let kept = from-filter (λ entry. has_opcode entry opcode) entry table m in
    let gives = from-any (λ row. same_opcode (opcode_of row) opcode) (rows_of entry) kept.0 in
    let is = rows_of-row entry gives.0 kept.1 gives.1 in
    (gives.0, is.0, is.1, gives.2)
