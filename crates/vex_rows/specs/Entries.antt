-- The rows of an entry, and the entries of an opcode.
pub mod Lemmas
use Rattle.std.specs.Prelude.{Bool, List, filter}
use Rattle.std.specs.List.{list_any}
use Rattle.x86_opcode.specs.declared.Opcode.{Opcode}
use Rattle.x86_opcode.specs.Number.{same_opcode}
use Rattle.vex_rows.specs.declared.entry.Entry.{Entry}
use Rattle.vex_rows.specs.Row.{Row, choices, exists, opcode_of}
use Rattle.vex_rows.specs.Table.{table}

-- the rows of an entry
unfoldable pub rows_of : Entry → List Row
rows_of entry = filter exists (choices entry)

-- whether some row of an entry gives an opcode
unfoldable pub has_opcode : Entry → Opcode → Bool
has_opcode entry opcode = list_any (λ row. same_opcode (opcode_of row) opcode) (rows_of entry)

-- the entries of which some row gives an opcode, in table order
unfoldable pub entries_with : Opcode → List Entry
entries_with opcode = filter (λ entry. has_opcode entry opcode) table
