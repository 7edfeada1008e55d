pub mod Lemmas
use Rattle.std.specs.Prelude.{List}
use Rattle.vex_rows.specs.declared.entry.Entry.{Entry}
use Rattle.vex_rows.specs.declared.table.TheConstants.{TABLE}

-- all entries, by map, implied prefix, byte, W rule and L rule
unfoldable pub table : List Entry
table = TABLE
