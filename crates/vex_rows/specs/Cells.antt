-- The cells of the direct index, written by tools/entries.py.
use Rattle.std.specs.Prelude.{ℕ, List, []}
use Rattle.vex_rows.specs.declared.key.Map.{Map}
use Rattle.vex_rows.specs.declared.key.Map.TheVariants.{Map0F, Map0F38, Map0F3A}
use Rattle.vex_rows.specs.declared.key.Pp.{Pp}
use Rattle.vex_rows.specs.declared.key.Pp.TheVariants.{Plain, Prefix66, PrefixF3, PrefixF2}
use Rattle.vex_rows.specs.declared.cells.TheConstants.{CELLS_0F_PLAIN, CELLS_0F_66, CELLS_0F_F3, CELLS_0F_F2}
use Rattle.vex_rows.specs.declared.cells.TheConstants.{CELLS_0F38_PLAIN, CELLS_0F38_66, CELLS_0F38_F3, CELLS_0F38_F2}
use Rattle.vex_rows.specs.declared.cells.TheConstants.{CELLS_0F3A_66, CELLS_0F3A_F2}

-- the cells of an opcode map and an implied prefix, none where it has no entries
unfoldable pub cells_of : Map → Pp → List ℕ
cells_of Map0F Plain = CELLS_0F_PLAIN
cells_of Map0F Prefix66 = CELLS_0F_66
cells_of Map0F PrefixF3 = CELLS_0F_F3
cells_of Map0F PrefixF2 = CELLS_0F_F2
cells_of Map0F38 Plain = CELLS_0F38_PLAIN
cells_of Map0F38 Prefix66 = CELLS_0F38_66
cells_of Map0F38 PrefixF3 = CELLS_0F38_F3
cells_of Map0F38 PrefixF2 = CELLS_0F38_F2
cells_of Map0F3A Plain = []
cells_of Map0F3A Prefix66 = CELLS_0F3A_66
cells_of Map0F3A PrefixF3 = []
cells_of Map0F3A PrefixF2 = CELLS_0F3A_F2
