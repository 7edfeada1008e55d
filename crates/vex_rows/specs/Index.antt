-- The indexes by which the code finds the entry of a key and the entries of an opcode.
use Rattle.std.specs.Prelude.{ℕ, ◌+◌, ◌*◌, Bool, true, false, List, slice_index, slice_index_or, slice_range}
use Rattle.vex_rows.specs.declared.entries.TheConstants.{NO_ENTRY}
use Rattle.vex_rows.specs.declared.key.Key.{Key}
use Rattle.vex_rows.specs.declared.places.TheConstants.{PLACES, STARTS, SIZE_PLACES}
use Rattle.vex_rows.specs.Cells.{cells_of}

-- a bit as a number
abbrev pub bit : Bool → ℕ
bit true = 1
bit false = 0

-- what the cell of a key holds: a place in table order, or that no entry has the key
unfoldable pub cell_of : Key → ℕ
cell_of key = slice_index_or (cells_of key.map key.pp) (4 * key.byte + 2 * bit key.w + bit key.l) NO_ENTRY

-- the places of all opcodes' entries, opcode by opcode
unfoldable pub place_list : List ℕ
place_list = PLACES

-- where in that list the places of each opcode's entries begin, by the opcode's number, and at last where they end
unfoldable pub start_list : List ℕ
start_list = STARTS

-- the places of the opcode that has a number
unfoldable pub places_at : ℕ → List ℕ
places_at number = slice_range place_list (slice_index start_list number) (slice_index start_list (number + 1))

-- where the size of each opcode stands in the lists of sizes that have it, by the opcode's number
unfoldable pub size_place_list : List ℕ
size_place_list = SIZE_PLACES
