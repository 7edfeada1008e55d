-- The lines of the items of a sweep, one after another.
use Rattle.std.proofs.Common.{◌≡◌, ℕ, List, [], ◌∷◌, ◌++◌, ap, refl}
use Rattle.std.specs.Prelude.{flat_map, map}
use Rattle.vex_encode.specs.declared.sweeper.SweepItem.{SweepItem}
use Rattle.vex_encode.specs.Sweep.{item_seen}
use Rattle.vex_lines.specs.SweepLines.{item_line}

-- the line of an item of the code's
abbrev pub seen_line : SweepItem → List ℕ
seen_line item = item_line (item_seen item)

-- the lines of items, as contracts see them
pub seen_lines : (items : List SweepItem) → flat_map seen_line items ≡ flat_map item_line (map item_seen items)
seen_lines [] = refl
seen_lines (item ∷ items) = ap (λ t. item_line (item_seen item) ++ t) (seen_lines items)
