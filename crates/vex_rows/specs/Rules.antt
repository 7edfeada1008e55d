use Rattle.std.specs.Prelude.{ℕ, Bool, true, not, ◌&&◌, ◌==◌}
use Rattle.vex_rows.specs.declared.entry.Entry.{Entry}
use Rattle.vex_rows.specs.declared.entry.Rule.{Rule}
use Rattle.vex_rows.specs.declared.entry.Rule.TheVariants.{Any, Zero, One}
use Rattle.vex_rows.specs.declared.key.Key.{Key}
use Rattle.vex_rows.specs.declared.key.Map.{Map}
use Rattle.vex_rows.specs.declared.key.Map.TheVariants.{Map0F, Map0F38, Map0F3A}
use Rattle.vex_rows.specs.declared.key.Pp.{Pp}
use Rattle.vex_rows.specs.declared.key.Pp.TheVariants.{Plain, Prefix66, PrefixF3, PrefixF2}

-- the number of an opcode map in a three-byte prefix (Intel SDM volume 2, section 2.3.6.1)
abbrev pub map_number : Map → ℕ
map_number Map0F = 1
map_number Map0F38 = 2
map_number Map0F3A = 3

-- the number of an implied prefix in the field pp (Intel SDM volume 2, section 2.3.6.3)
abbrev pub pp_number : Pp → ℕ
pp_number Plain = 0
pp_number Prefix66 = 1
pp_number PrefixF3 = 2
pp_number PrefixF2 = 3

-- whether a rule allows a bit
abbrev pub allows : Rule → Bool → Bool
allows Any bit = true
allows Zero bit = not bit
allows One bit = bit

-- whether an entry has a key: map, implied prefix and byte are the key's, and its rules allow the key's W and L
unfoldable pub has_key : Entry → Key → Bool
has_key entry key =
    entry.byte == key.byte && map_number entry.map == map_number key.map && pp_number entry.pp == pp_number key.pp
    && allows entry.w key.w && allows entry.l key.l
