use Rattle.std.specs.Prelude.{ℕ, Bool, true, false, List, slice_index_or, slice_set, replicate}

-- whether bit i of the settings is set
abbrev pub is_set : List Bool → ℕ → Bool
is_set settings i = slice_index_or settings i false

-- the settings with bit i set, and every other bit as it was
abbrev pub with_set : List Bool → ℕ → List Bool
with_set settings i = slice_set settings i true

-- the settings of which no bit is set
abbrev pub no_bits : List Bool
no_bits = replicate 128 false

-- the settings of which all 128 bits are set
abbrev pub all_bits : List Bool
all_bits = replicate 128 true
