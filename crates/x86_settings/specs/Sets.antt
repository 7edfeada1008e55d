use Rattle.std.specs.Prelude.{ℕ, Bool, List, [], ◌∷◌, ◌==◌, map}
use Rattle.std.specs.List.{list_all, list_any, range_with_len}
use Rattle.x86_settings.specs.Bits.{is_set, with_set}

-- whether all these bits of the settings are set
abbrev pub all_set : List Bool → List ℕ → Bool
all_set settings places = list_all (is_set settings) places

-- the settings with all these bits set, and every other bit as it was
abbrev pub with_all_set : List Bool → List ℕ → List Bool
with_all_set settings [] = settings
with_all_set settings (i ∷ places) = with_all_set (with_set settings i) places

-- whether bit i is one of these
abbrev pub is_among : List ℕ → ℕ → Bool
is_among places i = list_any (λ place. place == i) places

-- the settings of which exactly these bits are set
abbrev pub exactly : List ℕ → List Bool
exactly places = map (is_among places) (range_with_len 0 128)
