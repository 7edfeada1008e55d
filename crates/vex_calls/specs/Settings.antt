-- Settings as callers from other languages see them: two words.
use Rattle.std.specs.Prelude.{Bool, List, ◌++◌}
use Rattle.x86_settings.specs.Words.{bits}
use Rattle.vex_calls.specs.declared.flat_settings.FlatSettings.{FlatSettings}

-- the 128 bits of flat settings: those of the low word, the lowest first, and then those of the high one
unfoldable pub settings_of : FlatSettings → List Bool
settings_of flat = bits 64 flat.low ++ bits 64 flat.high
