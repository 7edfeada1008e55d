use Rattle.std.proofs.Common.{◌≡◌, None, Some, Option, Bool, List, ℕ, refl}
use Rattle.std.specs.Str.{IsUtf8}
use Rattle.x86_uarch.specs.Profiles.{profile_of}
use Rattle.vex_c.proofs.Named.{profile_text}
use Rattle.vex_c.proofs.settings.named.Goals as goal

none : (name : List ℕ) (found : Option (List Bool)) → profile_of name ≡ found → (IsUtf8 name → ⊥) → None ≡ found
none name None is not_text = refl
none name (Some settings) is not_text = absurd (not_text (profile_text name settings is))

pub returns-in-Err : goal.returns-in-Err
returns-in-Err c = none _ _ refl c.in-Err.ensures.cases.0
