use Rattle.std.specs.Prelude.{List, [], ◌∷◌}
use Rattle.vex_rows.specs.declared.few.Few.{Few}
use Rattle.vex_rows.specs.declared.few.Few.TheVariants.{Zero, One, Two, Three, Four}

-- the elements of a short list in order
abbrev pub items : {A : Type 0} → Few A → List A
items Zero = []
items (One a) = a ∷ []
items (Two a b) = a ∷ b ∷ []
items (Three a b c) = a ∷ b ∷ c ∷ []
items (Four a b c d) = a ∷ b ∷ c ∷ d ∷ []
