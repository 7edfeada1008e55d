-- The line that names an error.
use Rattle.std.specs.Prelude.{ℕ, List, [], ◌∷◌, ◌++◌, codes}

-- `error`, a space, the error's name and a line end
abbrev pub error_line : List ℕ → List ℕ
error_line name = codes "error " ++ name ++ 10 ∷ []
