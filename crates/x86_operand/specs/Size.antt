use Rattle.std.specs.Prelude.{ℕ, List, [], ◌∷◌, codes, unwrap_or, ◌==◌}
use Rattle.std.specs.Map.{lookup}

-- the sizes of a memory operand that have names, in bytes, and the names
abbrev pub size_names : List (ℕ × List ℕ)
size_names =
    (1, codes "byte")
    ∷ (2, codes "word")
    ∷ (4, codes "dword")
    ∷ (5, codes "ptr")
    ∷ (6, codes "far")
    ∷ (8, codes "qword")
    ∷ (10, codes "mword")
    ∷ (16, codes "xmmword")
    ∷ (32, codes "ymmword")
    ∷ (48, codes "m384b")
    ∷ (63, codes "ptr")
    ∷ (64, codes "zmmword")
    ∷ []

-- the name of a size, and `BUG` for a size that has none
abbrev pub size_name : ℕ → List ℕ
size_name size = unwrap_or (lookup (λ named. size == named) size_names) (codes "BUG")
