-- One test over all constants.
use Rattle.std.proofs.Common.{◌≡◌, ℕ, zero, suc, ◌<◌, Bool, true, ◌&&◌, List, [], ◌∷◌, length, slice_index_or, bytes_eq}
use Rattle.std.proofs.Common.{refl, arith}
use Rattle.std.proofs.lemmas.Bool.{and_parts}
use Rattle.std.proofs.lemmas.Slice.Eq.{bytes_eq-Decides}
use Rattle.x86_opcode.specs.declared.Opcode.{Opcode}
use Rattle.x86_opcode.specs.Constants.{constants}
use Rattle.x86_opcode.specs.Name.{opcode_name}
use Rattle.x86_opcode.proofs.laws.constants_have_their_names.Goals as goal

-- whether each constant has the name that stands beside it
abbrev each_named : List (Opcode × List ℕ) → Bool
each_named [] = true
each_named (c ∷ cs) = bytes_eq (opcode_name c.0) c.1 && each_named cs

each_named-at : (cs : List (Opcode × List ℕ)) → each_named cs ≡ true → (k : ℕ) (d : Opcode × List ℕ) → k < length cs
    → opcode_name ((slice_index_or cs k d).0) ≡ (slice_index_or cs k d).1
each_named-at [] h k d below = absurd (omega arith)
each_named-at (c ∷ cs) h zero d below = (bytes_eq-Decides (opcode_name c.0) c.1).0 (and_parts _ _ h).0
each_named-at (c ∷ cs) h (suc k) d below = each_named-at cs (and_parts _ _ h).1 k d (omega arith)

all_named : each_named constants ≡ true
unfolding constants opcode_name
all_named = refl

pub returns-clause-named : goal.returns-clause-named
returns-clause-named c = each_named-at constants all_named

pub returns-clause-count : goal.returns-clause-count
unfolding constants
returns-clause-count c = refl
