-- Each opcode stands on the slot to which its name leads, so that names tell opcodes apart.
use Rattle.std.proofs.Common.{◌≡◌, ℕ, suc, zero, Bool, true, ◌&&◌, List, [], ◌∷◌, Some, slice_get, sym, ◌∙◌, ap, refl}
use Rattle.std.proofs.lemmas.Bool.{and_parts}
use Rattle.x86_opcode.specs.declared.Opcode.{Opcode}
use Rattle.x86_opcode.specs.declared.list.TheConstants.{ALL}
use Rattle.x86_opcode.specs.Name.{opcode_name}
use Rattle.x86_opcode.specs.Number.{opcode_number, same_opcode}
use Rattle.x86_opcode.specs.Number.Listed.{listed}
use Rattle.x86_opcode.specs.Number.Lemmas.{same_opcode_equal}
use Rattle.x86_opcode.specs.Slots.{slot, shift_at, opcode_at}

-- whether each opcode stands on the slot of its name
abbrev each_found : List Opcode → Bool
each_found [] = true
each_found (o ∷ os) = same_opcode (opcode_at (slot (opcode_name o))) o && each_found os

each_found-at : (os : List Opcode) → each_found os ≡ true → (i : ℕ) (o : Opcode) → slice_get os i ≡ Some o
    → opcode_at (slot (opcode_name o)) ≡ o
each_found-at [] h i o e = cc
each_found-at (p ∷ os) h zero o e =
    let same : p ≡ o = cc in rw (← same) (same_opcode_equal _ _ (and_parts _ _ h).0)
each_found-at (p ∷ os) h (suc i) o e = each_found-at os (and_parts _ _ h).1 i o e

all_found : each_found ALL ≡ true
unfolding opcode_at slot shift_at opcode_name opcode_number same_opcode
all_found = refl

-- the opcode on the slot of an opcode's name is that opcode
pub name_found : (o : Opcode) (name : List ℕ) → opcode_name o ≡ name → opcode_at (slot name) ≡ o
name_found o name e = rw (← e) (each_found-at ALL all_found (opcode_number o) o (listed o))

-- opcodes of one name are one
pub opcode_name_injective : (a b : Opcode) → opcode_name a ≡ opcode_name b → a ≡ b
opcode_name_injective a b e = sym (name_found a (opcode_name b) e) ∙ name_found b (opcode_name b) refl
