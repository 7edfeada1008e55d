-- The number tells opcodes apart.
use Rattle.std.proofs.Common.{◌≡◌, ℕ, suc, zero, ◌+◌, Bool, true, ◌&&◌, ◌==◌, List, [], ◌∷◌, Some, slice_get, sym, ◌∙◌}
use Rattle.std.proofs.Common.{ap, refl, zero-add, add-zero, arith}
use Rattle.std.proofs.lemmas.Bool.{eqb-true, eq-eqb, and_parts}
use Rattle.x86_opcode.specs.declared.Opcode.{Opcode}
use Rattle.x86_opcode.specs.declared.list.TheConstants.{ALL}
use Rattle.x86_opcode.specs.Number.{opcode_number, same_opcode}
use Rattle.x86_opcode.specs.Number.Listed.{listed}

-- opcodes of one number are one
pub opcode_number_injective : (a b : Opcode) → opcode_number a ≡ opcode_number b → a ≡ b
opcode_number_injective a b e =
    let same : Some a ≡ Some b = sym (listed a) ∙ (ap (λ n. slice_get ALL n) e ∙ listed b) in cc

-- opcodes that pass the test are one
pub same_opcode_equal : (a b : Opcode) → same_opcode a b ≡ true → a ≡ b
unfolding same_opcode
same_opcode_equal a b e = opcode_number_injective a b (eqb-true _ _ e)

-- each opcode passes the test with itself
pub same_opcode_refl : (a : Opcode) → same_opcode a a ≡ true
unfolding same_opcode
same_opcode_refl a = eq-eqb _ _ refl

-- whether the numbers of the opcodes are k, k + 1 and so on
abbrev numbered : ℕ → List Opcode → Bool
numbered k [] = true
numbered k (o ∷ os) = (opcode_number o == k) && numbered (k + 1) os

numbered-place : (k : ℕ) (os : List Opcode) → numbered k os ≡ true → (i : ℕ) (o : Opcode) → slice_get os i ≡ Some o
    → k + i ≡ opcode_number o
numbered-place k [] h i o e = cc
numbered-place k (p ∷ os) h zero o e =
    let same : p ≡ o = cc in
    let number : opcode_number p ≡ k = eqb-true _ _ (and_parts _ _ h).0 in rw (← same) (add-zero k ∙ sym number)
numbered-place k (p ∷ os) h (suc i) o e =
    omega (arith, numbered-place (k + 1) os (and_parts _ _ h).1 i o e)

-- the opcode at a place of the list of all has the place as its number
pub place_is_number : (i : ℕ) (o : Opcode) → slice_get ALL i ≡ Some o → i ≡ opcode_number o
unfolding opcode_number
place_is_number i o e = sym (zero-add i) ∙ numbered-place 0 ALL refl i o e
