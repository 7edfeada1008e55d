-- The list of all opcodes is in the order of their numbers.
use Rattle.std.proofs.Common.{◌≡◌, ℕ, suc, zero, ◌+◌, ◌<◌, ◌≤◌, Bool, true, ◌&&◌, ◌==◌, List, [], ◌∷◌, Some, None}
use Rattle.std.proofs.Common.{slice_get, length, sym, ◌∙◌, ap, refl, add-zero, zero-add, arith, get_or}
use Rattle.std.proofs.lemmas.Bool.{eqb-true, and_parts}
use Rattle.std.proofs.lemmas.Option.{slice_get-get_or, slice_get_past}
use Rattle.x86_opcode.specs.declared.Opcode.{Opcode}
use Rattle.x86_opcode.specs.Constants.{constants}
use Rattle.x86_opcode.specs.Number.{opcode_number}
use Rattle.x86_opcode.specs.Number.Lemmas.{opcode_number_injective}
use Rattle.vex_calls.specs.Instructions.{all_opcodes, opcode_of}

-- whether the numbers of the opcodes are k, k + 1 and so on
abbrev numbered : ℕ → List Opcode → Bool
numbered k [] = true
numbered k (o ∷ os) = (opcode_number o == k) && numbered (k + 1) os

numbered-at : (k : ℕ) (os : List Opcode) → numbered k os ≡ true → (i : ℕ) (o : Opcode) → slice_get os i ≡ Some o
    → opcode_number o ≡ k + i
numbered-at k [] h i o e = cc
numbered-at k (p ∷ os) h zero o e =
    let same : p ≡ o = cc in
    let number : opcode_number p ≡ k = eqb-true _ _ (and_parts _ _ h).0 in rw (← same) (number ∙ sym (add-zero k))
numbered-at k (p ∷ os) h (suc i) o e =
    omega (arith, numbered-at (k + 1) os (and_parts _ _ h).1 i o e)

all_numbered : numbered 0 all_opcodes ≡ true
unfolding all_opcodes constants opcode_number
all_numbered = refl

all_long : length all_opcodes ≡ 551
unfolding all_opcodes constants
all_long = refl

-- the opcode of a number has the number
pub opcode_of_number : (n : ℕ) (o : Opcode) → opcode_of n ≡ Some o → opcode_number o ≡ n
unfolding opcode_of
opcode_of_number n o e = numbered-at 0 all_opcodes all_numbered n o e ∙ zero-add n

-- two opcodes that have the place as their number are one
same_place : (n : ℕ) (a b : Opcode) → slice_get all_opcodes n ≡ Some b → n ≡ opcode_number a → a ≡ b
same_place n a b there one = opcode_number_injective a b
    (sym one ∙ sym (numbered-at 0 all_opcodes all_numbered n b there ∙ zero-add n))

-- a list of all opcodes by their numbers has the opcode of a number there
pub opcode_of_place : (list : List Opcode) (n : ℕ) (default : Opcode) → length list ≡ 551
    → ((i : ℕ) (o : Opcode) → slice_get list i ≡ Some o → i ≡ opcode_number o)
    → n < length list
    → opcode_of n ≡ Some (get_or list n default)
unfolding opcode_of
opcode_of_place list n default long once within =
    let here = slice_get-get_or list n default within in
    let there = slice_get-get_or all_opcodes n default (omega (arith, long, all_long, within)) in
    there ∙ ap Some (sym (same_place n (get_or list n default) (get_or all_opcodes n default) there
    (once n (get_or list n default) here)))

-- no opcode has a number from 551 on
pub opcode_of_past : (list : List Opcode) (n : ℕ) → length list ≡ 551 → length list ≤ n → None ≡ opcode_of n
unfolding opcode_of
opcode_of_past list n long past = sym (slice_get_past all_opcodes n (omega (arith, long, all_long, past)))
