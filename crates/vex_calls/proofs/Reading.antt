-- Reading the operands of a flat instruction, one after another.
use Rattle.std.proofs.Common.{◌≡◌, ℕ, zero, suc, ◌<◌, Bool, true, false, List, [], ◌∷◌, Some, None, Option, length, take}
use Rattle.std.proofs.Common.{ap, refl, sym, ◌∙◌, get_or, arith}
use Rattle.std.specs.Prelude.{if◌then◌else◌}
use Rattle.x86_opcode.specs.declared.Opcode.{Opcode}
use Rattle.x86_operand.specs.Meaning.{Decoded, Meaning, OperandMeaning}
use Rattle.vex_calls.specs.declared.flat_operand.FlatOperand.{FlatOperand}
use Rattle.vex_calls.specs.declared.flat_instruction.FlatInstruction.{FlatInstruction}
use Rattle.vex_calls.specs.Instructions.{is_marked, meaning_of, meaning_with, opcode_of, size_of}
use Rattle.vex_calls.specs.Operands.{operand_of, operand_onto, operands_of}

-- the operands that were read so far are those of the instruction, of which nothing else has changed
pub record Read (flats : List FlatOperand) (first now : Decoded) : Type 0 where
  pub operands : operands_of flats ≡ Some now.meaning.operands
  pub count : length now.meaning.operands ≡ length flats
  pub same : now ≡ record first { meaning = record first.meaning { operands = now.meaning.operands } }

-- an operand onto none
onto_none : (operand : Option OperandMeaning) → operand_onto operand None ≡ None
onto_none None = refl
onto_none (Some operand) = refl

onto_any : (operands : Option (List OperandMeaning)) → operand_onto None operands ≡ None
onto_any None = refl
onto_any (Some operands) = refl

-- an operand that is none
operands_of-none : (flats : List FlatOperand) (i : ℕ) (default : FlatOperand) → i < length flats
    → operand_of (get_or flats i default) ≡ None
    → operands_of flats ≡ None
operands_of-none [] i default within is = absurd (omega arith)
operands_of-none (flat ∷ flats) zero default within is = ap (λ o. operand_onto o (operands_of flats)) is
    ∙ onto_any (operands_of flats)
operands_of-none (flat ∷ flats) (suc i) default within is =
    ap (λ os. operand_onto (operand_of flat) os) (operands_of-none flats i default (omega arith) is)
    ∙ onto_none (operand_of flat)

-- a meaning without operands that could be read
with_none : (evex : Bool) (opcode : Option Opcode) (size : Option ℕ) → meaning_with evex opcode None size ≡ None
with_none evex None size = refl
with_none evex (Some opcode) size = refl

either_none : (b : Bool) (m : Option Meaning) → m ≡ None → (if b then m else None) ≡ None
either_none true m is = is
either_none false m is = refl

-- an instruction with an operand that is none
pub meaning_of-none : (flat : FlatInstruction) (count i : ℕ) (default : FlatOperand) (operand : Option OperandMeaning)
    → count ≡ flat.operand_count
    → i < length (take count flat.operands)
    → operand ≡ operand_of (get_or (take count flat.operands) i default)
    → operand ≡ None
    → meaning_of flat ≡ None
unfolding meaning_of
meaning_of-none flat count i default operand counted within read is =
    let none : operands_of (take flat.operand_count flat.operands) ≡ None =
    ap (λ k. operands_of (take k flat.operands)) (sym counted)
    ∙ operands_of-none (take count flat.operands) i default within (sym read ∙ is) in
    either_none _ _
    (ap (λ os. meaning_with (is_marked flat.mark) (opcode_of flat.opcode) os (size_of flat.size)) none
    ∙ with_none (is_marked flat.mark) (opcode_of flat.opcode) (size_of flat.size))
