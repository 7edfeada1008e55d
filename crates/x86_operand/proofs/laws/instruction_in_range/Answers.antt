-- An instruction has no operand past its fourth place.
use Rattle.std.proofs.Common.{◌≡◌, ℕ, zero, suc, ◌<◌, ◌≤◌, List, [], ◌∷◌, length, slice_index_or, refl, sym, subst}
use Rattle.std.proofs.Common.{arith}
use Rattle.std.specs.List.{All}
use Rattle.x86_operand.specs.Instruction.{operand_at}
use Rattle.x86_operand.specs.Meaning.{OperandMeaning, nothing}
use Rattle.x86_operand.specs.Range.{IsOperand}
use Rattle.x86_operand.proofs.laws.instruction_in_range.Goals as goal

-- at a place of the list, what is answered beyond it plays no part
within : (xs : List OperandMeaning) (k : ℕ) (d e : OperandMeaning) → k < length xs
    → slice_index_or xs k d ≡ slice_index_or xs k e
within [] k d e h = absurd (omega arith)
within (x ∷ xs) zero d e h = refl
within (x ∷ xs) (suc k) d e h = within xs k d e (omega arith)

each : (P : ℕ → Type 0) → P 0 → P 1 → P 2 → P 3 → (k : ℕ) → k < 4 → P k
each P a b c d zero h = a
each P a b c d (suc zero) h = b
each P a b c d (suc (suc zero)) h = c
each P a b c d (suc (suc (suc zero))) h = d
each P a b c d (suc (suc (suc (suc k)))) h = absurd (omega arith)

all_operands : (xs : List OperandMeaning) → length xs ≤ 4 → ((k : ℕ) → k < 4 → IsOperand (operand_at xs k))
    → All IsOperand xs
all_operands xs few at k d h = subst IsOperand (within xs k nothing d h) (at k (omega arith))

pub returns : goal.returns
returns c = record {
  few = omega arith;
  operands =
      all_operands c.args.inst.meaning.operands (omega arith)
      (each (λ k. IsOperand (operand_at c.args.inst.meaning.operands k)) c.place_in_range.ensures
      c.place_in_range-2.ensures c.place_in_range-3.ensures c.place_in_range-4.ensures);
  size = c.memory_in_range.ensures;
}
