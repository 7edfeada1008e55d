-- What holds of at most four operands.
use Rattle.std.proofs.Common.{◌≡◌, ◌≤◌, Bool, true, false, ◌||◌, List, [], ◌∷◌, length, refl, arith}
use Rattle.x86_operand.specs.Meaning.{OperandMeaning}
use Rattle.x86_operand.specs.Instruction.{operand_at}
use Rattle.x86_features.specs.declared.rule.VectorLength.{VectorLength}
use Rattle.x86_features.specs.declared.rule.VectorLength.TheVariants.{Bits128, Bits256, Bits512}
use Rattle.x86_features.specs.Needs.{length_of, longest, vector_length, is_memory, has_memory}

longest_none : (a : VectorLength) → longest a Bits128 ≡ a
longest_none Bits128 = refl
longest_none Bits256 = refl
longest_none Bits512 = refl

longest_assoc : (a b c : VectorLength) → longest (longest a b) c ≡ longest a (longest b c)
longest_assoc Bits128 b c = refl
longest_assoc Bits512 b c = refl
longest_assoc Bits256 Bits128 c = refl
longest_assoc Bits256 Bits256 Bits128 = refl
longest_assoc Bits256 Bits256 Bits256 = refl
longest_assoc Bits256 Bits256 Bits512 = refl
longest_assoc Bits256 Bits512 c = refl

-- the vector length of at most four operands, place by place
pub vector_length_places : (operands : List OperandMeaning) → length operands ≤ 4
    → vector_length operands
    ≡ longest (longest (longest (length_of (operand_at operands 0)) (length_of (operand_at operands 1)))
    (length_of (operand_at operands 2))) (length_of (operand_at operands 3))
unfolding vector_length
vector_length_places [] few = refl
vector_length_places (a ∷ []) few = by (length_of a) where
  by : (x : VectorLength) → longest x Bits128 ≡ longest (longest (longest x Bits128) Bits128) Bits128
  by Bits128 = refl
  by Bits256 = refl
  by Bits512 = refl
vector_length_places (a ∷ b ∷ []) few = by (length_of a) (length_of b) where
  by : (x y : VectorLength) → longest x (longest y Bits128) ≡ longest (longest (longest x y) Bits128) Bits128
  by Bits128 Bits128 = refl
  by Bits128 Bits256 = refl
  by Bits128 Bits512 = refl
  by Bits256 Bits128 = refl
  by Bits256 Bits256 = refl
  by Bits256 Bits512 = refl
  by Bits512 y = refl
vector_length_places (a ∷ b ∷ c ∷ []) few = by (length_of a) (length_of b) (length_of c) where
  by : (x y z : VectorLength) → longest x (longest y (longest z Bits128))
      ≡ longest (longest (longest x y) z) Bits128
  by x y z = rw (longest_none z, longest_none (longest (longest x y) z), longest_assoc x y z) refl
vector_length_places (a ∷ b ∷ c ∷ d ∷ []) few = by (length_of a) (length_of b) (length_of c) (length_of d) where
  by : (x y z w : VectorLength) → longest x (longest y (longest z (longest w Bits128)))
      ≡ longest (longest (longest x y) z) w
  by x y z w = rw (longest_none w, longest_assoc (longest x y) z w, longest_assoc x y (longest z w)) refl
vector_length_places (a ∷ b ∷ c ∷ d ∷ e ∷ later) few = absurd (omega arith)

-- whether one of at most four operands lies in memory, place by place
pub has_memory_places : (operands : List OperandMeaning) → length operands ≤ 4
    → has_memory operands
    ≡ (((is_memory (operand_at operands 0) || is_memory (operand_at operands 1)) || is_memory (operand_at operands 2))
    || is_memory (operand_at operands 3))
unfolding has_memory
has_memory_places [] few = refl
has_memory_places (a ∷ []) few = by (is_memory a) where
  by : (x : Bool) → (x || false) ≡ (((x || false) || false) || false)
  by true = refl
  by false = refl
has_memory_places (a ∷ b ∷ []) few = by (is_memory a) (is_memory b) where
  by : (x y : Bool) → (x || (y || false)) ≡ (((x || y) || false) || false)
  by true y = refl
  by false true = refl
  by false false = refl
has_memory_places (a ∷ b ∷ c ∷ []) few = by (is_memory a) (is_memory b) (is_memory c) where
  by : (x y z : Bool) → (x || (y || (z || false))) ≡ (((x || y) || z) || false)
  by true y z = refl
  by false true z = refl
  by false false true = refl
  by false false false = refl
has_memory_places (a ∷ b ∷ c ∷ d ∷ []) few = by (is_memory a) (is_memory b) (is_memory c) (is_memory d) where
  by : (x y z w : Bool) → (x || (y || (z || (w || false)))) ≡ (((x || y) || z) || w)
  by true y z w = refl
  by false true z w = refl
  by false false true w = refl
  by false false false true = refl
  by false false false false = refl
has_memory_places (a ∷ b ∷ c ∷ d ∷ e ∷ later) few = absurd (omega arith)
