-- The texts of operands, one after another, and how long an opcode's name is.
use Rattle.std.specs.Prelude.{◌≡◌, refl, ℕ, ◌+◌, ◌<◌, List, [], ◌∷◌, ◌++◌, length, take, codes, slice_index_or}
use Rattle.std.proofs.Common.{ap, sym, ◌∙◌, append_assoc}
use Rattle.std.specs.Prelude.{map, decimal, unwrap_or}
use Rattle.std.specs.List.{join_with_byte}
use Rattle.std.proofs.lemmas.List.{take_more, append-nil}
use Rattle.x86_opcode.specs.Name.{opcode_name}
use Rattle.x86_operand.specs.Meaning.{OperandMeaning, nothing, Meaning}
use Rattle.vex_asm.specs.Text.{operand_text, mark_text, text}
use Rattle.vex_asm.specs.Written.{operands_text}

operands_text-append : (xs ys : List OperandMeaning) → operands_text (xs ++ ys) ≡ operands_text xs ++ operands_text ys
operands_text-append [] ys = refl
operands_text-append (x ∷ xs) ys =
    ap (λ rest. codes " " ++ operand_text x ++ rest) (operands_text-append xs ys)
    ∙ sym (append_assoc (codes " " ++ operand_text x) (operands_text xs) (operands_text ys))

-- one operand more
pub operands_text-more : (operands : List OperandMeaning) (i : ℕ) → i < length operands
    → operands_text (take (i + 1) operands)
    ≡ operands_text (take i operands) ++ (codes " " ++ operand_text (slice_index_or operands i nothing))
operands_text-more operands i h =
    ap operands_text (take_more operands i nothing h)
    ∙ operands_text-append (take i operands) (slice_index_or operands i nothing ∷ [])
    ∙ ap (λ t. operands_text (take i operands) ++ t)
    (append_nil (codes " " ++ operand_text (slice_index_or operands i nothing))) where
      append_nil : (xs : List ℕ) → xs ++ [] ≡ xs
      append_nil [] = refl
      append_nil (x ∷ xs) = ap (λ t. x ∷ t) (append_nil xs)

-- the operands and the size, joined to the name
joined : (w : List ℕ) (os : List OperandMeaning) (d : List ℕ)
    → w ++ operands_text os ++ codes " " ++ d ≡ join_with_byte 32 (w ∷ (map operand_text os ++ d ∷ []))
joined w [] d = ap (λ x. x ++ codes " " ++ d) (append-nil w) ∙ append_assoc w (codes " ") d
joined w (o ∷ os) d =
    let inner : operand_text o ++ operands_text os ++ codes " " ++ d
    ≡ join_with_byte 32 (operand_text o ∷ (map operand_text os ++ d ∷ [])) = joined (operand_text o) os d in
    append_assoc (w ++ 32 ∷ (operand_text o ++ operands_text os)) (codes " ") d
    ∙ (append_assoc w (32 ∷ (operand_text o ++ operands_text os)) (codes " " ++ d)
    ∙ ap (λ x. w ++ 32 ∷ x) (sym (append_assoc (operand_text o ++ operands_text os) (codes " ") d) ∙ inner))

-- the text behind a front, as it is put together
pub text_as_written : (front : List ℕ) (m : Meaning)
    → front ++ mark_text m.evex ++ opcode_name m.opcode ++ operands_text m.operands ++ codes " "
    ++ decimal (unwrap_or m.size 0) ≡ front ++ text m
unfolding text
text_as_written front m =
    let mark = mark_text m.evex in
    let name = opcode_name m.opcode in
    let operands = operands_text m.operands in
    let size = decimal (unwrap_or m.size 0) in
    ap (λ x. x ++ operands ++ codes " " ++ size) (append_assoc front mark name)
    ∙ (ap (λ x. x ++ codes " " ++ size) (append_assoc front (mark ++ name) operands)
    ∙ (ap (λ x. x ++ size) (append_assoc front (mark ++ name ++ operands) (codes " "))
    ∙ (append_assoc front (mark ++ name ++ operands ++ codes " ") size
    ∙ ap (λ x. front ++ x) (joined (mark ++ name) m.operands size))))
