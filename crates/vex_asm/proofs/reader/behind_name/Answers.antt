use Rattle.std.proofs.Common.{◌≡◌, ◌≤◌, ◌<◌, ◌+◌, ◌++◌, ◌∷◌, [], List, ℕ, take, map, length, sym, ap, ◌∙◌, arith, rules}
use Rattle.std.proofs.Common.{slice_set}
use Rattle.std.proofs.lemmas.Grind.{common_steps}
use Rattle.std.proofs.lemmas.List.{length-map, map-append}
use Rattle.x86_operand.specs.declared.address.Operand.{Operand}
use Rattle.x86_operand.specs.Meaning.{operand_meaning}
use Rattle.vex_asm.specs.Parsed.{rest_of, behind}
use Rattle.vex_asm.proofs.Operands.{behind-more, behind-no_operand, behind-too_many, behind-last, behind-no_size}
use Rattle.vex_asm.proofs.Operands.{behind-no_word}
use Rattle.vex_asm.proofs.reader.behind_name.Goals as goal

length-front : (os : List Operand) (n : ℕ) → length os ≡ 4 → n ≤ 4 → length (map operand_meaning (take n os)) ≡ n
length-front os n h k =
    let front : length (take n os) ≡ n = grind (arith, common_steps) in
    length-map (take n os) operand_meaning ∙ front

front-more : (os : List Operand) (n : ℕ) (o : Operand) → n < length os
    → map operand_meaning (take (n + 1) (slice_set os n o)) ≡ map operand_meaning (take n os) ++ operand_meaning o ∷ []
front-more os n o h =
    let more : take (n + 1) (slice_set os n o) ≡ take n os ++ o ∷ [] = grind (arith, common_steps) in
    ap (map operand_meaning) more ∙ map-append operand_meaning (take n os) (o ∷ [])

pub returns-in_err-last-clause-value : goal.returns-in_err-last-clause-value
returns-in_err-last-clause-value c = rw (c.from_residual.ensures, c.in_err-last.ensures.parts) behind-no_word

pub returns-in_err-operand-clause-value : goal.returns-in_err-operand-clause-value
returns-in_err-operand-clause-value c = rw
    (c.from_residual-in_err-operand.ensures, ← c.loop-word.invariant.parts, c.in-Some.ensures.parts)
    (behind-no_operand _ _ _ _ c.in_err-operand.ensures)

pub returns-then-count-ge-MAX_OPERANDS-clause-value : goal.returns-then-count-ge-MAX_OPERANDS-clause-value
returns-then-count-ge-MAX_OPERANDS-clause-value c = rw (← c.loop-word.invariant.parts, c.in-Some.ensures.parts)
    (behind-too_many _ _ _ _ _ c.in_ok-operand.ensures
    (omega (
      arith,
      length-front c.loop-word.operands c.loop-word.count c.loop-word.invariant.whole
          c.loop-word.invariant.count,
      c.if-count-ge-MAX_OPERANDS.true,
    )))

pub loop-word-preserved : goal.loop-word-preserved
loop-word-preserved c = record {
  count = search rules;
  whole = search rules;
  parts = rw (front-more c.loop-word.operands c.loop-word.count c.in_ok-operand.operand
      (omega (arith, c.loop-word.invariant.whole, c.if-count-ge-MAX_OPERANDS.false)))
      (behind-more _ _ _ _ _ c.in_ok-operand.ensures
      ∙ (ap (λ ws. behind (map operand_meaning (take c.loop-word.count c.loop-word.operands))
      (rest_of (c.loop-word.last.now ∷ ws))) (sym c.in-Some.ensures.parts) ∙ c.loop-word.invariant.parts));
}

pub returns-in_err-size-clause-value : goal.returns-in_err-size-clause-value
returns-in_err-size-clause-value c = rw (
  c.from_residual-in_err-size.ensures,
  ← c.loop-word.invariant.parts,
  c.in_default.ensures.parts,
) (behind-no_size _ _ c.in_err-size.ensures)

pub returns-clause-value : goal.returns-clause-value
returns-clause-value c = rw (← c.loop-word.invariant.parts, c.in_default.ensures.parts)
    (behind-last _ _ _ (omega (
      arith,
      length-front c.loop-word.operands c.loop-word.count c.loop-word.invariant.whole
          c.loop-word.invariant.count,
      c.loop-word.invariant.count,
    )) c.in_ok-size.ensures)
