use Rattle.std.proofs.Common.{sym, ◌∙◌, arith, map, take}
use Rattle.std.proofs.lemmas.Option.{none-some}
use Rattle.std.proofs.lemmas.Grind.{common_steps}
use Rattle.x86_operand.specs.Meaning.{Meaning, operand_meaning}
use Rattle.vex_asm.proofs.Meanings.{meant, nothing_meant, spelled, made_so, same_decoded, found_text}
use Rattle.vex_asm.proofs.reader.instruction_of.Goals as goal

pub returns-in_err-name-clause-only : goal.returns-in_err-name-clause-only
returns-in_err-name-clause-only c = λ m h. absurd (nothing_meant _ m c.in_err-name.ensures.parts h)

pub returns-in_err-evex-clause-only : goal.returns-in_err-evex-clause-only
returns-in_err-evex-clause-only c = λ m h.
    let parts = meant _ _ _ m c.in_ok-name.ensures.parts h in
    absurd (none-some _ (c.in_err-evex.ensures.only m.evex m.opcode parts.0))

pub returns-in_err-rest-clause-only : goal.returns-in_err-rest-clause-only
returns-in_err-rest-clause-only c = λ m h.
    let parts = meant _ _ _ m c.in_ok-name.ensures.parts h in
    absurd (none-some _ (c.in_err-rest.ensures.value ∙ parts.1))

pub returns-clause-found : goal.returns-clause-found
returns-clause-found c =
    let m : Meaning = record {
      evex = c.in_ok-evex.evex;
      opcode = c.in_ok-evex.opcode;
      operands = map operand_meaning (take c.in_ok-rest.rest.count c.in_ok-rest.rest.operands);
      size = c.in_ok-rest.rest.size;
    } in
    found_text c.from_parts.result m _ c.from_parts.ensures.value
    (spelled _ _ _ m c.in_ok-name.ensures.parts c.in_ok-evex.ensures.found (sym c.in_ok-rest.ensures.value))

pub returns-clause-only : goal.returns-clause-only
returns-clause-only c = λ m h.
    let parts = meant _ _ _ m c.in_ok-name.ensures.parts h in
    made_so _ _ _ (c.from_parts.ensures.within.1 (grind (arith, common_steps, c.in_ok-rest.ensures.count)))
    c.from_parts.ensures.value
    (same_decoded _ _ _ _ _ _ _ _ (c.in_ok-evex.ensures.only m.evex m.opcode parts.0)
    (c.in_ok-rest.ensures.value ∙ parts.1))
