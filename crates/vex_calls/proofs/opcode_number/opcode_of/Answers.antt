use Rattle.std.proofs.Common.{ap, sym, ◌∙◌}
use Rattle.std.proofs.lemmas.Option.{slice_get-get_or}
use Rattle.vex_calls.specs.Instructions.{opcode_of}
use Rattle.vex_calls.proofs.Opcodes.{opcode_of_past, opcode_of_place}
use Rattle.vex_calls.proofs.opcode_number.opcode_of.Goals as goal

pub returns-then-place-all-clause-value : goal.returns-then-place-all-clause-value
returns-then-place-all-clause-value c =
    sym (opcode_of_place _ _ _ c.all-all.ensures.count c.all-all.ensures.once c.if-place-all.true)
    ∙ ap opcode_of c.from-place.ensures

pub returns-then-place-all-clause-number : goal.returns-then-place-all-clause-number
returns-then-place-all-clause-number c =
    sym (c.all-all.ensures.once _ _ (slice_get-get_or _ _ _ c.if-place-all.true)) ∙ c.from-place.ensures

pub returns-else-place-all-clause-value : goal.returns-else-place-all-clause-value
returns-else-place-all-clause-value c =
    opcode_of_past _ _ c.all-all.ensures.count c.if-place-all.false ∙ ap opcode_of c.from-place.ensures
