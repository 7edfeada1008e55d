use Rattle.std.proofs.Common.{arith, ap, ◌∙◌}
use Rattle.x86_operand.specs.Meaning.{Decoded}
use Rattle.vex_decode.proofs.Rests.{two, rest_length, rest_taken, rest_fails, rest_noted, rest_kept}
use Rattle.vex_decode.proofs.vex_prefix.two_byte_vex.Goals as goal

pub overflow_cast-offset : goal.overflow_cast-offset
overflow_cast-offset g c = omega (arith, rest_length two _ c.requires c.in-Ok.ensures, c.offset.ensures)

pub returns-in-Ok-clause-decoded : goal.returns-in-Ok-clause-decoded
returns-in-Ok-clause-decoded g c =
    rest_taken two _ _ (ap (λ (d : Decoded). d.meaning) c.set_len.ensures)
    (ap (λ (d : Decoded). d.len) c.set_len.ensures ∙ c.offset.ensures) c.requires c.in-Ok.ensures

pub returns-in-Ok-clause-noted : goal.returns-in-Ok-clause-noted
returns-in-Ok-clause-noted g c = rest_noted two _ c.in-Ok.ensures

pub returns-in-Ok-clause-kept : goal.returns-in-Ok-clause-kept
returns-in-Ok-clause-kept g c = rest_kept (rest_noted two _ c.in-Ok.ensures)

pub returns-in-Err-clause-refused : goal.returns-in-Err-clause-refused
returns-in-Err-clause-refused g c = rest_fails two _ c.in-Err.ensures

pub returns-in-Err-clause-noted : goal.returns-in-Err-clause-noted
returns-in-Err-clause-noted g c = rest_noted two _ c.in-Err.ensures

pub returns-in-Err-clause-kept : goal.returns-in-Err-clause-kept
returns-in-Err-clause-kept g c = rest_kept (rest_noted two _ c.in-Err.ensures)
