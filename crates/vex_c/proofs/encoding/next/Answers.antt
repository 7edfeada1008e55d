use Rattle.std.proofs.Common.{ap, sym, ◌∙◌}
use Rattle.vex_calls.specs.Encodings.{flat_bytes}
use Rattle.vex_c.proofs.Told.{told}
use Rattle.vex_c.proofs.encoding.next.Goals as goal

pub returns-in-Some-spelling_after-clause-holds : goal.returns-in-Some-spelling_after-clause-holds
returns-in-Some-spelling_after-clause-holds c =
    let next = c.in-Some-spelling_after.ensures in
    record {
      meaning = c.in-Some.instruction.meaning;
      told = told c.args.flat.now c.instruction.result c.in-Some.instruction c.instruction.ensures c.in-Some.is;
      previous = c.in-Some-bytes.previous.now;
      after_told = sym (rw c.in-Some-bytes.is at c.bytes.ensures);
      next = c.in-Some-spelling_after.spelling;
      held = c.of.ensures ∙ ap flat_bytes c.as_slice.ensures.bytes;
      is_next = record { later = (next.spells, next.after); least = next.least };
    }
