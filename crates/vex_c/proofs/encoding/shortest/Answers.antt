use Rattle.std.proofs.Common.{ap, refl, ◌∙◌}
use Rattle.vex_calls.specs.Encodings.{flat_bytes}
use Rattle.vex_c.proofs.Told.{no_bytes, told}
use Rattle.vex_c.proofs.encoding.shortest.Goals as goal

pub returns-in-Ok-clause-holds : goal.returns-in-Ok-clause-holds
returns-in-Ok-clause-holds c = record {
  meaning = c.in-Some.instruction.meaning;
  told = told c.args.flat.now c.instruction.result c.in-Some.instruction c.instruction.ensures c.in-Some.is;
  shortest = c.in-Ok.spelling;
  held = c.of.ensures ∙ ap flat_bytes c.as_slice.ensures.bytes;
  canonical = c.in-Ok.ensures.canonical;
  spelled = c.in-Ok.ensures.spells;
}

pub returns-in-Err-clause-refused : goal.returns-in-Err-clause-refused
returns-in-Err-clause-refused c =
    no_bytes c.args.flat.now c.instruction.result c.in-Some.instruction c.instruction.ensures c.in-Some.is
    (c.in-Err.ensures.none.0 refl)
