use Rattle.vex_calls.specs.Encodings.{bytes_of}
use Rattle.vex_calls.specs.Instructions.{meaning_of}
use Rattle.vex_c.specs.Encoding.{AnswersNoNext, HoldsNext}
use Rattle.vex_c.proofs.Filled.{filled}
use Rattle.vex_c.proofs.encoding.vex_next_spelling.Goals as goal

pub returns : goal.returns
returns c =
    let flat = c.args.instruction.now in
    let after = c.args.after.now in
    let found = c.next.ensures in
    let ends = filled (HoldsNext flat after) (AnswersNoNext (meaning_of flat) (bytes_of after)) c.next.result _ _ _
    found.holds found.refused c.put.ensures in
    record { holds = ends.holds; refused = ends.refused; kept = ends.kept }
