use Rattle.vex_calls.specs.Instructions.{meaning_of}
use Rattle.vex_c.specs.Encoding.{AnswersNoBytes, HoldsShortest}
use Rattle.vex_c.proofs.Filled.{filled}
use Rattle.vex_c.proofs.encoding.vex_encode.Goals as goal

pub returns : goal.returns
returns c =
    let flat = c.args.instruction.now in
    let found = c.shortest.ensures in
    let ends = filled (HoldsShortest flat) (AnswersNoBytes (meaning_of flat)) c.shortest.result _ _ _ found.holds
    found.refused c.put.ensures in
    record { holds = ends.holds; refused = ends.refused; kept = ends.kept }
