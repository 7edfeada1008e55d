use Rattle.vex_c.specs.Runs.{AnswersFault, HoldsNeeded}
use Rattle.vex_c.proofs.Filled.{filled}
use Rattle.vex_c.proofs.settings.vex_settings_needed.Goals as goal

pub returns : goal.returns
returns c =
    let bytes = c.args.bytes.now in
    let found = c.needed.ensures in
    let ends = filled (HoldsNeeded bytes) (AnswersFault bytes) c.needed.result _ _ _ found.holds found.fault
    c.put.ensures in
    record { holds = ends.holds; fault = ends.refused; kept = ends.kept }
