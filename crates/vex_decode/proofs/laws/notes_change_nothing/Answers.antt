use Rattle.vex_decode.proofs.Twice.{notes_change_nothing}
use Rattle.vex_decode.proofs.laws.notes_change_nothing.Goals as goal

pub returns : goal.returns
returns c = notes_change_nothing
