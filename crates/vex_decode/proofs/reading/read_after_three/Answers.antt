use Rattle.std.proofs.Common.{refl}
use Rattle.vex_decode.proofs.Recording.{made_fails, noting_seen, noting_fails}
use Rattle.vex_decode.specs.Fields.{C4}
use Rattle.vex_decode.proofs.reading.read_after_three.Goals as goal

pub returns-in_err-prefix : goal.returns-in_err-prefix
returns-in_err-prefix g c = noting_fails _ _ (made_fails _ c.from_residual.result _ c.from_residual.ensures)
    c.in_err-prefix.ensures.follows

pub returns : goal.returns
returns g c = noting_seen _ _ c.in_ok-prefix.ensures.follows (c.read_from_opcode.ensures C4 refl)
