use Rattle.vex_lines.proofs.EmulateLinesLemmas.{started-room}
use Rattle.vex_lines.proofs.emulate_lines.LineMachine.run.Goals as goal

pub invariant_of-self : goal.invariant_of-self
invariant_of-self c =
    started-room c.put_back.new.machine c.run_code.new.machine c.put_back.ensures c.run_code.ensures.room
