use Rattle.std.proofs.Common.{◌≡◌, length}
use Rattle.vex_tool.proofs.Writing.{Writing}
use Rattle.vex_tool.proofs.std_ends.StdSinkSink.write_all.Given as goal

abbrev pub invariant-loop-rest : goal.invariant-loop-rest
invariant-loop-rest g l = record {
  quiet : l.self-inside.faults ≡ l.fn.self.faults;
  written : Writing l.piece l.rest (g.W.Write.contents l.fn.self.output) (g.W.Write.contents l.self-inside.output);
}

abbrev pub decreases-loop-rest : goal.decreases-loop-rest
decreases-loop-rest g l = length l.rest
