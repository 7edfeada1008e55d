use Rattle.std.proofs.lemmas.List.{take_rest}
use Rattle.vex_tool.proofs.Writing.{Writing-step}
use Rattle.vex_tool.proofs.std_ends.StdSinkSink.write_all.Goals as goal

pub loop-rest-preserved : goal.loop-rest-preserved
loop-rest-preserved g c = record {
  quiet = c.loop-rest.invariant.quiet;
  written = rw (take_rest c.loop-rest.rest.now c.in-Ok.n)
      (Writing-step _ _ _ _ _ c.in-Ok.n c.loop-rest.invariant.written c.in-Ok.ensures.bytes);
}
