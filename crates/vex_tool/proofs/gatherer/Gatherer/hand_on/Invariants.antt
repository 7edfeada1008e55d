use Rattle.std.proofs.Common.{length}
use Rattle.std.specs.Io.KnownBytes.{Keeps, append_known}
use Rattle.vex_tool.specs.Gatherer.{gatherer_contents}
use Rattle.vex_tool.proofs.gatherer.Gatherer.hand_on.Given as goal

abbrev pub invariant-loop-self : goal.invariant-loop-self
invariant-loop-self g l =
    Keeps (gatherer_contents g.W.Write.contents l.fn.self)
    (append_known (g.W.Write.contents l.self-inside.output) l.self-inside.gathered.items)

abbrev pub decreases-loop-self : goal.decreases-loop-self
decreases-loop-self g l = length l.self-inside.gathered.items
