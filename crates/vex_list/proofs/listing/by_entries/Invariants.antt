-- What was covered: the entries so far.
use Rattle.std.proofs.Common.{take, None}
use Rattle.vex_list.specs.Next.{Covers}
use Rattle.vex_list.specs.Sets.{ByEntries}
use Rattle.vex_list.proofs.listing.by_entries.Given as goal

abbrev pub invariant-loop-entry : goal.invariant-loop-entry
invariant-loop-entry l = Covers l.wanted.instruction.now.meaning l.wanted.previous.now
    (ByEntries l.wanted.instruction.now.meaning (take l.entry-index l.entries)) None l.nearest
