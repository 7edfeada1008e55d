-- The shortest so far is that of the entries so far.
use Rattle.std.proofs.Common.{◌≡◌, take, flat_map}
use Rattle.vex_rows.specs.Row.{choices}
use Rattle.vex_encode.specs.Encode.{best}
use Rattle.vex_encode.proofs.encode.standard_by_entries.Given as goal

abbrev pub invariant-loop-entry : goal.invariant-loop-entry
invariant-loop-entry l = l.shortest ≡ best l.instruction.meaning (flat_map choices (take l.entry-index l.entries))
