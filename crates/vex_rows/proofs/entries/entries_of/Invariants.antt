-- The entries so far are those at the places so far.
use Rattle.std.proofs.Common.{◌≡◌, ◌+◌, map, take, slice_get, Some}
use Rattle.vex_rows.specs.Table.{table}
use Rattle.vex_rows.specs.Entries.{entries_with}
use Rattle.vex_rows.proofs.entries.entries_of.Given as goal

abbrev pub invariant-loop-place : goal.invariant-loop-place
invariant-loop-place g l = record {
  places : map (slice_get table) l.place-items ≡ map Some (entries_with l.fn.opcode);
  items : map Some l.entries.items ≡ map (slice_get table) (take l.place-index l.place-items);
  count : l.steps ≡ l.initial.steps + l.place-index;
}
