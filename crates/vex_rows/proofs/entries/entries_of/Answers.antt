-- The places name entries of the table, which are all entries of the opcode in the end.
use Rattle.std.proofs.Common.{◌≡◌, map, take, length, slice_get, ap, ◌∙◌, arith}
use Rattle.std.proofs.Math.Seq.{take-length}
use Rattle.vex_rows.specs.Table.{table}
use Rattle.vex_rows.specs.Entries.{entries_with}
use Rattle.vex_rows.proofs.Opcodes.{place_below, map_Some_injective}
use Rattle.vex_rows.proofs.entries.entries_of.Goals as goal

pub entry_at-requires : goal.entry_at-requires
entry_at-requires g c =
    place_below c.places_of-place-items.result.now (entries_with c.args.opcode) c.places_of-place-items.ensures.entries
    c.loop-place.place-index (omega arith)

pub returns-clause-entries : goal.returns-clause-entries
returns-clause-entries g c =
    let places = c.places_of-place-items.result.now in
    let all : c.loop-place.place-index ≡ length places = omega arith in
    map_Some_injective c.loop-place.entries.items (entries_with c.args.opcode)
    (c.loop-place.invariant.items ∙ ap (λ n. map (slice_get table) (take n places)) all
    ∙ ap (map (slice_get table)) (take-length places) ∙ c.loop-place.invariant.places)
