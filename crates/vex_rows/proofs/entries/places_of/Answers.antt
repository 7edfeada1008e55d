-- The computed test of all numbers, at the number of the opcode.
use Rattle.std.proofs.Common.{arith}
use Rattle.vex_rows.proofs.Opcodes.{part}
use Rattle.vex_rows.proofs.entries.places_of.Goals as goal

pub bounds-starts-number : goal.bounds-starts-number
bounds-starts-number c =
    let p = part _ _ _ c.args.opcode c.all_places.ensures c.all_starts-starts.ensures c.number-number.ensures.place
    c.number-number.ensures.below in
    let below = p.below in omega arith

pub bounds-starts-number-2 : goal.bounds-starts-number-2
bounds-starts-number-2 c =
    let p = part _ _ _ c.args.opcode c.all_places.ensures c.all_starts-starts.ensures c.number-number.ensures.place
    c.number-number.ensures.below in
    p.below

pub slice_bounds-result-count : goal.slice_bounds-result-count
slice_bounds-result-count c =
    let p = part _ _ _ c.args.opcode c.all_places.ensures c.all_starts-starts.ensures c.number-number.ensures.place
    c.number-number.ensures.below in
    p.ordered

pub slice_bounds-result-start : goal.slice_bounds-result-start
slice_bounds-result-start c =
    let p = part _ _ _ c.args.opcode c.all_places.ensures c.all_starts-starts.ensures c.number-number.ensures.place
    c.number-number.ensures.below in
    p.ordered

pub slice_bounds-result-end : goal.slice_bounds-result-end
slice_bounds-result-end c =
    let p = part _ _ _ c.args.opcode c.all_places.ensures c.all_starts-starts.ensures c.number-number.ensures.place
    c.number-number.ensures.below in
    p.within

pub returns-clause-entries : goal.returns-clause-entries
returns-clause-entries c =
    let p = part _ _ _ c.args.opcode c.all_places.ensures c.all_starts-starts.ensures c.number-number.ensures.place
    c.number-number.ensures.below in
    p.entries

pub returns-clause-few : goal.returns-clause-few
returns-clause-few c =
    let p = part _ _ _ c.args.opcode c.all_places.ensures c.all_starts-starts.ensures c.number-number.ensures.place
    c.number-number.ensures.below in
    p.few
