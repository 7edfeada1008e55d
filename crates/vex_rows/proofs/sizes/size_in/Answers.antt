-- The size stands at the opcode's place.
use Rattle.std.proofs.Common.{refl, ◌∙◌}
use Rattle.vex_rows.proofs.SizePlaces.{within, size_at_place, none_at_place}
use Rattle.vex_rows.proofs.sizes.size_in.Goals as goal

pub bounds-all_size_places-number : goal.bounds-all_size_places-number
bounds-all_size_places-number c = within c.args.list c.args.opcode _ _ c.all_size_places.ensures
    c.number-number.ensures.place _ refl c.number-number.ensures.below

pub returns-in-Some : goal.returns-in-Some
returns-in-Some c =
    c.of_number.ensures
    ∙ size_at_place c.args.list c.args.opcode _ _ c.all_size_places.ensures c.number-number.ensures.place _
    c.sizes_of.ensures c.in-Some.size.now c.in-Some.ensures.lookup.0
    (c.in-Some.ensures.lookup.3.1 c.in-Some.size.now)

pub returns-in-None : goal.returns-in-None
returns-in-None c = none_at_place c.args.list c.args.opcode _ _ c.all_size_places.ensures c.number-number.ensures.place
    _ c.sizes_of.ensures c.in-None.ensures.lookup.0
