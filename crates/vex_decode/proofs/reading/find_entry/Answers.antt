use Rattle.vex_decode.proofs.Walk.{has_entry}
use Rattle.vex_decode.proofs.reading.find_entry.Goals as goal

pub returns-in-Some-clause-found : goal.returns-in-Some-clause-found
returns-in-Some-clause-found c = has_entry c.args.prefix.now c.args.byte c.in-Some.entry c.in-Some.ensures.found.0
    c.in-Some.ensures.found.1
