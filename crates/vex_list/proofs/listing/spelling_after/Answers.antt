-- What comes after any bytes.
use Rattle.vex_list.proofs.AllListed.{next_begins}
use Rattle.vex_list.proofs.listing.spelling_after.Goals as goal

pub returns-clause-listed : goal.returns-clause-listed
returns-clause-listed c = next_begins c.all_are_listed.ensures.these c.args.instruction.now.meaning c.args.previous.now
    c.next_spelling.result c.next_spelling.ensures
