-- What comes after the empty string is all there is.
use Rattle.vex_list.proofs.AllListed.{first_begins}
use Rattle.vex_list.proofs.Table.{first_least, first_none}
use Rattle.vex_list.proofs.listing.first_spelling.Goals as goal

pub returns-clause-least : goal.returns-clause-least
returns-clause-least c = first_least c.prefix_free.ensures.length c.args.instruction.now.meaning c.next_spelling.result
    c.next_spelling.ensures

pub returns-clause-none : goal.returns-clause-none
returns-clause-none c = first_none c.prefix_free.ensures.length c.args.instruction.now.meaning c.next_spelling.result
    c.next_spelling.ensures

pub returns-clause-listed : goal.returns-clause-listed
returns-clause-listed c = first_begins c.all_are_listed.ensures.these c.prefix_free.ensures.length
    c.args.instruction.now.meaning c.next_spelling.result c.next_spelling.ensures
