use Rattle.vex_list.specs.AllSpellings.{all_spellings}
use Rattle.vex_list.proofs.AllListed.{list_is_one, next_is_listed, these_are_all}
use Rattle.vex_list.proofs.laws.all_are_listed.Goals as goal

pub returns-clause-listed : goal.returns-clause-listed
returns-clause-listed c =
    let these = these_are_all c.spelling_is_read.ensures c.reading_is_spelling.ensures c.prefix_free.ensures.bytes
    c.prefix_free.ensures.length in
    λ m. (all_spellings m, these m)

pub returns-clause-one : goal.returns-clause-one
returns-clause-one c = list_is_one

pub returns-clause-these : goal.returns-clause-these
returns-clause-these c = these_are_all c.spelling_is_read.ensures c.reading_is_spelling.ensures
    c.prefix_free.ensures.bytes c.prefix_free.ensures.length

pub returns-clause-next : goal.returns-clause-next
returns-clause-next c = next_is_listed
