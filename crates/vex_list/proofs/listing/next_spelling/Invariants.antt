-- The ledgers are those of the blanks.
use Rattle.vex_list.proofs.listing.next_spelling.Given as goal

abbrev pub ghosts-counted_entries : goal.ghosts-counted_entries
ghosts-counted_entries a = record { name = a.blank.name; parts = a.blank.parts }

abbrev pub ghosts-has_none : goal.ghosts-has_none
ghosts-has_none a = record { name = a.blank.name; parts = a.blank.parts }
