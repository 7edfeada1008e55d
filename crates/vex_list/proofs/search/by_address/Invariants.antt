-- What was covered: the forms so far.
use Rattle.vex_rows.specs.Row.{Row}
use Rattle.vex_list.specs.Next.{Between, Covers}
use Rattle.vex_list.specs.Sets.{IsRowParts, ByLow, address_form, with_address}
use Rattle.vex_list.proofs.search.by_address.Given as goal

abbrev pub invariant-loop-number : goal.invariant-loop-number
invariant-loop-number l =
    (row : Row) → IsRowParts row l.wanted.instruction.now.meaning l.parts
    → Covers l.wanted.instruction.now.meaning l.wanted.previous.now
    (Between 0 l.number
    (λ n. ByLow row l.wanted.instruction.now.meaning l.parts (with_address l.choices (address_form n))))
    l.initial.nearest l.nearest
