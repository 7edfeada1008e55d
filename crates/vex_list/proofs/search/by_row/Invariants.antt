-- What was covered: the forms of a prefix and the bits so far.
use Rattle.vex_rows.specs.Row.{Row}
use Rattle.vex_list.specs.Next.{Between, Covers}
use Rattle.vex_list.specs.Sets.{IsRowParts, ByPrefix, prefix_choice}
use Rattle.vex_list.proofs.search.by_row.Given as goal

abbrev pub invariant-loop-number : goal.invariant-loop-number
invariant-loop-number l =
    (row : Row) → IsRowParts row l.wanted.instruction.now.meaning l.parts
    → Covers l.wanted.instruction.now.meaning l.wanted.previous.now
    (Between 0 l.number (λ n. ByPrefix row l.wanted.instruction.now.meaning l.parts (prefix_choice n)))
    l.initial.nearest l.nearest
