-- What was covered: the values so far.
use Rattle.vex_rows.specs.Row.{Row}
use Rattle.std.specs.Prelude.{◌-◌}
use Rattle.vex_list.specs.Next.{Between, Covers}
use Rattle.vex_list.specs.Sets.{IsRowParts, ByAddress, with_vvvv}
use Rattle.vex_list.proofs.search.by_vvvv.Given as goal

abbrev pub invariant-loop-inverted : goal.invariant-loop-inverted
invariant-loop-inverted l =
    (row : Row) → IsRowParts row l.wanted.instruction.now.meaning l.parts
    → Covers l.wanted.instruction.now.meaning l.wanted.previous.now
    (Between l.first l.inverted
    (λ n. ByAddress row l.wanted.instruction.now.meaning l.parts (with_vvvv l.choices (15 - n)))) l.initial.nearest
    l.nearest
