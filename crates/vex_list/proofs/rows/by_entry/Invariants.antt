-- What was covered: the choices so far.
use Rattle.std.specs.Prelude.{◌/◌, ◌%◌, ◌==◌}
use Rattle.vex_list.specs.Next.{Between, Covers}
use Rattle.vex_list.specs.Sets.{ByChosen}
use Rattle.vex_list.proofs.rows.by_entry.Given as goal

abbrev pub invariant-loop-number : goal.invariant-loop-number
invariant-loop-number l = Covers l.wanted.instruction.now.meaning l.wanted.previous.now
    (Between 0 l.number
    (λ n. ByChosen l.wanted.instruction.now.meaning l.entry (n / 4 % 2 == 1) (n / 2 % 2 == 1) (n % 2 == 1) (n / 8)))
    l.initial.nearest l.nearest
