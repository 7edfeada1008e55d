-- No row so far can give the meaning.
use Rattle.std.proofs.Common.{◌≡◌, drop, map}
use Rattle.vex_forms.specs.Layout.{row_for}
use Rattle.vex_encode.specs.Encode.{first}
use Rattle.vex_encode.proofs.encode.standard_by_group.Given as goal

abbrev pub invariant-loop-group : goal.invariant-loop-group
invariant-loop-group l =
    first l.instruction.meaning (map (λ g. row_for l.entry l.w l.l l.memory g.0) l.group-items)
    ≡ first l.instruction.meaning (map (λ g. row_for l.entry l.w l.l l.memory g.0) (drop l.group-index l.group-items))
