-- No operand so far is an address.
use Rattle.std.proofs.Common.{◌≡◌, drop}
use Rattle.std.specs.List.{list_any}
use Rattle.vex_encode.specs.Encode.{is_address}
use Rattle.vex_encode.proofs.encode.has_address.Given as goal

abbrev pub invariant-loop-i : goal.invariant-loop-i
invariant-loop-i l = list_any is_address l.instruction.meaning.operands
    ≡ list_any is_address (drop l.i l.instruction.meaning.operands)
