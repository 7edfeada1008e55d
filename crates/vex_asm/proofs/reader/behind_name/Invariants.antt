use Rattle.std.proofs.Common.{◌≡◌, ◌≤◌, ◌∷◌, take, map, length}
use Rattle.x86_operand.specs.Meaning.{operand_meaning}
use Rattle.vex_asm.specs.Text.{line_parts}
use Rattle.vex_asm.specs.Parsed.{rest_of, behind}
use Rattle.vex_asm.proofs.reader.behind_name.Given as goal

abbrev pub invariant-loop-word : goal.invariant-loop-word
invariant-loop-word l = record {
  count : l.count ≤ 4;
  whole : length l.operands ≡ 4;
  parts : behind (map operand_meaning (take l.count l.operands)) (rest_of (l.last ∷ line_parts l.rest))
      ≡ rest_of (line_parts l.bytes);
}

abbrev pub decreases-loop-word : goal.decreases-loop-word
decreases-loop-word l = length l.rest
