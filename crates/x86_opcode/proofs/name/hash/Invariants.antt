use Rattle.std.proofs.Common.{◌≡◌, ◌<◌, drop}
use Rattle.x86_opcode.specs.Slots.{hash_on}
use Rattle.x86_opcode.proofs.name.hash.Given as goal

abbrev pub invariant-loop-byte : goal.invariant-loop-byte
invariant-loop-byte l = record {
  below : l.sum < 1048576;
  rest : hash_on l.sum (drop l.byte-index l.name) ≡ hash_on 0 l.name;
}
