use Rattle.std.proofs.Common.{◌≡◌, ◌<◌, drop}
use Rattle.vex_asm.specs.Parsed.{digits_on}
use Rattle.vex_asm.proofs.number.digits.Given as goal

abbrev pub invariant-loop-byte : goal.invariant-loop-byte
invariant-loop-byte l = record {
  below : l.number < 10000000000;
  rest : digits_on l.number (drop l.byte-index l.bytes) ≡ digits_on 0 l.bytes;
}
