use Rattle.std.proofs.Common.{take}
use Rattle.vex_calls.proofs.Reading.{Read}
use Rattle.vex_calls.proofs.flat_instruction.FlatInstruction.instruction.Given as goal

abbrev pub invariant-loop-flat : goal.invariant-loop-flat
invariant-loop-flat l = Read (take l.flat-index l.flat-items) l.initial.instruction l.instruction
