use Rattle.std.proofs.Common.{◌≡◌, ◌≤◌, ◌+◌, ◌*◌, ◌++◌}
use Rattle.std.specs.Prelude.{take}
use Rattle.arrayvec.specs.ArrayString.{array_string_len}
use Rattle.vex_asm.specs.Written.{operands_text}
use Rattle.vex_asm.proofs.appender.append_operands.Given as goal

abbrev pub invariant-loop-i : goal.invariant-loop-i
invariant-loop-i l = (l.buffer.bytes ≡ l.initial.buffer.bytes
    ++ operands_text (take l.i l.instruction.meaning.operands))
    × (array_string_len l.buffer ≤ array_string_len l.initial.buffer + 27 * l.i)
