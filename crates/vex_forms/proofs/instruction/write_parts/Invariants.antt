-- The operands so far are those of the slots so far.
use Rattle.std.proofs.Common.{◌≡◌, false, map, take, true}
use Rattle.x86_address.specs.Bytes.{bit}
use Rattle.vex_forms.specs.Gives.{slot_operand}
use Rattle.vex_forms.specs.Operands.{has_sixteen, slots_fit, target_seen}
use Rattle.vex_forms.proofs.instruction.write_parts.Given as goal

abbrev pub invariant-loop-slot : goal.invariant-loop-slot
invariant-loop-slot l =
    (l.instruction.len ≡ 0)
    × (slots_fit l.slots ≡ true → has_sixteen l.index_bank ≡ true → l.instruction.meaning
    ≡ record {
      evex = false;
      opcode = l.fn.opcode;
      operands = map (slot_operand l.index_bank (bit l.fields.r) l.fields.vvvv l.fields.reg (target_seen l.fields.e)
          l.fields.imm) (take l.slot-index l.slots);
      size = l.fn.mem_size;
    })
