-- The definitions at examples.
use Rattle.std.proofs.Common.{◌≡◌, [], ◌∷◌, true, false, Some, None, refl, pos, negsuc}
use Rattle.x86_opcode.specs.declared.TheConstants.Opcode.{VADDPS}
use Rattle.x86_opcode.specs.Constants.{constants}
use Rattle.x86_opcode.specs.Number.{opcode_number}
use Rattle.x86_operand.specs.declared.register.RegisterBank.TheVariants.{Q, X}
use Rattle.x86_operand.specs.Meaning.{Meaning, memory, register, signed}
use Rattle.vex_calls.specs.Instructions.{all_opcodes, flat_instruction, four_flat, meaning_of, opcode_of}
use Rattle.vex_calls.specs.Operands.{flat_operand, no_operand, operand_of}

-- VADDPS x0 x1 mq0/q1*4/-16 16
sum : Meaning
sum = record {
  evex = false;
  opcode = VADDPS;
  operands =
      register (record { bank = X; num = 0 })
      ∷ register (record { bank = X; num = 1 })
      ∷ memory (record {
        base = Some (record { bank = Q; num = 0 });
        index = Some (record { reg = record { bank = Q; num = 1 }; scale = 4 });
        disp = negsuc 15;
      })
      ∷ [];
  size = Some 16;
}

told_again : meaning_of (flat_instruction (record { meaning = sum; len = 6 })) ≡ Some sum
unfolding meaning_of opcode_of all_opcodes constants opcode_number four_flat operand_of sum
told_again = refl

five_operands : meaning_of (record (flat_instruction (record { meaning = sum; len = 6 })) { operand_count = 5 }) ≡ None
unfolding meaning_of opcode_of all_opcodes constants opcode_number four_flat operand_of sum
five_operands = refl

-- a register 16 of the bank Q, and an immediate that has no byte
no_such_register : operand_of (record no_operand { kind = 1; reg = record { bank = 1; number = 16 } }) ≡ None
unfolding operand_of
no_such_register = refl

too_small : operand_of (record no_operand { kind = 2; immediate = negsuc 128 }) ≡ None
unfolding operand_of
too_small = refl

least : operand_of (record no_operand { kind = 2; immediate = negsuc 127 }) ≡ Some (signed (negsuc 127))
unfolding operand_of
least = refl
