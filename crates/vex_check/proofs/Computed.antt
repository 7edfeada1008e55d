-- The needs of runs, computed at examples.
use Rattle.std.specs.Prelude.{◌≡◌, refl, false, true, [], ◌∷◌, Some, None}
use Rattle.x86_opcode.specs.Condition.{opcode_condition}
use Rattle.x86_opcode.specs.Number.{opcode_number, same_opcode}
use Rattle.x86_opcode.specs.declared.Opcode.TheVariants.{Float, Integer}
use Rattle.x86_opcode.specs.declared.FloatOpcode.TheVariants.{VMOVSS, VCVTPH2PS}
use Rattle.x86_opcode.specs.declared.IntegerOpcode.TheVariants.{RORX, VAESENC}
use Rattle.x86_operand.specs.Same.{same_meaning, same_operands, same_operand, same_register, same_bank, same_index}
use Rattle.x86_operand.specs.Same.{same_address}
use Rattle.x86_operand.specs.declared.error.DecodeError.TheVariants.{ExhaustedInput, Outside}
use Rattle.x86_settings.specs.Settings.{aesni, avx, bmi2, f16c}
use Rattle.x86_settings.specs.Sets.{exactly}
use Rattle.x86_permit.specs.LeastSettings.{least}
use Rattle.x86_permit.specs.Permission.{permits}
use Rattle.x86_address.specs.Shortest.{shortest_in}
use Rattle.vex_rows.specs.Groups.{groups}
use Rattle.vex_rows.specs.Rules.{has_key}
use Rattle.vex_rows.specs.Row.{rows, choices, exists, has_groups, has_imm, mark_of, opcode_of}
use Rattle.vex_rows.specs.FormRows.{form_row, gathers, sizes}
use Rattle.vex_rows.specs.Steps.{steps}
use Rattle.vex_rows.specs.Table.{table}
use Rattle.vex_forms.specs.Gives.{gives}
use Rattle.vex_forms.specs.Slots.{slots, index_bank, size_of, v_rule}
use Rattle.vex_forms.specs.FormWalk.{walk_form}
use Rattle.vex_decode.specs.Walk.{entry_of, walk}
use Rattle.vex_decode.specs.Decode.{decode}
use Rattle.vex_encode.specs.Canon.{canon}
use Rattle.vex_encode.specs.Standard.{candidate, standard}
use Rattle.vex_encode.specs.Sweep.{swept_from}
use Rattle.vex_check.specs.Accepted.{covers}
use Rattle.vex_check.specs.Needs.{all_needed, fault, firsts, run}
use Rattle.vex_check.specs.declared.needs.RunCause.TheVariants.{Blocked}

-- VMOVSS, VADDSS and RORX: AVX from the first on, and BMI2 from place 8 on
two_bits : firsts (run (0xC5 ∷ 0xFA ∷ 0x10 ∷ 0x07 ∷ 0xC5 ∷ 0xFA ∷ 0x58 ∷ 0x06 ∷ 0xC4 ∷ 0xE3 ∷ 0x7B ∷ 0xF0 ∷ 0xC1 ∷
    0x05 ∷ [])).items
    ≡ record { bit = avx; place = 0; opcode = Float VMOVSS } ∷ record { bit = bmi2; place = 8; opcode = Integer RORX } ∷
    []
unfolding firsts all_needed least swept_from decode walk walk_form entry_of has_key table steps form_row groups
    has_groups mark_of opcode_of has_imm permits opcode_condition canon rows choices exists standard candidate shortest_in
    slots index_bank gathers size_of sizes v_rule gives same_meaning same_operands same_operand same_register same_bank
    same_index same_address same_opcode opcode_number
two_bits = refl

-- and no other bit
two_bits_in_all : all_needed (run (0xC5 ∷ 0xFA ∷ 0x10 ∷ 0x07 ∷ 0xC5 ∷ 0xFA ∷ 0x58 ∷ 0x06 ∷ 0xC4 ∷ 0xE3 ∷ 0x7B ∷ 0xF0 ∷
    0xC1 ∷ 0x05 ∷ [])).items ≡ exactly (avx ∷ bmi2 ∷ [])
unfolding firsts all_needed least swept_from decode walk walk_form entry_of has_key table steps form_row groups
    has_groups mark_of opcode_of has_imm permits opcode_condition canon rows choices exists standard candidate shortest_in
    slots index_bank gathers size_of sizes v_rule gives same_meaning same_operands same_operand same_register same_bank
    same_index same_address same_opcode opcode_number
two_bits_in_all = refl

-- VAESENC needs two bits, and VCVTPH2PS one besides that is needed already
both_of_one : firsts (run (0xC4 ∷ 0xE2 ∷ 0x79 ∷ 0xDC ∷ 0xC1 ∷ 0xC4 ∷ 0xE2 ∷ 0x79 ∷ 0x13 ∷ 0xC1 ∷ [])).items
    ≡ record { bit = aesni; place = 0; opcode = Integer VAESENC } ∷
    record { bit = avx; place = 0; opcode = Integer VAESENC }
    ∷ record { bit = f16c; place = 5; opcode = Float VCVTPH2PS } ∷ []
unfolding firsts all_needed least swept_from decode walk walk_form entry_of has_key table steps form_row groups
    has_groups mark_of opcode_of has_imm permits opcode_condition canon rows choices exists standard candidate shortest_in
    slots index_bank gathers size_of sizes v_rule gives same_meaning same_operands same_operand same_register same_bank
    same_index same_address same_opcode opcode_number
both_of_one = refl

-- nothing blocks them
no_fault : fault (run (0xC4 ∷ 0xE2 ∷ 0x79 ∷ 0xDC ∷ 0xC1 ∷ 0xC4 ∷ 0xE2 ∷ 0x79 ∷ 0x13 ∷ 0xC1 ∷ [])) ≡ None
unfolding firsts all_needed least swept_from decode walk walk_form entry_of has_key table steps form_row groups
    has_groups mark_of opcode_of has_imm permits opcode_condition canon rows choices exists standard candidate shortest_in
    slots index_bank gathers size_of sizes v_rule gives same_meaning same_operands same_operand same_register same_bank
    same_index same_address same_opcode opcode_number
no_fault = refl

-- a byte that begins no instruction
blocked_rest : fault (run (0xC5 ∷ 0xF8 ∷ 0x77 ∷ 0x33 ∷ [])) ≡ Some (record { place = 3; cause = Blocked Outside })
unfolding firsts all_needed least swept_from decode walk walk_form entry_of has_key table steps form_row groups
    has_groups mark_of opcode_of has_imm permits opcode_condition canon rows choices exists standard candidate shortest_in
    slots index_bank gathers size_of sizes v_rule gives same_meaning same_operands same_operand same_register same_bank
    same_index same_address same_opcode opcode_number
blocked_rest = refl

-- an instruction that is cut
cut_rest : fault (run (0xC5 ∷ 0xF8 ∷ 0x77 ∷ 0xC5 ∷ 0xF8 ∷
    [])) ≡ Some (record { place = 3; cause = Blocked ExhaustedInput })
unfolding firsts all_needed least swept_from decode walk walk_form entry_of has_key table steps form_row groups
    has_groups mark_of opcode_of has_imm permits opcode_condition canon rows choices exists standard candidate shortest_in
    slots index_bank gathers size_of sizes v_rule gives same_meaning same_operands same_operand same_register same_bank
    same_index same_address same_opcode opcode_number
cut_rest = refl

-- no instruction needs no bit
nothing_needed : firsts (run []).items ≡ []
unfolding firsts all_needed least swept_from decode walk walk_form entry_of has_key table steps form_row groups
    has_groups mark_of opcode_of has_imm permits opcode_condition canon rows choices exists standard candidate shortest_in
    slots index_bank gathers size_of sizes v_rule gives same_meaning same_operands same_operand same_register same_bank
    same_index same_address same_opcode opcode_number
nothing_needed = refl

-- settings have every bit that is wanted, or lack one
covered : covers (exactly (aesni ∷ avx ∷ bmi2 ∷ [])) (exactly (avx ∷ bmi2 ∷ [])) ≡ true
unfolding covers
covered = refl

not_covered : covers (exactly (avx ∷ [])) (exactly (avx ∷ bmi2 ∷ [])) ≡ false
unfolding covers
not_covered = refl
