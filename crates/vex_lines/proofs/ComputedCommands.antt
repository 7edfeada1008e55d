-- What `emulate`, `least` and `make` write, computed at examples.
use Rattle.std.specs.Prelude.{◌≡◌, refl, [], ◌∷◌, ◌++◌, codes}
use Rattle.std.specs.Fmt.{digits}
use Rattle.hex.specs.Hex.{encode_with}
use Rattle.x86_opcode.specs.Condition.{opcode_condition}
use Rattle.x86_opcode.specs.Name.{opcode_name}
use Rattle.x86_opcode.specs.Number.{opcode_number, same_opcode}
use Rattle.x86_operand.specs.Same.{same_meaning, same_operands, same_operand, same_register, same_bank, same_index}
use Rattle.x86_operand.specs.Same.{same_address}
use Rattle.x86_settings.specs.Bits.{all_bits, no_bits}
use Rattle.x86_uarch.specs.Profiles.{microarchitectures, profile_of, profiles}
use Rattle.x86_permit.specs.LeastSettings.{least}
use Rattle.x86_permit.specs.Permission.{permits}
use Rattle.x86_address.specs.Shortest.{shortest_in}
use Rattle.vex_rows.specs.Groups.{groups}
use Rattle.vex_rows.specs.Rules.{has_key}
use Rattle.vex_rows.specs.Row.{rows, choices, exists, has_groups, has_imm, mark_of, opcode_of}
use Rattle.vex_rows.specs.FormRows.{form_row, gathers, sizes}
use Rattle.vex_rows.specs.Steps.{steps}
use Rattle.vex_rows.specs.Table.{table}
use Rattle.vex_forms.specs.Gives.{gives}
use Rattle.vex_forms.specs.Slots.{slots, index_bank, size_of, v_rule}
use Rattle.vex_forms.specs.FormWalk.{walk_form}
use Rattle.vex_decode.specs.Walk.{entry_of, walk}
use Rattle.vex_decode.specs.Decode.{decode}
use Rattle.vex_encode.specs.Canon.{canon}
use Rattle.vex_encode.specs.Standard.{candidate, standard}
use Rattle.vex_encode.specs.Sweep.{swept_from}
use Rattle.vex_check.specs.Accepted.{covers}
use Rattle.vex_check.specs.Needs.{all_needed, firsts}
use Rattle.vex_emul.specs.Lanes.{lane_wise}
use Rattle.vex_emul.specs.Machine.{base_part, general, index_part, place_of}
use Rattle.vex_emul.specs.Operation.{result_of}
use Rattle.vex_emul.specs.Run.{ran_from, step}
use Rattle.vex_emul.specs.Subset.{combine_of, kind_of, move_of, source_of, vector_in, work_of}
use Rattle.vex_emul.specs.Work.{combined, fetched, moved, stored}
use Rattle.vex_lines.specs.EmulateLines.{block_lines, changed_line, counting, emulate_lines, numbers, start}
use Rattle.vex_lines.specs.EmulateLines.{vector_lines}
use Rattle.vex_lines.specs.Generator.{generated, greatest, made, recoding, total}
use Rattle.vex_lines.specs.LeastLines.{least_lines, profiles_line}

-- ---- `emulate`

adds : emulate_lines all_bits (0xC5 ∷ 0xF1 ∷ 0xFC ∷ 0xC2 ∷ [])
    ≡ codes "y0 30323436383a3c3e40424446484a4c4e00000000000000000000000000000000\nend 1\n"
unfolding emulate_lines start counting numbers vector_lines block_lines changed_line digits encode_with ran_from step
    kind_of vector_in source_of combine_of move_of work_of place_of base_part index_part general fetched stored combined
    moved lane_wise result_of decode walk walk_form entry_of has_key table steps form_row groups has_groups mark_of opcode_of
    has_imm permits opcode_condition slots index_bank gathers size_of sizes v_rule gives
adds = refl

stores : emulate_lines all_bits (0xC5 ∷ 0xFE ∷ 0x7F ∷ 0x06 ∷ [])
    ≡ codes "m192 000102030405060708090a0b0c0d0e0f101112131415161718191a1b1c1d1e1f\nend 1\n"
unfolding emulate_lines start counting numbers vector_lines block_lines changed_line digits encode_with ran_from step
    kind_of vector_in source_of combine_of move_of work_of place_of base_part index_part general fetched stored combined
    moved lane_wise result_of decode walk walk_form entry_of has_key table steps form_row groups has_groups mark_of opcode_of
    has_imm permits opcode_condition slots index_bank gathers size_of sizes v_rule gives
stores = refl

loads : emulate_lines all_bits (0xC5 ∷ 0xFA ∷ 0x6F ∷ 0x85 ∷ 0x50 ∷ 0x03 ∷ 0x00 ∷ 0x00 ∷ [])
    ≡ codes "y0 f0f1f2f3f4f5f6f7f8f9fafbfcfdfeff00000000000000000000000000000000\nend 1\n"
unfolding emulate_lines start counting numbers vector_lines block_lines changed_line digits encode_with ran_from step
    kind_of vector_in source_of combine_of move_of work_of place_of base_part index_part general fetched stored combined
    moved lane_wise result_of decode walk walk_form entry_of has_key table steps form_row groups has_groups mark_of opcode_of
    has_imm permits opcode_condition slots index_bank gathers size_of sizes v_rule gives
loads = refl

past_the_end : emulate_lines all_bits (0xC5 ∷ 0xFA ∷ 0x6F ∷ 0x85 ∷ 0x51 ∷ 0x03 ∷ 0x00 ∷ 0x00 ∷ [])
    ≡ codes "stopped 0 BadAddress\n"
unfolding emulate_lines start counting numbers vector_lines block_lines changed_line digits encode_with ran_from step
    kind_of vector_in source_of combine_of move_of work_of place_of base_part index_part general fetched stored combined
    moved lane_wise result_of decode walk walk_form entry_of has_key table steps form_row groups has_groups mark_of opcode_of
    has_imm permits opcode_condition slots index_bank gathers size_of sizes v_rule gives
past_the_end = refl

not_of_the_subset : emulate_lines all_bits (0xC5 ∷ 0xFA ∷ 0x58 ∷ 0xC1 ∷ [])
    ≡ codes "stopped 0 Unsupported\n"
unfolding emulate_lines start counting numbers vector_lines block_lines changed_line digits encode_with ran_from step
    kind_of vector_in source_of combine_of move_of work_of place_of base_part index_part general fetched stored combined
    moved lane_wise result_of decode walk walk_form entry_of has_key table steps form_row groups has_groups mark_of opcode_of
    has_imm permits opcode_condition slots index_bank gathers size_of sizes v_rule gives
not_of_the_subset = refl

-- no code
no_code : emulate_lines all_bits ([])
    ≡ codes "end 0\n"
unfolding emulate_lines start counting numbers vector_lines block_lines changed_line digits encode_with ran_from step
    kind_of vector_in source_of combine_of move_of work_of place_of base_part index_part general fetched stored combined
    moved lane_wise result_of decode walk walk_form entry_of has_key table steps form_row groups has_groups mark_of opcode_of
    has_imm permits opcode_condition slots index_bank gathers size_of sizes v_rule gives
no_code = refl

-- the settings permit nothing
unpermitted : emulate_lines no_bits (0xC5 ∷ 0xF1 ∷ 0xFC ∷ 0xC2 ∷ [])
    ≡ codes "stopped 0 InvalidOpcode\n"
unfolding emulate_lines start counting numbers vector_lines block_lines changed_line digits encode_with ran_from step
    kind_of vector_in source_of combine_of move_of work_of place_of base_part index_part general fetched stored combined
    moved lane_wise result_of decode walk walk_form entry_of has_key table steps form_row groups has_groups mark_of opcode_of
    has_imm permits opcode_condition slots index_bank gathers size_of sizes v_rule gives
unpermitted = refl

-- ---- `least`

two_bits : least_lines (0xC5 ∷ 0xFA ∷ 0x10 ∷ 0x07 ∷ 0xC5 ∷ 0xFA ∷ 0x58 ∷ 0x06 ∷ 0xC4 ∷ 0xE3 ∷ 0x7B ∷ 0xF0 ∷ 0xC1 ∷
    0x05 ∷ [])
    ≡ codes "need avx 0 VMOVSS\nneed bmi2 8 RORX\n"
    ++ codes "profiles excavator zen zen2 zen3 zen4 zen5 haswell haswell_ex broadwell skylake kabylake\n"
unfolding least_lines profiles_line firsts all_needed covers least swept_from decode digits opcode_name profiles
    profile_of microarchitectures walk walk_form entry_of has_key table steps form_row groups has_groups mark_of
    opcode_of has_imm permits opcode_condition slots index_bank gathers size_of sizes v_rule gives
two_bits = refl

both_of_one : least_lines (0xC4 ∷ 0xE2 ∷ 0x79 ∷ 0xDC ∷ 0xC1 ∷ 0xC4 ∷ 0xE2 ∷ 0x79 ∷ 0x13 ∷ 0xC1 ∷ [])
    ≡ codes "need aesni 0 VAESENC\nneed avx 0 VAESENC\nneed f16c 5 VCVTPH2PS\n"
    ++ codes "profiles bulldozer piledriver steamroller excavator zen zen2 zen3 zen4 zen5 "
    ++ codes "ivybridge haswell haswell_ex broadwell skylake kabylake\n"
unfolding least_lines profiles_line firsts all_needed covers least swept_from decode digits opcode_name profiles
    profile_of microarchitectures walk walk_form entry_of has_key table steps form_row groups has_groups mark_of
    opcode_of has_imm permits opcode_condition slots index_bank gathers size_of sizes v_rule gives
both_of_one = refl

stopped : least_lines (0xC5 ∷ 0xF8 ∷ 0x77 ∷ 0x33 ∷ [])
    ≡ codes "stopped 3 Outside\n"
unfolding least_lines profiles_line firsts all_needed covers least swept_from decode digits opcode_name profiles
    profile_of microarchitectures walk walk_form entry_of has_key table steps form_row groups has_groups mark_of
    opcode_of has_imm permits opcode_condition slots index_bank gathers size_of sizes v_rule gives
stopped = refl

-- no bytes need nothing, so all profiles have it
nothing_needed : least_lines ([])
    ≡ codes "profiles k8 k10 bulldozer piledriver steamroller excavator zen zen2 zen3 zen4 zen5 netburst core penryn "
    ++ codes "nehalem westmere sandybridge ivybridge haswell haswell_ex broadwell skylake kabylake\n"
unfolding least_lines profiles_line firsts all_needed covers least swept_from decode digits opcode_name profiles
    profile_of microarchitectures walk walk_form entry_of has_key table steps form_row groups has_groups mark_of
    opcode_of has_imm permits opcode_condition slots index_bank gathers size_of sizes v_rule gives
nothing_needed = refl

-- ---- `make`

-- VMOVUPS of x0 to itself, with a prefix of three bytes
first_generated : generated 0 ≡ 0xC4 ∷ 0xE1 ∷ 0x78 ∷ 0x10 ∷ 0xC0 ∷ []
unfolding generated greatest exists table steps form_row groups has_groups mark_of opcode_of has_imm v_rule slots
    gathers sizes index_bank
first_generated = refl

-- and the other entry that means it
second_generated : generated 1 ≡ 0xC4 ∷ 0xE1 ∷ 0x78 ∷ 0x11 ∷ 0xC0 ∷ []
unfolding generated greatest exists table steps form_row groups has_groups mark_of opcode_of has_imm v_rule slots
    gathers sizes index_bank
second_generated = refl

made_one : made 1 ≡ codes "made 1 ok 1 read 5 short 4 sum 653\n"
unfolding made total generated greatest recoding decode digits walk walk_form entry_of has_key table steps form_row groups
    has_groups mark_of opcode_of has_imm permits opcode_condition slots index_bank gathers size_of sizes v_rule gives
    canon rows choices exists standard candidate shortest_in same_meaning same_operands same_operand same_register
    same_bank same_index same_address same_opcode opcode_number
made_one = refl

made_two : made 2 ≡ codes "made 2 ok 2 read 10 short 8 sum 1306\n"
unfolding made total generated greatest recoding decode digits walk walk_form entry_of has_key table steps form_row groups
    has_groups mark_of opcode_of has_imm permits opcode_condition slots index_bank gathers size_of sizes v_rule gives
    canon rows choices exists standard candidate shortest_in same_meaning same_operands same_operand same_register
    same_bank same_index same_address same_opcode opcode_number
made_two = refl
