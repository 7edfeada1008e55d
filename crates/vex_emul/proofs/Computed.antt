-- Runs, computed at examples: byte j of vector i is 16i + j, number i is 32i, and of the 1,024 bytes of the memory byte
-- k is k, all modulo 256.
use Rattle.std.specs.Prelude.{◌≡◌, refl, ℕ, ◌*◌, ◌%◌, List, [], ◌∷◌, map, slice_index_or, Ok, Err}
use Rattle.std.specs.List.{range_with_len}
use Rattle.std.specs.Simd.Lanes.{chunk}
use Rattle.x86_opcode.specs.Condition.{opcode_condition}
use Rattle.x86_operand.specs.declared.error.DecodeError.TheVariants.{Outside}
use Rattle.x86_settings.specs.Bits.{all_bits}
use Rattle.x86_permit.specs.Permission.{permits}
use Rattle.vex_rows.specs.Groups.{groups}
use Rattle.vex_rows.specs.Rules.{has_key}
use Rattle.vex_rows.specs.Row.{has_groups, has_imm, mark_of, opcode_of}
use Rattle.vex_rows.specs.FormRows.{form_row, gathers, sizes}
use Rattle.vex_rows.specs.Steps.{steps}
use Rattle.vex_rows.specs.Table.{table}
use Rattle.vex_forms.specs.Gives.{gives}
use Rattle.vex_forms.specs.Slots.{slots, index_bank, size_of, v_rule}
use Rattle.vex_forms.specs.FormWalk.{walk_form}
use Rattle.vex_decode.specs.Walk.{entry_of, walk}
use Rattle.vex_decode.specs.Decode.{decode}
use Rattle.vex_emul.specs.Lanes.{lane_wise}
use Rattle.vex_emul.specs.Machine.{State, base_part, general, index_part, place_of}
use Rattle.vex_emul.specs.Operation.{result_of}
use Rattle.vex_emul.specs.Run.{Outcome, ran, ran_from, step}
use Rattle.vex_emul.specs.Subset.{combine_of, kind_of, move_of, source_of, vector_in, work_of}
use Rattle.vex_emul.specs.Work.{combined, fetched, moved, stored}
use Rattle.vex_emul.specs.declared.run.HaltCause.TheVariants.{BadAddress, Blocked, Unsupported}

-- bytes that count up from a number
abbrev counting : ℕ → ℕ → List ℕ
counting first n = map (λ k. k % 256) (range_with_len first n)

abbrev begun : State
begun = record {
  vectors = map (λ i. counting (16 * i) 32) (range_with_len 0 16);
  q = map (λ i. 32 * i) (range_with_len 0 16);
  memory = counting 0 1024;
}

-- the run of code under all settings, and a vector that it leaves
abbrev run_of : List ℕ → Outcome
run_of code = ran all_bits begun code

abbrev vector_after : List ℕ → ℕ → List ℕ
vector_after code i = slice_index_or (run_of code).0.vectors i []

-- VPADDB x0, x1, x2: the sums of the bytes, and zeros above
sums : vector_after (0xC5 ∷ 0xF1 ∷ 0xFC ∷ 0xC2 ∷ []) 0
    ≡ 0x30 ∷ 0x32 ∷ 0x34 ∷ 0x36 ∷ 0x38 ∷ 0x3A ∷ 0x3C ∷ 0x3E ∷ 0x40 ∷ 0x42 ∷ 0x44 ∷ 0x46 ∷ 0x48 ∷ 0x4A ∷ 0x4C ∷ 0x4E ∷
    0x00 ∷ 0x00 ∷ 0x00 ∷ 0x00 ∷ 0x00 ∷ 0x00 ∷ 0x00 ∷ 0x00 ∷ 0x00 ∷ 0x00 ∷ 0x00 ∷ 0x00 ∷ 0x00 ∷ 0x00 ∷ 0x00 ∷ 0x00 ∷ []
unfolding ran_from step kind_of vector_in source_of combine_of move_of work_of place_of base_part index_part general
    fetched stored combined moved lane_wise result_of decode walk walk_form entry_of has_key table steps form_row groups
    has_groups mark_of opcode_of has_imm permits opcode_condition slots index_bank gathers size_of sizes v_rule gives
sums = refl

-- it was one instruction
sums_ran : (run_of (0xC5 ∷ 0xF1 ∷ 0xFC ∷ 0xC2 ∷ [])).1 ≡ Ok 1
unfolding ran_from step kind_of vector_in source_of combine_of move_of work_of place_of base_part index_part general
    fetched stored combined moved lane_wise result_of decode walk walk_form entry_of has_key table steps form_row groups
    has_groups mark_of opcode_of has_imm permits opcode_condition slots index_bank gathers size_of sizes v_rule gives
sums_ran = refl

-- VMOVDQU of y0 to the place in number 6, which is 192
stores : chunk 192 32 (run_of (0xC5 ∷ 0xFE ∷ 0x7F ∷ 0x06 ∷ [])).0.memory ≡ counting 0 32
unfolding ran_from step kind_of vector_in source_of combine_of move_of work_of place_of base_part index_part general
    fetched stored combined moved lane_wise result_of decode walk walk_form entry_of has_key table steps form_row groups
    has_groups mark_of opcode_of has_imm permits opcode_condition slots index_bank gathers size_of sizes v_rule gives
stores = refl

-- VMOVDQU x0 of the last 16 bytes of the memory: number 5 and 848 make 1,008
loads : vector_after (0xC5 ∷ 0xFA ∷ 0x6F ∷ 0x85 ∷ 0x50 ∷ 0x03 ∷ 0x00 ∷ 0x00 ∷ []) 0
    ≡ 0xF0 ∷ 0xF1 ∷ 0xF2 ∷ 0xF3 ∷ 0xF4 ∷ 0xF5 ∷ 0xF6 ∷ 0xF7 ∷ 0xF8 ∷ 0xF9 ∷ 0xFA ∷ 0xFB ∷ 0xFC ∷ 0xFD ∷ 0xFE ∷ 0xFF ∷
    0x00 ∷ 0x00 ∷ 0x00 ∷ 0x00 ∷ 0x00 ∷ 0x00 ∷ 0x00 ∷ 0x00 ∷ 0x00 ∷ 0x00 ∷ 0x00 ∷ 0x00 ∷ 0x00 ∷ 0x00 ∷ 0x00 ∷ 0x00 ∷ []
unfolding ran_from step kind_of vector_in source_of combine_of move_of work_of place_of base_part index_part general
    fetched stored combined moved lane_wise result_of decode walk walk_form entry_of has_key table steps form_row groups
    has_groups mark_of opcode_of has_imm permits opcode_condition slots index_bank gathers size_of sizes v_rule gives
loads = refl

-- from the next place on one byte isn't there
past_the_end : run_of (0xC5 ∷ 0xFA ∷ 0x6F ∷ 0x85 ∷ 0x51 ∷ 0x03 ∷ 0x00 ∷ 0x00 ∷ [])
    ≡ (begun, Err (record { place = 0; count = 0; cause = BadAddress }))
unfolding ran_from step kind_of vector_in source_of combine_of move_of work_of place_of base_part index_part general
    fetched stored combined moved lane_wise result_of decode walk walk_form entry_of has_key table steps form_row groups
    has_groups mark_of opcode_of has_imm permits opcode_condition slots index_bank gathers size_of sizes v_rule gives
past_the_end = refl

-- VADDSS isn't of the subset
not_of_the_subset : run_of (0xC5 ∷ 0xFA ∷ 0x58 ∷ 0xC1 ∷
    []) ≡ (begun, Err (record { place = 0; count = 0; cause = Unsupported }))
unfolding ran_from step kind_of vector_in source_of combine_of move_of work_of place_of base_part index_part general
    fetched stored combined moved lane_wise result_of decode walk walk_form entry_of has_key table steps form_row groups
    has_groups mark_of opcode_of has_imm permits opcode_condition slots index_bank gathers size_of sizes v_rule gives
not_of_the_subset = refl

-- a base rip isn't either
relative : (run_of (0xC5 ∷ 0xF1 ∷ 0xFC ∷ 0xC2 ∷ 0xC5 ∷ 0xFA ∷ 0x6F ∷ 0x05 ∷ 0x00 ∷ 0x00 ∷ 0x00 ∷ 0x00 ∷ [])).1
    ≡ Err (record { place = 4; count = 1; cause = Unsupported })
unfolding ran_from step kind_of vector_in source_of combine_of move_of work_of place_of base_part index_part general
    fetched stored combined moved lane_wise result_of decode walk walk_form entry_of has_key table steps form_row groups
    has_groups mark_of opcode_of has_imm permits opcode_condition slots index_bank gathers size_of sizes v_rule gives
relative = refl

-- bytes after an instruction that begin none
blocked_rest : (run_of (0xC5 ∷ 0xF1 ∷ 0xFC ∷ 0xC2 ∷ 0x33 ∷
    [])).1 ≡ Err (record { place = 4; count = 1; cause = Blocked Outside })
unfolding ran_from step kind_of vector_in source_of combine_of move_of work_of place_of base_part index_part general
    fetched stored combined moved lane_wise result_of decode walk walk_form entry_of has_key table steps form_row groups
    has_groups mark_of opcode_of has_imm permits opcode_condition slots index_bank gathers size_of sizes v_rule gives
blocked_rest = refl

-- no bytes
nothing : run_of [] ≡ (begun, Ok 0)
unfolding ran_from step kind_of vector_in source_of combine_of move_of work_of place_of base_part index_part general
    fetched stored combined moved lane_wise result_of decode walk walk_form entry_of has_key table steps form_row groups
    has_groups mark_of opcode_of has_imm permits opcode_condition slots index_bank gathers size_of sizes v_rule gives
nothing = refl

-- VZEROUPPER keeps the low half
upper_zeros : vector_after (0xC5 ∷ 0xF8 ∷ 0x77 ∷ []) 1 ≡ 0x10 ∷ 0x11 ∷ 0x12 ∷ 0x13 ∷ 0x14 ∷ 0x15 ∷ 0x16 ∷ 0x17 ∷ 0x18 ∷
    0x19 ∷ 0x1A ∷ 0x1B ∷ 0x1C ∷ 0x1D ∷ 0x1E ∷ 0x1F ∷ 0x00 ∷ 0x00 ∷ 0x00 ∷ 0x00 ∷ 0x00 ∷ 0x00 ∷ 0x00 ∷ 0x00 ∷ 0x00 ∷
    0x00 ∷ 0x00 ∷ 0x00 ∷ 0x00 ∷ 0x00 ∷ 0x00 ∷ 0x00 ∷ []
unfolding ran_from step kind_of vector_in source_of combine_of move_of work_of place_of base_part index_part general
    fetched stored combined moved lane_wise result_of decode walk walk_form entry_of has_key table steps form_row groups
    has_groups mark_of opcode_of has_imm permits opcode_condition slots index_bank gathers size_of sizes v_rule gives
upper_zeros = refl

-- VZEROALL keeps nothing
all_zeros : vector_after (0xC5 ∷ 0xFC ∷ 0x77 ∷ []) 1 ≡ 0x00 ∷ 0x00 ∷ 0x00 ∷ 0x00 ∷ 0x00 ∷ 0x00 ∷ 0x00 ∷ 0x00 ∷ 0x00 ∷
    0x00 ∷ 0x00 ∷ 0x00 ∷ 0x00 ∷ 0x00 ∷ 0x00 ∷ 0x00 ∷ 0x00 ∷ 0x00 ∷ 0x00 ∷ 0x00 ∷ 0x00 ∷ 0x00 ∷ 0x00 ∷ 0x00 ∷ 0x00 ∷
    0x00 ∷ 0x00 ∷ 0x00 ∷ 0x00 ∷ 0x00 ∷ 0x00 ∷ 0x00 ∷ []
unfolding ran_from step kind_of vector_in source_of combine_of move_of work_of place_of base_part index_part general
    fetched stored combined moved lane_wise result_of decode walk walk_form entry_of has_key table steps form_row groups
    has_groups mark_of opcode_of has_imm permits opcode_condition slots index_bank gathers size_of sizes v_rule gives
all_zeros = refl
