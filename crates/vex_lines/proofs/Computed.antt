-- Result lines, computed at examples.
use Rattle.std.specs.Prelude.{◌≡◌, refl, [], ◌∷◌, codes}
use Rattle.std.specs.Fmt.{digits}
use Rattle.hex.specs.Hex.{encode_with}
use Rattle.x86_opcode.specs.Condition.{opcode_condition}
use Rattle.x86_opcode.specs.Name.{opcode_name}
use Rattle.x86_opcode.specs.Number.{opcode_number, same_opcode}
use Rattle.x86_operand.specs.Same.{same_meaning, same_operands, same_operand, same_register, same_bank, same_index}
use Rattle.x86_operand.specs.Same.{same_address}
use Rattle.x86_settings.specs.Bits.{all_bits, no_bits}
use Rattle.x86_permit.specs.Permission.{permits}
use Rattle.x86_address.specs.Shortest.{shortest_in}
use Rattle.vex_rows.specs.Groups.{groups}
use Rattle.vex_rows.specs.Rules.{has_key}
use Rattle.vex_rows.specs.Row.{rows, choices, exists, has_groups, has_imm, mark_of, opcode_of}
use Rattle.vex_rows.specs.FormRows.{form_row, gathers, sizes}
use Rattle.vex_rows.specs.Steps.{steps}
use Rattle.vex_rows.specs.Table.{table}
use Rattle.vex_forms.specs.Gives.{gives}
use Rattle.vex_forms.specs.Slots.{slots, index_bank, size_of, v_rule}
use Rattle.vex_forms.specs.FormWalk.{walk_form}
use Rattle.vex_decode.specs.Walk.{entry_of, walk}
use Rattle.vex_decode.specs.Decode.{decode}
use Rattle.vex_encode.specs.Canon.{canon}
use Rattle.vex_encode.specs.Standard.{candidate, standard}
use Rattle.vex_asm.specs.Text.{text}
use Rattle.vex_lines.specs.ResultLine.{result_line}

-- another entry has the operands the other way round, and needs no third byte of prefix
swapped : result_line all_bits (0xC4 ∷ 0xC1 ∷ 0x78 ∷ 0x28 ∷ 0xC0 ∷ []) ≡ codes "5 VMOVAPS x0 x8 0 c57829c0\n"
unfolding result_line decode text digits encode_with walk walk_form entry_of has_key table steps form_row groups has_groups
    mark_of opcode_of has_imm permits opcode_condition opcode_name canon rows choices exists standard candidate
    shortest_in slots index_bank gathers size_of sizes v_rule gives same_meaning same_operands same_operand same_register
    same_bank same_opcode opcode_number
swapped = refl

-- the two-byte prefix can say the same
two_bytes : result_line all_bits (0xC4 ∷ 0xE1 ∷ 0x70 ∷ 0x58 ∷ 0xC2 ∷ []) ≡ codes "5 VADDPS x0 x1 x2 0 c5f058c2\n"
unfolding result_line decode text digits encode_with walk walk_form entry_of has_key table steps form_row groups has_groups
    mark_of opcode_of has_imm permits opcode_condition opcode_name canon rows choices exists standard candidate
    shortest_in slots index_bank gathers size_of sizes v_rule gives same_meaning same_operands same_operand same_register
    same_bank same_opcode opcode_number
two_bytes = refl

-- L makes the registers wider
wide : result_line all_bits (0xC5 ∷ 0xF4 ∷ 0x58 ∷ 0xC2 ∷ []) ≡ codes "4 VADDPS y0 y1 y2 0 c5f458c2\n"
unfolding result_line decode text digits encode_with walk walk_form entry_of has_key table steps form_row groups has_groups
    mark_of opcode_of has_imm permits opcode_condition opcode_name canon rows choices exists standard candidate
    shortest_in slots index_bank gathers size_of sizes v_rule gives same_meaning same_operands same_operand same_register
    same_bank same_opcode opcode_number
wide = refl

-- bytes after the instruction play no part
followed : result_line all_bits (0xC5 ∷ 0xF8 ∷ 0x77 ∷ 0xFF ∷ 0xFF ∷ []) ≡ codes "3 VZEROUPPER 0 c5f877\n"
unfolding result_line decode text digits encode_with walk walk_form entry_of has_key table steps form_row groups has_groups
    mark_of opcode_of has_imm permits opcode_condition opcode_name canon rows choices exists standard candidate
    shortest_in slots index_bank gathers size_of sizes v_rule gives same_meaning same_operands same_operand same_register
    same_bank same_opcode opcode_number
followed = refl

-- L chooses the entry
zeros_all : result_line all_bits (0xC5 ∷ 0xFC ∷ 0x77 ∷ []) ≡ codes "3 VZEROALL 0 c5fc77\n"
unfolding result_line decode text digits encode_with walk walk_form entry_of has_key table steps form_row groups has_groups
    mark_of opcode_of has_imm permits opcode_condition opcode_name canon rows choices exists standard candidate
    shortest_in slots index_bank gathers size_of sizes v_rule gives same_meaning same_operands same_operand same_register
    same_bank same_opcode opcode_number
zeros_all = refl

nothing_there : result_line all_bits [] ≡ codes "error ExhaustedInput\n"
unfolding result_line decode text digits encode_with walk walk_form entry_of has_key table steps form_row groups has_groups
    mark_of opcode_of has_imm permits opcode_condition opcode_name canon rows choices exists standard candidate
    shortest_in slots index_bank gathers size_of sizes v_rule gives same_meaning same_operands same_operand same_register
    same_bank same_opcode opcode_number
nothing_there = refl

first_byte : result_line all_bits (0x33 ∷ 0xC0 ∷ []) ≡ codes "error Outside\n"
unfolding result_line decode text digits encode_with walk walk_form entry_of has_key table steps form_row groups has_groups
    mark_of opcode_of has_imm permits opcode_condition opcode_name canon rows choices exists standard candidate
    shortest_in slots index_bank gathers size_of sizes v_rule gives same_meaning same_operands same_operand same_register
    same_bank same_opcode opcode_number
first_byte = refl

-- an operand in memory
in_memory : result_line all_bits (0xC5 ∷ 0xF8 ∷ 0x28 ∷ 0x00 ∷ []) ≡ codes "4 VMOVAPS x0 mq0/-/0 16 c5f82800\n"
unfolding result_line decode text digits encode_with walk walk_form entry_of has_key table steps form_row groups has_groups
    mark_of opcode_of has_imm permits opcode_condition opcode_name canon rows choices exists standard candidate
    shortest_in slots index_bank gathers size_of sizes v_rule gives same_meaning same_operands same_operand same_register
    same_bank same_index same_address same_opcode opcode_number
in_memory = refl

-- the settings come last
cut : result_line no_bits (0xC5 ∷ 0xF8 ∷ []) ≡ codes "error ExhaustedInput\n"
unfolding result_line decode text digits encode_with walk walk_form entry_of has_key table steps form_row groups has_groups
    mark_of opcode_of has_imm permits opcode_condition opcode_name canon rows choices exists standard candidate
    shortest_in slots index_bank gathers size_of sizes v_rule gives same_meaning same_operands same_operand same_register
    same_bank same_opcode opcode_number
cut = refl

not_permitted : result_line no_bits (0xC5 ∷ 0xF8 ∷ 0x77 ∷ []) ≡ codes "error InvalidOpcode\n"
unfolding result_line decode text digits encode_with walk walk_form entry_of has_key table steps form_row groups has_groups
    mark_of opcode_of has_imm permits opcode_condition opcode_name canon rows choices exists standard candidate
    shortest_in slots index_bank gathers size_of sizes v_rule gives same_meaning same_operands same_operand same_register
    same_bank same_opcode opcode_number
not_permitted = refl
