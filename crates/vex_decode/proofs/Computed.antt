-- Where bytes are blocked, and what a decode of them answers, computed at examples: VMOVAPS and VZEROUPPER need the bit
-- of avx, which is asked for last.
use Rattle.std.specs.Prelude.{◌≡◌, refl, Bool, false, List, [], ◌∷◌, Some, None, Ok, Err}
use Rattle.x86_operand.specs.declared.error.DecodeError.TheVariants.{ExhaustedInput, InvalidOpcode, InvalidOperand}
use Rattle.x86_operand.specs.declared.error.DecodeError.TheVariants.{Outside}
use Rattle.x86_opcode.specs.declared.IntegerOpcode.TheVariants.{VZEROUPPER}
use Rattle.x86_opcode.specs.declared.Opcode.TheVariants.{Integer}
use Rattle.x86_opcode.specs.Condition.{opcode_condition}
use Rattle.x86_settings.specs.Bits.{no_bits, with_set}
use Rattle.x86_settings.specs.Settings.{avx}
use Rattle.x86_permit.specs.Permission.{permits}
use Rattle.vex_rows.specs.Groups.{groups}
use Rattle.vex_rows.specs.Rules.{has_key}
use Rattle.vex_rows.specs.FormRows.{form_row, sizes}
use Rattle.vex_rows.specs.Steps.{steps}
use Rattle.vex_rows.specs.Table.{table}
use Rattle.vex_rows.specs.Row.{has_groups, mark_of, opcode_of}
use Rattle.vex_forms.specs.FormWalk.{walk_form}
use Rattle.vex_forms.specs.Gives.{gives}
use Rattle.vex_forms.specs.Slots.{slots, index_bank, size_of}
use Rattle.vex_decode.specs.Walk.{entry_of, walk}
use Rattle.vex_decode.specs.Blocked.{blocked}
use Rattle.vex_decode.specs.Decode.{decode}

abbrev avx_bit : List Bool
avx_bit = with_set no_bits avx

permitted : blocked avx_bit (0xC4 ∷ 0xC1 ∷ 0x78 ∷ 0x28 ∷ 0xC0 ∷ []) ≡ None
unfolding walk walk_form entry_of has_key table steps form_row groups has_groups mark_of opcode_of permits
    opcode_condition
permitted = refl

refused : blocked no_bits (0xC4 ∷ 0xC1 ∷ 0x78 ∷ 0x28 ∷ 0xC0 ∷ []) ≡ Some (InvalidOpcode, 5)
unfolding walk walk_form entry_of has_key table steps form_row groups has_groups mark_of opcode_of permits
    opcode_condition
refused = refl

-- what follows a spelling plays no part
followed : blocked avx_bit (0xC5 ∷ 0xF8 ∷ 0x28 ∷ 0xC0 ∷ 0xFF ∷ 0xFF ∷ []) ≡ None
unfolding walk walk_form entry_of has_key table steps form_row groups has_groups mark_of opcode_of permits
    opcode_condition
followed = refl

-- every other step comes before the settings
cut : blocked no_bits (0xC5 ∷ 0xF8 ∷ []) ≡ Some (ExhaustedInput, 2)
unfolding walk
cut = refl

vvvv : blocked no_bits (0xC5 ∷ 0xE8 ∷ 0x28 ∷ 0xC0 ∷ []) ≡ Some (InvalidOperand, 3)
unfolding walk walk_form entry_of has_key table steps form_row groups
vvvv = refl

first_byte : blocked no_bits (0x33 ∷ 0xC0 ∷ []) ≡ Some (Outside, 1)
unfolding walk
first_byte = refl

-- ---- what a decode answers

read : decode avx_bit (0xC5 ∷ 0xF8 ∷ 0x77 ∷ 0xFF ∷ []) ≡ Ok (record {
  meaning = record { evex = false; opcode = Integer VZEROUPPER; operands = []; size = None };
  len = 3;
})
unfolding decode walk walk_form entry_of has_key table steps form_row groups has_groups mark_of opcode_of permits
    opcode_condition gives slots index_bank size_of sizes
read = refl

not_permitted : decode no_bits (0xC5 ∷ 0xF8 ∷ 0x77 ∷ []) ≡ Err InvalidOpcode
unfolding decode walk walk_form entry_of has_key table steps form_row groups has_groups mark_of opcode_of permits
    opcode_condition gives slots index_bank size_of sizes
not_permitted = refl

exhausted : decode avx_bit (0xC5 ∷ 0xF8 ∷ []) ≡ Err ExhaustedInput
unfolding decode walk
exhausted = refl
