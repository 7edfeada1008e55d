-- Canonical bytes, first failing steps and shortest places, computed at examples.
use Rattle.std.specs.Prelude.{◌≡◌, refl, [], ◌∷◌, Some, None, false, pos}
use Rattle.x86_opcode.specs.declared.Opcode.TheVariants.{Float}
use Rattle.x86_opcode.specs.declared.FloatOpcode.TheVariants.{VMOVAPS, VADDPS, VBLENDVPS}
use Rattle.x86_operand.specs.declared.error.DecodeError.TheVariants.{ExhaustedInput, InvalidOpcode, InvalidOperand}
use Rattle.x86_operand.specs.declared.error.DecodeError.TheVariants.{Outside}
use Rattle.x86_operand.specs.declared.register.RegisterBank.TheVariants.{X}
use Rattle.x86_operand.specs.Meaning.{register, Meaning}
use Rattle.x86_opcode.specs.Number.{same_opcode, opcode_number}
use Rattle.x86_operand.specs.Same.{same_meaning, same_operands, same_operand, same_register, same_bank}
use Rattle.x86_address.specs.Place.{At, Numbered, Based}
use Rattle.x86_address.specs.Bytes.{Absent, Short}
use Rattle.x86_address.specs.Shortest.{shortest_in, shortest}
use Rattle.vex_rows.specs.Rules.{has_key}
use Rattle.vex_rows.specs.FormRows.{form_row, gathers, sizes}
use Rattle.vex_rows.specs.Steps.{steps}
use Rattle.vex_rows.specs.Groups.{groups}
use Rattle.vex_rows.specs.Table.{table}
use Rattle.vex_rows.specs.Row.{rows, choices, exists, has_groups, mark_of, opcode_of, has_imm}
use Rattle.vex_forms.specs.Slots.{slots, index_bank, size_of, v_rule}
use Rattle.vex_forms.specs.Gives.{gives}
use Rattle.vex_forms.specs.FormWalk.{walk_form}
use Rattle.vex_decode.specs.Walk.{walk, entry_of}
use Rattle.vex_decode.specs.Blocked.{fails}
use Rattle.vex_encode.specs.Standard.{standard, candidate}
use Rattle.vex_encode.specs.Canon.{all_standard, canon}

-- VMOVAPS x0, x8
abbrev moves : Meaning
moves = record {
  evex = false;
  opcode = Float VMOVAPS;
  operands =
      register (record { bank = X; num = 0 }) ∷ register (record { bank = X; num = 8 }) ∷ [];
  size = None;
}

canon_moves : canon moves ≡ Some (0xC5 ∷ 0x78 ∷ 0x29 ∷ 0xC0 ∷ [])
unfolding canon rows choices exists has_groups mark_of table steps form_row groups standard candidate shortest_in slots
    index_bank gathers size_of sizes v_rule gives opcode_of has_imm same_meaning same_operands same_operand
    same_register same_bank same_opcode opcode_number
canon_moves = refl

-- two entries give it, each at either W; the second has the operands the other way round, and needs no third byte of
-- prefix at W 0
rows_of_moves : all_standard moves rows ≡ (0xC4 ∷ 0xC1 ∷ 0x78 ∷ 0x28 ∷ 0xC0 ∷ [])
    ∷ (0xC4 ∷ 0xC1 ∷ 0xF8 ∷ 0x28 ∷ 0xC0 ∷ []) ∷ (0xC5 ∷ 0x78 ∷ 0x29 ∷ 0xC0 ∷ [])
    ∷ (0xC4 ∷ 0x61 ∷ 0xF8 ∷ 0x29 ∷ 0xC0 ∷ []) ∷ []
unfolding rows choices exists has_groups mark_of table steps form_row groups standard candidate shortest_in slots
    index_bank gathers size_of sizes v_rule gives opcode_of has_imm same_meaning same_operands same_operand
    same_register same_bank same_opcode opcode_number
rows_of_moves = refl

-- VADDPS x0, x1, x2
abbrev adds : Meaning
adds = record {
  evex = false;
  opcode = Float VADDPS;
  operands =
      register (record { bank = X; num = 0 }) ∷ register (record { bank = X; num = 1 })
      ∷ register (record { bank = X; num = 2 }) ∷ [];
  size = None;
}

-- one entry gives it, at either W
rows_of_adds : all_standard adds rows ≡ (0xC5 ∷ 0xF0 ∷ 0x58 ∷ 0xC2 ∷ []) ∷ (0xC4 ∷ 0xE1 ∷ 0xF0 ∷ 0x58 ∷ 0xC2 ∷ []) ∷ []
unfolding rows choices exists has_groups mark_of table steps form_row groups standard candidate shortest_in slots
    index_bank gathers size_of sizes v_rule gives opcode_of has_imm same_meaning same_operands same_operand
    same_register same_bank same_opcode opcode_number
rows_of_adds = refl

canon_adds : canon adds ≡ Some (0xC5 ∷ 0xF0 ∷ 0x58 ∷ 0xC2 ∷ [])
unfolding canon rows choices exists has_groups mark_of table steps form_row groups standard candidate shortest_in slots
    index_bank gathers size_of sizes v_rule gives opcode_of has_imm same_meaning same_operands same_operand
    same_register same_bank same_opcode opcode_number
canon_adds = refl

-- VMOVAPS x16, x0: no prefix in VEX form names x16
abbrev moves_above : Meaning
moves_above = record {
  evex = false;
  opcode = Float VMOVAPS;
  operands =
      register (record { bank = X; num = 16 }) ∷ register (record { bank = X; num = 0 }) ∷ [];
  size = None;
}

canon_moves_above : canon moves_above ≡ None
unfolding canon rows choices exists has_groups mark_of table steps form_row groups standard candidate shortest_in slots
    index_bank gathers size_of sizes v_rule gives opcode_of has_imm same_meaning same_operands same_operand
    same_register same_bank same_opcode opcode_number
canon_moves_above = refl

-- VBLENDVPS x0, x1, x2, x3: the fourth register is the high four bits of the immediate byte
abbrev blends : Meaning
blends = record {
  evex = false;
  opcode = Float VBLENDVPS;
  operands =
      register (record { bank = X; num = 0 }) ∷ register (record { bank = X; num = 1 })
      ∷ register (record { bank = X; num = 2 }) ∷ register (record { bank = X; num = 3 }) ∷ [];
  size = None;
}

canon_blends : canon blends ≡ Some (0xC4 ∷ 0xE3 ∷ 0x71 ∷ 0x4A ∷ 0xC2 ∷ 0x30 ∷ [])
unfolding canon rows choices exists has_groups mark_of table steps form_row groups standard candidate shortest_in slots
    index_bank gathers size_of sizes v_rule gives opcode_of has_imm same_meaning same_operands same_operand
    same_register same_bank same_opcode opcode_number
canon_blends = refl

empty : fails [] ≡ Some (ExhaustedInput, 0)
unfolding walk
empty = refl

first_byte : fails (0x33 ∷ 0xC0 ∷ []) ≡ Some (Outside, 1)
unfolding walk
first_byte = refl

cut_prefix : fails (0xC4 ∷ 0 ∷ []) ≡ Some (ExhaustedInput, 2)
unfolding walk
cut_prefix = refl

no_map : fails (0xC4 ∷ 0xE0 ∷ 0x78 ∷ 0x58 ∷ 0xC0 ∷ []) ≡ Some (InvalidOpcode, 3)
unfolding walk
no_map = refl

no_entry : fails (0xC4 ∷ 0xE3 ∷ 0x78 ∷ 0x0F ∷ 0xC0 ∷ 0 ∷ []) ≡ Some (InvalidOpcode, 4)
unfolding walk entry_of has_key table
no_entry = refl

in_memory : fails (0xC5 ∷ 0xF8 ∷ 0x28 ∷ 0 ∷ []) ≡ None
unfolding walk walk_form entry_of has_key table steps form_row groups
in_memory = refl

vvvv : fails (0xC5 ∷ 0xF0 ∷ 0x28 ∷ []) ≡ Some (InvalidOperand, 3)
unfolding walk walk_form entry_of has_key table steps form_row groups
vvvv = refl

begins : fails (0xC4 ∷ 0xC1 ∷ 0x78 ∷ 0x28 ∷ 0xC0 ∷ 1 ∷ []) ≡ None
unfolding walk walk_form entry_of has_key table steps form_row groups
begins = refl

place_of_a_base : shortest (At (record { base = Numbered 0; index = None; disp = pos 0 })) ≡ Based 0 Absent
unfolding shortest_in
place_of_a_base = refl

place_of_base_five : shortest (At (record { base = Numbered 5; index = None; disp = pos 0 })) ≡ Based 5 (Short 0)
unfolding shortest_in
place_of_base_five = refl
