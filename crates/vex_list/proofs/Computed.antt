-- Whether bytes spell a meaning, and the strings in order, computed at examples.
use Rattle.std.specs.Prelude.{◌≡◌, refl, false, true, [], ◌∷◌, length, take, drop, None}
use Rattle.x86_opcode.specs.declared.Opcode.TheVariants.{Integer}
use Rattle.x86_opcode.specs.declared.IntegerOpcode.TheVariants.{VZEROUPPER}
use Rattle.x86_opcode.specs.Number.{opcode_number, same_opcode}
use Rattle.x86_operand.specs.Meaning.{Meaning}
use Rattle.x86_operand.specs.Same.{same_meaning, same_operands}
use Rattle.vex_rows.specs.FormRows.{form_row, gathers, sizes}
use Rattle.vex_rows.specs.Groups.{groups}
use Rattle.vex_rows.specs.Row.{exists, has_groups, has_imm, mark_of, opcode_of}
use Rattle.vex_rows.specs.Rules.{has_key}
use Rattle.vex_rows.specs.Steps.{steps}
use Rattle.vex_rows.specs.Table.{table}
use Rattle.vex_forms.specs.FormWalk.{walk_form}
use Rattle.vex_forms.specs.Gives.{gives}
use Rattle.vex_forms.specs.Slots.{index_bank, size_of, slots, v_rule}
use Rattle.vex_decode.specs.Walk.{entry_of, walk}
use Rattle.vex_list.specs.AllSpellings.{is_spelling, joined, strings}

zeroupper : Meaning
zeroupper = record { evex = false; opcode = Integer VZEROUPPER; operands = []; size = None }

-- the first and the last spelling of a meaning
first : is_spelling zeroupper (0xC4 ∷ 0x01 ∷ 0x78 ∷ 0x77 ∷ []) ≡ true
unfolding zeroupper is_spelling walk walk_form entry_of has_key table steps form_row groups has_groups mark_of
    opcode_of has_imm exists slots index_bank gathers size_of sizes v_rule gives same_meaning same_operands same_opcode
    opcode_number
first = refl

last : is_spelling zeroupper (0xC5 ∷ 0xF8 ∷ 0x77 ∷ []) ≡ true
unfolding zeroupper is_spelling walk walk_form entry_of has_key table steps form_row groups has_groups mark_of
    opcode_of has_imm exists slots index_bank gathers size_of sizes v_rule gives same_meaning same_operands same_opcode
    opcode_number
last = refl

-- a spelling and a byte more, one of another meaning, and a refused string are none
longer : is_spelling zeroupper (0xC5 ∷ 0xF8 ∷ 0x77 ∷ 0x00 ∷ []) ≡ false
unfolding zeroupper is_spelling walk walk_form entry_of has_key table steps form_row groups has_groups mark_of
    opcode_of has_imm exists slots index_bank gathers size_of sizes v_rule gives same_meaning same_operands same_opcode
    opcode_number
longer = refl

zeroall : is_spelling zeroupper (0xC5 ∷ 0xFC ∷ 0x77 ∷ []) ≡ false
unfolding zeroupper is_spelling walk walk_form entry_of has_key table steps form_row groups has_groups mark_of
    opcode_of has_imm exists slots index_bank gathers size_of sizes v_rule gives same_meaning same_operands same_opcode
    opcode_number
zeroall = refl

refused : is_spelling zeroupper (0xC5 ∷ 0xF0 ∷ 0x77 ∷ []) ≡ false
unfolding zeroupper is_spelling walk walk_form entry_of has_key table steps form_row groups has_groups mark_of
    opcode_of has_imm exists slots index_bank gathers size_of sizes v_rule gives same_meaning same_operands same_opcode
    opcode_number
refused = refl

-- the empty string, then each byte, alone and then before each byte
begin : take 5 (strings 2) ≡ [] ∷ (0 ∷ []) ∷ (0 ∷ 0 ∷ []) ∷ (0 ∷ 1 ∷ []) ∷ (0 ∷ 2 ∷ []) ∷ []
unfolding strings joined
begin = refl

turn : take 3 (drop 257 (strings 2)) ≡ (0 ∷ 255 ∷ []) ∷ (1 ∷ []) ∷ (1 ∷ 0 ∷ []) ∷ []
unfolding strings joined
turn = refl

ones : length (strings 1) ≡ 257
unfolding strings joined
ones = refl
