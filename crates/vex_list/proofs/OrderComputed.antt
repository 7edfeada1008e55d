-- The order of byte strings, the spellings of a choice and a list of all, computed at examples.
use Rattle.std.specs.Prelude.{◌≡◌, refl, ℕ, ◌==◌, Bool, true, false, ◌&&◌, List, [], ◌∷◌, length, find, Some, None}
use Rattle.std.specs.Prelude.{Result, Ok, Err}
use Rattle.std.specs.List.{list_all}
use Rattle.x86_opcode.specs.Condition.{opcode_condition}
use Rattle.x86_opcode.specs.Number.{opcode_number, same_opcode}
use Rattle.x86_opcode.specs.declared.Opcode.TheVariants.{Integer}
use Rattle.x86_opcode.specs.declared.IntegerOpcode.TheVariants.{VZEROUPPER}
use Rattle.x86_operand.specs.Meaning.{Decoded, Meaning}
use Rattle.x86_operand.specs.Same.{same_meaning, same_operands, same_operand, same_register, same_bank, same_index}
use Rattle.x86_operand.specs.Same.{same_address}
use Rattle.x86_operand.specs.declared.error.DecodeError.{DecodeError}
use Rattle.x86_settings.specs.Bits.{all_bits}
use Rattle.x86_permit.specs.Permission.{permits}
use Rattle.x86_address.specs.Reading.{Reading}
use Rattle.vex_rows.specs.Groups.{groups}
use Rattle.vex_rows.specs.Rules.{has_key}
use Rattle.vex_rows.specs.Row.{Row, has_groups, has_imm, mark_of, opcode_of}
use Rattle.vex_rows.specs.FormRows.{form_row, gathers, sizes}
use Rattle.vex_rows.specs.Steps.{steps}
use Rattle.vex_rows.specs.Table.{table}
use Rattle.vex_forms.specs.Gives.{gives}
use Rattle.vex_forms.specs.Slots.{slots, index_bank, size_of, v_rule}
use Rattle.vex_forms.specs.FormWalk.{walk_form}
use Rattle.vex_decode.specs.Spelling.{Syntax, bytes_of, meant}
use Rattle.vex_decode.specs.Walk.{entry_of, walk}
use Rattle.vex_decode.specs.Decode.{decode}
use Rattle.vex_list.specs.Choices.{made}
use Rattle.vex_list.specs.Order.{is_before}
use Rattle.vex_list.specs.declared.choices.AddressForm.TheVariants.{WithoutSib}
use Rattle.vex_list.specs.declared.choices.Choices.{Choices}
use Rattle.vex_list.specs.declared.choices.PrefixForm.{PrefixForm}
use Rattle.vex_list.specs.declared.choices.PrefixForm.TheVariants.{TwoBytes, ThreeBytes}
use Rattle.vex_list.specs.declared.choices.Width.TheVariants.{NoBytes}

-- ---- the order

-- the first byte in which two differ decides
by_first_byte : is_before (0xC4 ∷ 0xE1 ∷ 0xF8 ∷ 0x77 ∷ []) (0xC5 ∷ 0x78 ∷ 0x77 ∷ []) ≡ true
by_first_byte = refl

by_third_byte : is_before (0xC4 ∷ 0xA3 ∷ 0x71 ∷ 0x4A ∷ 0xC2 ∷ 0x3F ∷ []) (0xC4 ∷ 0xA3 ∷ 0x71 ∷ 0x4A ∷ 0xC2 ∷ 0x30 ∷
    []) ≡ false
by_third_byte = refl

-- a proper prefix comes first
by_length : is_before (0xC5 ∷ []) (0xC5 ∷ 0x78 ∷ 0x77 ∷ []) ≡ true
by_length = refl

-- nothing comes before itself
not_itself : is_before (0xC5 ∷ 0xF8 ∷ 0x77 ∷ []) (0xC5 ∷ 0xF8 ∷ 0x77 ∷ []) ≡ false
not_itself = refl

-- ---- all spellings of VZEROUPPER

abbrev all : List (List ℕ)
all =
    (0xC4 ∷ 0x01 ∷ 0x78 ∷ 0x77 ∷ []) ∷
    (0xC4 ∷ 0x01 ∷ 0xF8 ∷ 0x77 ∷ []) ∷
    (0xC4 ∷ 0x21 ∷ 0x78 ∷ 0x77 ∷ []) ∷
    (0xC4 ∷ 0x21 ∷ 0xF8 ∷ 0x77 ∷ []) ∷
    (0xC4 ∷ 0x41 ∷ 0x78 ∷ 0x77 ∷ []) ∷
    (0xC4 ∷ 0x41 ∷ 0xF8 ∷ 0x77 ∷ []) ∷
    (0xC4 ∷ 0x61 ∷ 0x78 ∷ 0x77 ∷ []) ∷
    (0xC4 ∷ 0x61 ∷ 0xF8 ∷ 0x77 ∷ []) ∷
    (0xC4 ∷ 0x81 ∷ 0x78 ∷ 0x77 ∷ []) ∷
    (0xC4 ∷ 0x81 ∷ 0xF8 ∷ 0x77 ∷ []) ∷
    (0xC4 ∷ 0xA1 ∷ 0x78 ∷ 0x77 ∷ []) ∷
    (0xC4 ∷ 0xA1 ∷ 0xF8 ∷ 0x77 ∷ []) ∷
    (0xC4 ∷ 0xC1 ∷ 0x78 ∷ 0x77 ∷ []) ∷
    (0xC4 ∷ 0xC1 ∷ 0xF8 ∷ 0x77 ∷ []) ∷
    (0xC4 ∷ 0xE1 ∷ 0x78 ∷ 0x77 ∷ []) ∷
    (0xC4 ∷ 0xE1 ∷ 0xF8 ∷ 0x77 ∷ []) ∷
    (0xC5 ∷ 0x78 ∷ 0x77 ∷ []) ∷
    (0xC5 ∷ 0xF8 ∷ 0x77 ∷ []) ∷
    []

-- each comes before the next
abbrev in_order : List (List ℕ) → Bool
in_order [] = true
in_order (b ∷ []) = true
in_order (b ∷ c ∷ rest) = is_before b c && in_order (c ∷ rest)

ascending : in_order all ≡ true
ascending = refl

-- whether a decode reads all bytes, and the meaning
abbrev reads_all : Meaning → List ℕ → Result Decoded DecodeError → Bool
reads_all m b (Ok decoded) = same_meaning decoded.meaning m && decoded.len == length b
reads_all m b (Err error) = false

abbrev zeroes : Meaning
zeroes = record { evex = false; opcode = Integer VZEROUPPER; operands = []; size = None }

spelled : list_all (λ b. reads_all zeroes b (decode all_bits b)) all ≡ true
unfolding decode walk walk_form entry_of has_key table steps form_row groups has_groups mark_of opcode_of
    has_imm permits opcode_condition slots index_bank gathers size_of sizes v_rule gives same_meaning same_operands
    same_operand same_register same_bank same_index same_address same_opcode opcode_number
spelled = refl

-- after the last there is none
after_the_last : find (is_before (0xC5 ∷ 0xF8 ∷ 0x77 ∷ [])) all ≡ None
after_the_last = refl

-- after a front of two of them the lesser comes
after_a_prefix : find (is_before (0xC5 ∷ [])) all ≡ Some (0xC5 ∷ 0x78 ∷ 0x77 ∷ [])
after_a_prefix = refl

-- ---- the bytes of a choice

-- the spelling of a choice, of the row and the meaning that a decode finds
abbrev chosen_by : Choices → Reading (Row × Syntax) → List ℕ
chosen_by c (Ok read) = bytes_of read.0.0 (made read.0.0 (meant read.0.0 read.0.1) c)
chosen_by c (Err error) = []

-- a choice for an instruction with no address
abbrev choice : PrefixForm → Bool → Bool → Bool → ℕ → ℕ → Choices
choice form r x b vvvv low =
    record { form = form; r = r; x = x; b = b; vvvv = vvvv; address = WithoutSib NoBytes; low = low }

-- VBLENDVPS with X, and the low half of its immediate 0
least_low : chosen_by (choice ThreeBytes false true false 1 0) (walk (0xC4 ∷ 0xE3 ∷ 0x71 ∷ 0x4A ∷ 0xC2 ∷ 0x35 ∷ []))
    ≡ 0xC4 ∷ 0xA3 ∷ 0x71 ∷ 0x4A ∷ 0xC2 ∷ 0x30 ∷ []
unfolding made walk walk_form entry_of has_key table steps form_row groups has_groups mark_of opcode_of has_imm slots
    index_bank gathers size_of sizes v_rule gives
least_low = refl

-- the same without X, and the low half 15
greatest_low : chosen_by (choice ThreeBytes false false false 1 15) (walk (0xC4 ∷ 0xE3 ∷ 0x71 ∷ 0x4A ∷ 0xC2 ∷ 0x35 ∷
    []))
    ≡ 0xC4 ∷ 0xE3 ∷ 0x71 ∷ 0x4A ∷ 0xC2 ∷ 0x3F ∷ []
unfolding made walk walk_form entry_of has_key table steps form_row groups has_groups mark_of opcode_of has_imm slots
    index_bank gathers size_of sizes v_rule gives
greatest_low = refl

-- VZEROUPPER with R, X and B, and with R in a prefix of two bytes
all_bits_set : chosen_by (choice ThreeBytes true true true 0 0) (walk (0xC5 ∷ 0xF8 ∷ 0x77 ∷ [])) ≡ 0xC4 ∷ 0x01 ∷ 0x78 ∷
    0x77 ∷ []
unfolding made walk walk_form entry_of has_key table steps form_row groups has_groups mark_of opcode_of has_imm slots
    index_bank gathers size_of sizes v_rule gives
all_bits_set = refl

of_two_bytes : chosen_by (choice TwoBytes true false false 0 0) (walk (0xC5 ∷ 0xF8 ∷ 0x77 ∷ [])) ≡ 0xC5 ∷ 0x78 ∷ 0x77 ∷
    []
unfolding made walk walk_form entry_of has_key table steps form_row groups has_groups mark_of opcode_of has_imm slots
    index_bank gathers size_of sizes v_rule gives
of_two_bytes = refl
