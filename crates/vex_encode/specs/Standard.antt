pub mod Lemmas
use Rattle.std.specs.Prelude.{pos, ℕ, ◌*◌, ◌/◌, ◌%◌, Bool, not, ◌&&◌, ◌||◌, List, [], ◌∷◌, Option, Some, None}
use Rattle.std.specs.Prelude.{if◌then◌else◌}
use Rattle.std.specs.Int.{cast_unsigned, w8}
use Rattle.x86_operand.specs.Kind.{Kind, WithoutModRM, InRegister, InMemory, VectorIndexed, is_vector}
use Rattle.x86_operand.specs.Meaning.{OperandMeaning, number_of, register, signed, unsigned, memory, nothing, Meaning}
use Rattle.x86_operand.specs.Same.{same_meaning}
use Rattle.x86_address.specs.Place.{Place, has_sib, Target, NoTarget, Number, At, Numbered}
use Rattle.x86_address.specs.Shortest.{shortest, plain, x_of, b_of}
use Rattle.vex_rows.specs.Row.{Row}
use Rattle.vex_forms.specs.declared.slot.Slot.{Slot}
use Rattle.vex_forms.specs.Slots.{slots, names_g, names_v, names_e, names_imm}
use Rattle.vex_forms.specs.Fields.{Fields}
use Rattle.vex_decode.specs.Fields.{shortest_form}
use Rattle.vex_decode.specs.Spelling.{Syntax, bytes_of, meant}

-- the operand at the first slot of a kind, nothing where there is none
abbrev pub operand_of_kind : (Slot → Bool) → List Slot → List OperandMeaning → OperandMeaning
operand_of_kind is [] operands = nothing
operand_of_kind is (slot ∷ slots) [] = nothing
operand_of_kind is (slot ∷ slots) (operand ∷ operands) = if is slot then operand else operand_of_kind is slots operands

-- the immediate byte of an operand: its low eight bits, or 16 times a register's number
abbrev pub imm_of : OperandMeaning → ℕ
imm_of (register reg) = (16 * reg.num) % 256
imm_of (signed imm) = cast_unsigned w8 imm % 256
imm_of (unsigned imm) = imm % 256
imm_of (memory address) = 0
imm_of nothing = 0

-- what an operand asks of the place of E in a row of this kind
abbrev pub target_of : Kind → OperandMeaning → Target
target_of WithoutModRM operand = NoTarget
target_of InRegister operand = Number (number_of operand)
target_of InMemory (memory address) = At (plain address)
target_of InMemory _ = At (record { base = Numbered 0; index = None; disp = pos 0 })
target_of VectorIndexed (memory address) = At (plain address)
target_of VectorIndexed _ = At (record { base = Numbered 0; index = Some (0, 1); disp = pos 0 })

-- the fields of the prefix: map, implied prefix, W and L are the row's, and R, X, B and vvvv are what the operands
-- demand
abbrev pub fields_for : Row → ℕ → ℕ → Target → Fields
fields_for row g v e = record {
  map = row.entry.map;
  pp = row.entry.pp;
  w = row.w;
  l = row.l;
  r = (g / 8) % 2;
  x = x_of e;
  b = b_of e;
  v = v % 16;
}

-- the reg field: the row's group, or what the slot G demands
abbrev pub reg_for : Option ℕ → ℕ → ℕ
reg_for None g = g % 8
reg_for (Some group) g = group

-- the parts of the standard spelling of operands by a row
abbrev pub assembled : Row → ℕ → ℕ → Target → ℕ → Syntax
assembled row g v e imm = record {
  form = shortest_form (fields_for row g v e);
  fields = fields_for row g v e;
  reg = reg_for row.group g;
  place = shortest e;
  imm = imm;
}

-- the parts of the standard spelling of a meaning by a row, which spell it where anything of the row does
unfoldable pub candidate : Row → Meaning → Syntax
candidate row m =
    assembled row
    (number_of (operand_of_kind names_g (slots row) m.operands))
    (number_of (operand_of_kind names_v (slots row) m.operands))
    (target_of row.kind (operand_of_kind names_e (slots row) m.operands))
    (imm_of (operand_of_kind names_imm (slots row) m.operands))

-- whether a place can be that of the kind: where the index is a vector register there is a SIB byte (Intel SDM volume
-- 2, section 2.3.12)
abbrev pub is_placed : Kind → Place → Bool
is_placed kind place = not (is_vector kind) || has_sib place

-- whether the parts that are put together are a spelling by the row, and mean the meaning
abbrev pub is_given : Row → Meaning → Bool
is_given row m = is_placed row.kind (candidate row m).place && same_meaning (meant row (candidate row m)) m

-- the standard bytes of a meaning by a row; none where the row can't give it, which `CanGive` says by conditions
unfoldable pub standard : Row → Meaning → Option (List ℕ)
standard row m = if is_given row m then Some (bytes_of row (candidate row m)) else None
