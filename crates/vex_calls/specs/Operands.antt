-- Operands as callers from other languages see them: each part in a place of its own, and 0 in all others.
use Rattle.std.specs.Prelude.{ℕ, ℤ, pos, negsuc, List, [], ◌∷◌, Option, Some, None, ◌==◌, ◌&&◌, if◌then◌else◌}
use Rattle.std.specs.Prelude.{option_map, int_le, nat_le}
use Rattle.x86_operand.specs.declared.address.Index.{Index}
use Rattle.x86_operand.specs.Meaning.{OperandMeaning, register, signed, unsigned, memory, nothing}
use Rattle.x86_operand.specs.Register.{Register}
use Rattle.vex_calls.specs.declared.flat_register.FlatRegister.{FlatRegister}
use Rattle.vex_calls.specs.declared.flat_operand.FlatOperand.{FlatOperand}
use Rattle.vex_calls.specs.Registers.{flat_register, flat_optional, no_register, register_of}

-- no operand: each place holds 0
abbrev pub no_operand : FlatOperand
no_operand = record {
  kind = 0;
  scale = 0;
  reg = no_register;
  base = no_register;
  index = no_register;
  displacement = pos 0;
  immediate = pos 0;
}

-- the register of an index, and its scale, 0 of none
abbrev pub index_register : Option Index → Option Register
index_register index = option_map (λ (i : Index). i.reg) index

abbrev pub index_scale : Option Index → ℕ
index_scale None = 0
index_scale (Some index) = index.scale

-- an operand, flat: its kind is 1 for a register, 2 and 3 for a signed and an unsigned immediate, 4 for an address, and
-- 0 for `nothing`
abbrev pub flat_operand : OperandMeaning → FlatOperand
flat_operand (register reg) = record no_operand { kind = 1; reg = flat_register reg }
flat_operand (signed imm) = record no_operand { kind = 2; immediate = imm }
flat_operand (unsigned imm) = record no_operand { kind = 3; immediate = pos imm }
flat_operand (memory address) = record no_operand {
  kind = 4;
  scale = index_scale address.index;
  base = flat_optional address.base;
  index = flat_optional (index_register address.index);
  displacement = address.disp;
}
flat_operand nothing = no_operand

-- a register that may be missing: a bank of 0 says that it is, whatever the number
abbrev pub optional_of : FlatRegister → Option (Option Register)
optional_of flat = if flat.bank == 0 then Some None else option_map Some (register_of flat)

-- the index of a register and a scale; without a register the scale plays no part
abbrev pub index_with : ℕ → Option Register → Option Index
index_with scale reg = option_map (λ (r : Register). record { reg = r; scale = scale }) reg

-- the address of a base, an index and a displacement
abbrev pub address_with : Option (Option Register) → Option (Option Register) → ℕ → ℤ → Option OperandMeaning
address_with None index scale disp = None
address_with (Some base) None scale disp = None
address_with (Some base) (Some index) scale disp =
    Some (memory (record { base = base; index = index_with scale index; disp = disp }))

-- a signed immediate of one byte
abbrev pub signed_of : ℤ → Option OperandMeaning
signed_of n = if int_le (negsuc 127) n && int_le n (pos 127) then Some (signed n) else None

-- an unsigned immediate of one byte
abbrev pub unsigned_of : ℤ → Option OperandMeaning
unsigned_of (pos n) = if nat_le n 255 then Some (unsigned n) else None
unsigned_of (negsuc n) = None

-- the operand that a flat one is, by its kind: places that the kind doesn't use play no part; none where there is no such
-- kind, or a register or an immediate isn't one
unfoldable pub operand_of : FlatOperand → Option OperandMeaning
operand_of flat =
    if flat.kind == 0 then Some nothing
    else if flat.kind == 1 then option_map register (register_of flat.reg)
    else if flat.kind == 2 then signed_of flat.immediate
    else if flat.kind == 3 then unsigned_of flat.immediate
    else if flat.kind == 4
    then address_with (optional_of flat.base) (optional_of flat.index) flat.scale flat.displacement
    else None

-- the operands that flat ones are, none where one is none
abbrev pub operand_onto : Option OperandMeaning → Option (List OperandMeaning) → Option (List OperandMeaning)
operand_onto (Some operand) (Some operands) = Some (operand ∷ operands)
operand_onto _ _ = None

abbrev pub operands_of : List FlatOperand → Option (List OperandMeaning)
operands_of [] = Some []
operands_of (flat ∷ others) = operand_onto (operand_of flat) (operands_of others)
