-- The text of a meaning, and the words of a line.
use Rattle.std.specs.Prelude.{ℕ, Bool, true, false, List, [], ◌∷◌, ◌++◌, Option, Some, None, codes, decimal, unwrap_or}
use Rattle.std.specs.Prelude.{map, filter, ◌==◌, ◌||◌}
use Rattle.std.specs.List.{slice_split, join_with_byte}
use Rattle.std.specs.Fmt.{signed_decimal}
use Rattle.x86_opcode.specs.Name.{opcode_name}
use Rattle.x86_operand.specs.declared.address.Address.{Address}
use Rattle.x86_operand.specs.declared.address.Index.{Index}
use Rattle.x86_operand.specs.declared.register.RegisterBank.{RegisterBank}
use Rattle.x86_operand.specs.declared.register.RegisterBank.TheVariants.{Q, D, X, Y, Z, RIP}
use Rattle.x86_operand.specs.Register.{Register}
use Rattle.x86_operand.specs.Meaning.{OperandMeaning, register, signed, unsigned, memory, nothing, Meaning}

-- a register of this bank and number: the letter of the bank and the number, or `rip`
abbrev pub register_text_in : RegisterBank → ℕ → List ℕ
register_text_in Q n = codes "q" ++ decimal n
register_text_in D n = codes "d" ++ decimal n
register_text_in X n = codes "x" ++ decimal n
register_text_in Y n = codes "y" ++ decimal n
register_text_in Z n = codes "z" ++ decimal n
register_text_in RIP n = codes "rip"

-- a register: the letter of its bank and its number, or `rip`
abbrev pub register_text : Register → List ℕ
register_text reg = register_text_in reg.bank reg.num

-- the base of an address, `-` for none
abbrev pub base_text : Option Register → List ℕ
base_text None = codes "-"
base_text (Some reg) = register_text reg

-- the index of an address and its scale, `-` for none
abbrev pub index_text : Option Index → List ℕ
index_text None = codes "-"
index_text (Some index) = register_text index.reg ++ codes "*" ++ decimal index.scale

-- an address behind its `m`: base, index and displacement
abbrev pub address_text : Address → List ℕ
address_text a = base_text a.base ++ codes "/" ++ index_text a.index ++ codes "/" ++ signed_decimal a.disp

-- an operand: a register, an immediate, an address behind `m`, or `nothing`
abbrev pub operand_text : OperandMeaning → List ℕ
operand_text (register reg) = register_text reg
operand_text (signed imm) = codes "i" ++ signed_decimal imm
operand_text (unsigned imm) = codes "u" ++ decimal imm
operand_text (memory a) = codes "m" ++ address_text a
operand_text nothing = codes "nothing"

-- the EVEX mark before the name of the opcode
abbrev pub mark_text : Bool → List ℕ
mark_text true = codes "EVEX."
mark_text false = []

-- the parts of the text of a meaning: the opcode's name behind the mark, the operands, the memory size, 0 for none
abbrev pub parts : Meaning → List (List ℕ)
parts m = (mark_text m.evex ++ opcode_name m.opcode)
    ∷ (map operand_text m.operands ++ decimal (unwrap_or m.size 0) ∷ [])

-- the text of a meaning: its parts with one space between them
unfoldable pub text : Meaning → List ℕ
text m = join_with_byte 32 (parts m)

-- a space, a tab or a carriage return
abbrev pub is_blank : ℕ → Bool
is_blank b = b == 32 || (b == 9 || b == 13)

-- whether a list has an element
abbrev pub is_filled : List ℕ → Bool
is_filled [] = false
is_filled (b ∷ bs) = true

-- the parts of a line between blanks, without the empty ones
unfoldable pub line_parts : List ℕ → List (List ℕ)
line_parts line = filter is_filled (slice_split is_blank line)

-- the words of a line: its parts with one space between them
unfoldable pub words : List ℕ → List ℕ
words line = join_with_byte 32 (line_parts line)
