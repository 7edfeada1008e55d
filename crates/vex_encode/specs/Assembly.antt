-- Private functions alone cite what stands here.
use Rattle.std.specs.Prelude.{◌≡◌, ℕ, ◌+◌, ◌*◌, ◌/◌, ◌%◌, ◌<◌, ◌==◌, Bool, true, false, List, [], ◌∷◌, unwrap_or}
use Rattle.x86_operand.specs.declared.register.RegisterBank.{RegisterBank}
use Rattle.x86_operand.specs.Kind.{Kind, WithoutModRM, InRegister, InMemory, VectorIndexed}
use Rattle.x86_operand.specs.Instruction.{operand_at}
use Rattle.x86_operand.specs.Meaning.{number_of, OperandMeaning, register, memory, Meaning}
use Rattle.x86_address.specs.Place.{Target}
use Rattle.x86_operand.specs.declared.register.RegisterBank.TheVariants.{Q}
use Rattle.x86_operand.specs.declared.address.Address.{Address}
use Rattle.x86_address.specs.Shortest.{shortest, plain, in_banks, x_of, b_of}
use Rattle.x86_address.specs.Spells.{BaseFits, IndexFits}
use Rattle.vex_rows.specs.Row.{Row}
use Rattle.vex_forms.specs.declared.operand_e.OperandE.{OperandE}
use Rattle.vex_forms.specs.declared.operand_e.OperandE.TheVariants.{Memory}
use Rattle.vex_forms.specs.declared.operand_fields.OperandFields.{OperandFields}
use Rattle.vex_forms.specs.declared.slot.Slot.{Slot}
use Rattle.vex_forms.specs.Operands.{target_seen}
use Rattle.vex_forms.specs.Slots.{slots, names_g, names_v, names_e, names_imm}
use Rattle.vex_encode.specs.declared.operand_walk.Asked.{Asked}
use Rattle.vex_encode.specs.Standard.{operand_of_kind, imm_of, target_of}
use Rattle.vex_encode.specs.Conditions.{RegisterFits, AddressFits}

-- what operands ask for, each by the first slot of its kind; the one at the slot of E is named by its place among all
pub record IsAsked (all : List OperandMeaning) (slots : List Slot) (operands : List OperandMeaning) (asked : Asked)
    : Type 0 where
  pub g : asked.g ≡ number_of (operand_of_kind names_g slots operands)
  pub v : asked.v ≡ number_of (operand_of_kind names_v slots operands)
  pub e : operand_at all asked.e ≡ operand_of_kind names_e slots operands
  pub imm : asked.imm ≡ imm_of (operand_of_kind names_imm slots operands)

-- the number that the operand at the slot of the field reg has
abbrev pub g_of : Row → Meaning → ℕ
g_of row m = number_of (operand_of_kind names_g (slots row) m.operands)

-- that of the slot of vvvv
abbrev pub v_of : Row → Meaning → ℕ
v_of row m = number_of (operand_of_kind names_v (slots row) m.operands)

-- that of the slot that reads the immediate byte
abbrev pub immediate_of : Row → Meaning → ℕ
immediate_of row m = imm_of (operand_of_kind names_imm (slots row) m.operands)

-- the operand at the slot of E
abbrev pub operand_at_e : Row → Meaning → OperandMeaning
operand_at_e row m = operand_of_kind names_e (slots row) m.operands

-- an operand is a register that fits a slot of this bank
abbrev pub IsRegisterOf : RegisterBank → OperandMeaning → Type 0
IsRegisterOf bank (register reg) = RegisterFits bank reg
IsRegisterOf bank _ = ⊥

-- an operand is an address that fits a row with an index of this bank, which is a vector register or not
abbrev pub IsAddressOf : Bool → RegisterBank → OperandMeaning → Type 0
IsAddressOf vector bank (memory address) = AddressFits vector bank address
IsAddressOf vector bank _ = ⊥

-- in a row with its operand E in memory, the operand there is an address that fits
abbrev pub IsPlaced : Kind → RegisterBank → OperandMeaning → Type 0
IsPlaced WithoutModRM bank operand = Unit {0}
IsPlaced InRegister bank operand = Unit {0}
IsPlaced InMemory bank operand = IsAddressOf false bank operand
IsPlaced VectorIndexed bank operand = IsAddressOf true bank operand

-- the address is that of the operand, with its index in bank Q
abbrev pub GeneralAddress : OperandMeaning → Address → Type 0
GeneralAddress (memory address) general = general ≡ in_banks Q (plain address)
GeneralAddress _ general = ⊥

-- the operand E has the shortest place of what is asked for, with the same bits X and B
pub record AsksFor (e : OperandE) (asked : Target) : Type 0 where
  pub place : shortest (target_seen e) ≡ shortest asked
  pub x : x_of (target_seen e) ≡ x_of asked
  pub b : b_of (target_seen e) ≡ b_of asked

-- bytes can name the operand E, by whether the index of its address is a vector register
abbrev pub CanBePlaced : Bool → OperandE → Type 0
CanBePlaced vector (Memory address) = BaseFits address.base address.index × IndexFits vector address.index
CanBePlaced vector _ = Unit {0}

-- the field reg can be added to the first byte
abbrev pub HeadFits : List ℕ → Type 0
HeadFits [] = Unit {0}
HeadFits (modrm ∷ rest) = modrm < 200

-- bytes from ModRM on, with the field reg added to the first
abbrev pub with_reg : ℕ → List ℕ → List ℕ
with_reg reg [] = []
with_reg reg (modrm ∷ rest) = (modrm + 8 * reg) ∷ rest

-- the numbers that a meaning's operands ask for in a row
pub record HasNumbers (row : Row) (m : Meaning) (numbers : OperandFields) : Type 0 where
  pub r : numbers.r ≡ ((g_of row m / 8) % 2 == 1)
  pub vvvv : numbers.vvvv ≡ v_of row m % 16
  pub reg : numbers.reg ≡ unwrap_or row.group (g_of row m % 8)
  pub e : AsksFor numbers.e (target_of row.kind (operand_at_e row m))
  pub imm : numbers.imm ≡ immediate_of row m
