-- The numbers that the bytes of an instruction name its operands by, as the code holds them.
use Rattle.std.specs.Prelude.{◌≡◌, ◌<◌, ℕ, Bool, true, false, List, [], ◌∷◌, ◌++◌, length, Result, Ok, Err}
use Rattle.std.specs.List.{list_all}
use Rattle.x86_operand.specs.declared.error.DecodeError.{DecodeError}
use Rattle.x86_operand.specs.declared.register.RegisterBank.{RegisterBank}
use Rattle.x86_operand.specs.declared.register.RegisterBank.TheVariants.{Q, RIP}
use Rattle.x86_operand.specs.declared.address.Address.{Address}
use Rattle.x86_operand.specs.Meaning.{OperandMeaning, Decoded}
use Rattle.x86_address.specs.Place.{Target, NoTarget, Number, At}
use Rattle.x86_address.specs.Shortest.{plain, in_banks}
use Rattle.vex_forms.specs.declared.operand_e.OperandE.{OperandE}
use Rattle.vex_forms.specs.declared.operand_e.OperandE.TheVariants.{Absent, Register, Memory}
use Rattle.vex_forms.specs.declared.slot.Slot.{Slot}
use Rattle.vex_forms.specs.declared.slot.Slot.TheVariants.{G, V, E, U8, I8, R4}

-- whether a bank has at least sixteen registers
abbrev pub has_sixteen : RegisterBank → Bool
has_sixteen RIP = false
has_sixteen _ = true

-- whether the bank of a slot has at least sixteen registers, where it has a bank
abbrev pub slot_fits : Slot → Bool
slot_fits (G bank) = has_sixteen bank
slot_fits (V bank) = has_sixteen bank
slot_fits (E bank) = has_sixteen bank
slot_fits (R4 bank) = has_sixteen bank
slot_fits U8 = true
slot_fits I8 = true

-- whether all slots do so
abbrev pub slots_fit : List Slot → Bool
slots_fit slots = list_all slot_fits slots

-- a register's number is below 16
abbrev pub NumberFits : OperandE → Type 0
NumberFits e = (num : ℕ) → e ≡ Register num → num < 16

-- the base of an address is of bank Q or the instruction pointer, and its index of bank Q
abbrev pub BanksFit : OperandE → Type 0
BanksFit e = (address : Address) → e ≡ Memory address → address ≡ in_banks Q (plain address)

-- what the operand E names, as bytes do: an address is taken without the banks of its registers
abbrev pub target_seen : OperandE → Target
target_seen Absent = NoTarget
target_seen (Register num) = Number num
target_seen (Memory address) = At (plain address)

-- an instruction with one operand more
abbrev pub with_operand : Decoded → OperandMeaning → Decoded
with_operand old m = record old { meaning = record old.meaning { operands = old.meaning.operands ++ m ∷ [] } }

-- the operand was added to the instruction, where there was room for it
abbrev pub Adds : OperandMeaning → Decoded → Decoded → Type 0
Adds m old new = length old.meaning.operands < 4 → new ≡ with_operand old m

-- what a call has made that writes an instruction: the instruction, or an error
abbrev pub made : Result (Unit {0}) DecodeError → Decoded → Result Decoded DecodeError
made (Ok done) instruction = Ok instruction
made (Err error) instruction = Err error
