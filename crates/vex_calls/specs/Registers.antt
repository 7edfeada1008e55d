-- Registers as callers from other languages see them: a number for the bank, and one in the bank.
use Rattle.std.specs.Prelude.{ℕ, Option, Some, None, ◌==◌, nat_le, if◌then◌else◌}
use Rattle.x86_operand.specs.declared.register.RegisterBank.{RegisterBank}
use Rattle.x86_operand.specs.declared.register.RegisterBank.TheVariants.{Q, D, X, Y, Z, RIP}
use Rattle.x86_operand.specs.Register.{Register, greatest}
use Rattle.vex_calls.specs.declared.flat_register.FlatRegister.{FlatRegister}

-- the number of a bank, from 1 on: 0 stands for no register
abbrev pub bank_number : RegisterBank → ℕ
bank_number Q = 1
bank_number D = 2
bank_number X = 3
bank_number Y = 4
bank_number Z = 5
bank_number RIP = 6

-- the bank of a number, none of all others
abbrev pub bank_of : ℕ → Option RegisterBank
bank_of n =
    if n == 1 then Some Q
    else if n == 2 then Some D
    else if n == 3 then Some X
    else if n == 4 then Some Y
    else if n == 5 then Some Z
    else if n == 6 then Some RIP
    else None

-- a register, flat
abbrev pub flat_register : Register → FlatRegister
flat_register reg = record { bank = bank_number reg.bank; number = reg.num }

-- no register: its bank is 0
abbrev pub no_register : FlatRegister
no_register = record { bank = 0; number = 0 }

-- a register that may be missing, flat
abbrev pub flat_optional : Option Register → FlatRegister
flat_optional None = no_register
flat_optional (Some reg) = flat_register reg

-- the register of that number in a bank, where it is one of the bank's
abbrev pub register_in : Option RegisterBank → ℕ → Option Register
register_in None n = None
register_in (Some bank) n = if nat_le n (greatest bank) then Some (record { bank = bank; num = n }) else None

-- the register that a flat one is, none where its bank is none or doesn't have it
abbrev pub register_of : FlatRegister → Option Register
register_of flat = register_in (bank_of flat.bank) flat.number
