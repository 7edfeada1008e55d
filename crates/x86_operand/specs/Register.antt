use Rattle.std.specs.Prelude.{ℕ}
use Rattle.x86_operand.specs.declared.register.RegisterBank.{RegisterBank}
use Rattle.x86_operand.specs.declared.register.RegisterBank.TheVariants.{Q, D, X, Y, Z, RIP}

-- a register: its bank and its number there
pub record Register : Type 0 where
  pub bank : RegisterBank
  pub num : ℕ

-- the greatest number of a bank
abbrev pub greatest : RegisterBank → ℕ
greatest Q = 15
greatest D = 15
greatest X = 31
greatest Y = 31
greatest Z = 31
greatest RIP = 0
