-- A register's number below 16 has the place of the number that it comes from.
use Rattle.std.specs.Prelude.{◌≡◌, refl, ℕ, ◌%◌, ◌==◌}
use Rattle.std.proofs.Common.{arith, ap, subst}
use Rattle.x86_address.specs.Place.{Number, Direct}
use Rattle.x86_address.specs.Shortest.{shortest_in}
use Rattle.vex_forms.specs.declared.operand_e.OperandE.TheVariants.{Register}
use Rattle.vex_encode.specs.Assembly.{AsksFor}

asks : (n : ℕ) → AsksFor (Register (n % 16)) (Number n)
unfolding shortest_in
asks n = record { place = ap Direct (omega arith); x = refl; b = ap (λ k. k == 1) (omega arith) }

pub register_asks : (n num : ℕ) → n ≡ num → AsksFor (Register (n % 16)) (Number num)
register_asks n num e = subst (λ k. AsksFor (Register (n % 16)) (Number k)) e (asks n)
