-- What the operations give (Intel SDM volume 2, the instructions of these names).
use Rattle.std.specs.Prelude.{ℕ, List, bit_and, bit_or, bit_xor}
use Rattle.std.specs.Simd.Lanes.{zip2}
use Rattle.vex_emul.specs.Lanes.{by_lanes, sum_in, difference_in, equality_in, and_not}
use Rattle.vex_emul.specs.declared.operation.Operation.{Operation}
use Rattle.vex_emul.specs.declared.operation.Operation.TheVariants.{Add, Subtract, Equal, And, AndNot, Or, Xor}

-- the result of an operation on two operands of n bytes
unfoldable pub result_of : Operation → ℕ → List ℕ → List ℕ → List ℕ
result_of (Add lane) n v e = by_lanes sum_in lane n v e
result_of (Subtract lane) n v e = by_lanes difference_in lane n v e
result_of (Equal lane) n v e = by_lanes equality_in lane n v e
result_of And n v e = zip2 bit_and v e
result_of AndNot n v e = zip2 and_not v e
result_of Or n v e = zip2 bit_or v e
result_of Xor n v e = zip2 bit_xor v e
