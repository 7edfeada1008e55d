-- Operands as lists of bytes, and what an operation does with two of them lane by lane.
use Rattle.std.specs.Prelude.{ℕ, zero, suc, List, [], ◌∷◌, ◌++◌, take, drop, ◌+◌, ◌-◌, ◌/◌, ◌%◌, ◌^◌, bit_and}
use Rattle.std.specs.Prelude.{if◌then◌else◌, ◌==◌}
use Rattle.std.specs.Simd.Lanes.{zip2, number_l, digits_l}
use Rattle.vex_emul.specs.declared.operation.Lane.{Lane}
use Rattle.vex_emul.specs.declared.operation.Lane.TheVariants.{Byte, Word, Doubleword, Quadword}

-- the number of bytes of a lane
abbrev pub size_of_lane : Lane → ℕ
size_of_lane Byte = 1
size_of_lane Word = 2
size_of_lane Doubleword = 4
size_of_lane Quadword = 8

-- the numbers of the first n lanes of k bytes each, which are little-endian (Intel SDM volume 1, section 1.3.1)
abbrev pub lanes : ℕ → ℕ → List ℕ → List ℕ
lanes k zero bytes = []
lanes k (suc n) bytes = number_l 256 (take k bytes) ∷ lanes k n (drop k bytes)

-- the bytes of lanes of k bytes each
abbrev pub bytes_of : ℕ → List ℕ → List ℕ
bytes_of k [] = []
bytes_of k (x ∷ xs) = digits_l 256 k x ++ bytes_of k xs

-- f of each two of n lanes of k bytes, as bytes
unfoldable pub lane_wise : (ℕ → ℕ → ℕ) → ℕ → ℕ → List ℕ → List ℕ → List ℕ
lane_wise f k n v e = bytes_of k (zip2 f (lanes k n v) (lanes k n e))

-- f of each two lanes of operands of n bytes; f is told how many bytes a lane has
abbrev pub by_lanes : (ℕ → ℕ → ℕ → ℕ) → Lane → ℕ → List ℕ → List ℕ → List ℕ
by_lanes f lane n v e = lane_wise (f (size_of_lane lane)) (size_of_lane lane) (n / size_of_lane lane) v e

-- the sum of two lanes of k bytes, modulo their range
abbrev pub sum_in : ℕ → ℕ → ℕ → ℕ
sum_in k x y = (x + y) % 256 ^ k

-- the first lane of k bytes less the second, modulo their range
abbrev pub difference_in : ℕ → ℕ → ℕ → ℕ
difference_in k x y = (x + (256 ^ k - y)) % 256 ^ k

-- a lane of k bytes FF where two are equal, and of bytes 0 elsewhere
abbrev pub equality_in : ℕ → ℕ → ℕ → ℕ
equality_in k x y = if x == y then 256 ^ k - 1 else 0

-- the bits that are set in the second byte and not in the first
abbrev pub and_not : ℕ → ℕ → ℕ
and_not x y = bit_and (255 - x) y
