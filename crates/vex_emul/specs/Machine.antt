-- The state of a machine, and the places in its memory.
use Rattle.std.specs.Prelude.{ℕ, ℤ, List, ◌+◌, ◌*◌, ◌%◌, ◌^◌, slice_index, replicate, Option, Some, None, option_map}
use Rattle.std.specs.Int.{cast_unsigned, w64}
use Rattle.x86_operand.specs.Register.{Register}
use Rattle.x86_operand.specs.declared.register.RegisterBank.{RegisterBank}
use Rattle.x86_operand.specs.declared.register.RegisterBank.TheVariants.{Q}
use Rattle.x86_operand.specs.declared.address.Address.{Address}
use Rattle.x86_operand.specs.declared.address.Index.{Index}

-- 16 vectors of 32 bytes, 16 numbers, and the memory
pub record State : Type 0 where
  pub vectors : List (List ℕ)
  pub q : List ℕ
  pub memory : List ℕ

-- all registers 0, and this memory
abbrev pub start_of : List ℕ → State
start_of memory = record { vectors = replicate 16 (replicate 32 0); q = replicate 16 0; memory = memory }

-- the number in a general register of 64 bits, and none for any other register
unfoldable pub general : List ℕ → RegisterBank → ℕ → Option ℕ
general q Q num = Some (slice_index q num)
general q _ num = None

-- what a base adds to a place, 0 where there is none; none where it isn't a general register
unfoldable pub base_part : List ℕ → Option Register → Option ℕ
base_part q None = Some 0
base_part q (Some r) = general q r.bank r.num

-- what an index adds to a place, 0 where there is none; none where it isn't a general register
unfoldable pub index_part : List ℕ → Option Index → Option ℕ
index_part q None = Some 0
index_part q (Some i) = option_map (λ n. n * i.scale) (general q i.reg.bank i.reg.num)

-- the sum of base, scaled index and displacement, modulo 2^64
abbrev pub sum_of : Option ℕ → Option ℕ → ℤ → Option ℕ
sum_of (Some base) (Some index) disp = Some ((base + index + cast_unsigned w64 disp) % 2 ^ 64)
sum_of _ _ disp = None

-- the place that an address means; none where base or index isn't a general register (Intel SDM volume 1, section
-- 3.7.5)
unfoldable pub place_of : List ℕ → Address → Option ℕ
place_of q a = sum_of (base_part q a.base) (index_part q a.index) a.disp
