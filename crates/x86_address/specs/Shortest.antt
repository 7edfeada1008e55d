pub mod Lemmas
use Rattle.std.specs.Prelude.{◌≡◌, ◌≢◌, ◌<◌, FitsSigned, ℕ, suc, ◌-◌, ◌/◌, ◌%◌, ◌^◌, ℤ, pos, negsuc, Bool, true, false, not}
use Rattle.std.specs.Prelude.{◌&&◌, ◌||◌, nat_lt, Option, Some, None, ◌==◌, if◌then◌else◌}
use Rattle.std.specs.Int.{w32}
use Rattle.x86_operand.specs.declared.register.RegisterBank.{RegisterBank}
use Rattle.x86_operand.specs.declared.register.RegisterBank.TheVariants.{Q, RIP}
use Rattle.x86_operand.specs.declared.address.Address.{Address}
use Rattle.x86_operand.specs.declared.address.Index.{Index}
use Rattle.x86_operand.specs.Register.{Register}
use Rattle.x86_address.specs.Bytes.{Displacement, Absent, Short, Long}
use Rattle.x86_address.specs.Place.{Place, NoPlace, Direct, Based, RipBased, Scaled, Baseless, Base, NoBase, Rip}
use Rattle.x86_address.specs.Place.{Numbered, PlainAddress, Target, NoTarget, Number, At}

-- the base that a register of this bank with this number is: the instruction pointer in bank RIP
abbrev pub base_in : RegisterBank → ℕ → Base
base_in RIP n = Rip
base_in _ n = Numbered n

-- the base of an address without its bank
abbrev pub plain_base : Option Register → Base
plain_base None = NoBase
plain_base (Some reg) = base_in reg.bank reg.num

-- the index of an address without its bank: the register's number, and the scale
abbrev pub plain_index : Option Index → Option (ℕ × ℕ)
plain_index None = None
plain_index (Some index) = Some (index.reg.num, index.scale)

-- an address without the banks of its registers
abbrev pub plain : Address → PlainAddress
plain a = record { base = plain_base a.base; index = plain_index a.index; disp = a.disp }

-- the register that a base is: none, the instruction pointer, or the one of bank Q with its number
abbrev pub base_register : Base → Option Register
base_register NoBase = None
base_register Rip = Some (record { bank = RIP; num = 0 })
base_register (Numbered n) = Some (record { bank = Q; num = n })

-- an index with its register in this bank
abbrev pub index_register : RegisterBank → Option (ℕ × ℕ) → Option Index
index_register bank None = None
index_register bank (Some index) = Some (record { reg = record { bank = bank; num = index.0 }; scale = index.1 })

-- an address with its base in bank Q or RIP, and its index in this bank
abbrev pub in_banks : RegisterBank → PlainAddress → Address
in_banks bank a = record { base = base_register a.base; index = index_register bank a.index; disp = a.disp }

-- the doubleword whose two's complement value is this number
abbrev pub doubleword_of : ℤ → ℕ
doubleword_of (pos n) = n % 2 ^ 32
doubleword_of (negsuc n) = (2 ^ 32 - 1 - n) % 2 ^ 32

-- the shortest displacement of a value, which is written even for 0 where it has to be: one byte where that many units
-- are the value
abbrev pub shortest_displacement : ℕ → Bool → ℤ → Displacement
shortest_displacement unit must (pos n) =
    if n == 0 && not must then Absent
    else if n % unit == 0 && nat_lt (n / unit) 128 then Short (n / unit) else Long (doubleword_of (pos n))
shortest_displacement unit must (negsuc n) =
    if suc n % unit == 0 && nat_lt (suc n / unit) 129 then Short (256 - suc n / unit)
    else Long (doubleword_of (negsuc n))

-- the exponent k of a scale 2 to the power k, for the scales 1, 2, 4 and 8
abbrev pub exponent_of : ℕ → ℕ
exponent_of scale = if scale == 8 then 3 else if scale == 4 then 2 else if scale == 2 then 1 else 0

-- the exponent in SIB for an index, and 0 for none
abbrev pub exponent_field : Option (ℕ × ℕ) → ℕ
exponent_field None = 0
exponent_field (Some index) = exponent_of index.1

-- the index field of SIB for an index, and 4 for none
abbrev pub index_field : Option (ℕ × ℕ) → ℕ
index_field None = 4
index_field (Some index) = index.0 % 8

-- whether an index is there
abbrev pub has_index : Option (ℕ × ℕ) → Bool
has_index None = false
has_index (Some index) = true

-- a base register has a SIB byte only where there is an index, or its low three bits are 4
abbrev pub place_of_numbered : ℕ → ℕ → Option (ℕ × ℕ) → ℤ → Place
place_of_numbered unit n index disp =
    if has_index index || n % 8 == 4
    then Scaled (exponent_field index) (index_field index) (n % 8) (shortest_displacement unit (n % 8 == 5) disp)
    else Based (n % 8) (shortest_displacement unit (n % 8 == 5) disp)

-- the least place that can name the address with this base, index and displacement, where a place can
abbrev pub place_of_base : ℕ → Base → Option (ℕ × ℕ) → ℤ → Place
place_of_base unit NoBase index disp = Baseless (exponent_field index) (index_field index) (doubleword_of disp)
place_of_base unit Rip index disp = RipBased (doubleword_of disp)
place_of_base unit (Numbered n) index disp = place_of_numbered unit n index disp

-- the least place that can name this target, with a displacement of one byte in units; where no place does, some other
-- place
unfoldable pub shortest_in : ℕ → Target → Place
shortest_in unit NoTarget = NoPlace
shortest_in unit (Number n) = Direct (n % 8)
shortest_in unit (At a) = place_of_base unit a.base a.index a.disp

-- in units of 1
abbrev pub shortest : Target → Place
shortest e = shortest_in 1 e

-- whether bit 3 of a number is set, which a prefix bit says
abbrev pub is_upper : ℕ → Bool
is_upper n = (n / 8) % 2 == 1

-- the bit X that the index demands, and false where there is none
abbrev pub x_of_index : Option (ℕ × ℕ) → Bool
x_of_index None = false
x_of_index (Some index) = is_upper index.0

-- the bit B that the base demands, and false where it demands none
abbrev pub b_of_base : Base → Bool
b_of_base NoBase = false
b_of_base Rip = false
b_of_base (Numbered n) = is_upper n

-- the bit X that a target demands, and false where it demands none
abbrev pub x_of : Target → Bool
x_of NoTarget = false
x_of (Number n) = false
x_of (At a) = x_of_index a.index

-- the bit B that a target demands, and false where it demands none
abbrev pub b_of : Target → Bool
b_of NoTarget = false
b_of (Number n) = is_upper n
b_of (At a) = b_of_base a.base

-- a number of a base register is at most 15
abbrev pub IsBase : Base → Type 0
IsBase NoBase = Unit {0}
IsBase Rip = Unit {0}
IsBase (Numbered n) = n < 16

-- the number 4 is an index where it is that of a vector register
abbrev pub MayBeIndex : Bool → ℕ → Type 0
MayBeIndex false n = n ≢ 4
MayBeIndex true n = Unit {0}

-- a vector register has to be there; the number of an index is at most 15, and 4 only of a vector register, and its
-- scale is 1, 2, 4 or 8
abbrev pub IsIndex : Bool → Option (ℕ × ℕ) → Type 0
IsIndex vector None = vector ≡ false
IsIndex vector (Some index) =
    (index.0 < 16) × MayBeIndex vector index.0 × (exponent : ℕ) × (exponent < 4) × (index.1 ≡ 2 ^ exponent)

-- an address that bytes can name: base and index in range, a displacement of 32 bits, and no index beside the
-- instruction pointer
pub record IsSpellableAddress (vector : Bool) (a : PlainAddress) : Type 0 where
  pub base : IsBase a.base
  pub index : IsIndex vector a.index
  pub disp : FitsSigned w32 a.disp
  pub alone : a.base ≡ Rip → a.index ≡ None

-- what bytes can name, by whether an index is a vector register: a register's number is at most 15
abbrev pub IsSpellable : Bool → Target → Type 0
IsSpellable vector NoTarget = Unit {0}
IsSpellable vector (Number n) = n < 16
IsSpellable vector (At a) = IsSpellableAddress vector a
