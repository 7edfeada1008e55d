pub mod Lemmas
use Rattle.std.specs.Prelude.{◌≡◌, ◌⊎◌, ℕ, ◌+◌, ◌*◌, ◌^◌, ◌<◌, Bool, false, List, ◌∷◌, Option, Some, None}
use Rattle.x86_operand.specs.declared.register.RegisterBank.{RegisterBank}
use Rattle.x86_operand.specs.declared.register.RegisterBank.TheVariants.{Q, D, X, Y, Z, RIP}
use Rattle.x86_operand.specs.declared.address.Address.{Address}
use Rattle.x86_operand.specs.declared.address.Index.{Index}
use Rattle.x86_operand.specs.Register.{Register}
use Rattle.x86_operand.specs.Kind.{Kind}
use Rattle.x86_address.specs.Place.{Place, place_bytes, PlainAddress, At, SpellsTargetIn}
use Rattle.x86_address.specs.Shortest.{in_banks, MayBeIndex}

-- the bytes spell this address of a kind in memory, with this reg field and these bits X and B, and a displacement of
-- one byte in units: its base is in bank Q or RIP, and its index in bank Q
pub record SpellsAddressIn (unit : ℕ) (bytes : List ℕ) (kind : Kind) (reg : ℕ) (x b : Bool) (address : Address) : Type 0
  where
    pub plain_address : PlainAddress
    pub spells : SpellsTargetIn unit bytes kind reg x b (At plain_address)
    pub banks : address ≡ in_banks Q plain_address

-- in units of 1
abbrev pub SpellsAddress : List ℕ → Kind → ℕ → Bool → Bool → Address → Type 0
SpellsAddress bytes kind reg x b address = SpellsAddressIn 1 bytes kind reg x b address

-- the base is of bank Q, or the instruction pointer with no index beside it
abbrev pub BankFits : RegisterBank → Option Index → Type 0
BankFits Q index = Unit {0}
BankFits D index = ⊥
BankFits X index = ⊥
BankFits Y index = ⊥
BankFits Z index = ⊥
BankFits RIP index = index ≡ None

-- there is no base, or one that fits
abbrev pub BaseFits : Option Register → Option Index → Type 0
BaseFits None index = Unit {0}
BaseFits (Some base) index = BankFits base.bank index

-- a scale that SIB can say
abbrev pub IsScale : ℕ → Type 0
IsScale scale = (scale ≡ 1) ⊎ ((scale ≡ 2) ⊎ ((scale ≡ 4) ⊎ (scale ≡ 8)))

-- a number is 2 to the power 0, 1, 2 or 3
abbrev pub IsPower : ℕ → Type 0
IsPower n = (exponent : ℕ) × (exponent < 4) × (n ≡ 2 ^ exponent)

-- there is no index, but where a vector register has to be; or there is one of bank Q with a number and a scale that
-- SIB can say
abbrev pub IndexFits : Bool → Option Index → Type 0
IndexFits vector None = vector ≡ false
IndexFits vector (Some index) = (index.reg.bank ≡ Q) × MayBeIndex vector index.reg.num × IsScale index.scale

-- the bytes of a place in memory begin with ModRM, whose field reg is 0: with another field it is 8 times that field
-- more, and still below C0 hex
pub record HasModRM (bytes : List ℕ) (place : Place) : Type 0 where
  pub modrm : ℕ
  pub rest : List ℕ
  pub written : bytes ≡ modrm ∷ rest
  pub with_reg : (reg : ℕ) → place_bytes reg place ≡ (modrm + 8 * reg) ∷ rest
  pub below : (reg : ℕ) → reg < 8 → modrm + 8 * reg < 0xC0
