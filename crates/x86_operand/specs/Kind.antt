use Rattle.std.specs.Prelude.{Bool, true, false, if◌then◌else◌}

-- what stands in the place of the operand that ModRM names: a register, an address in memory, a vector of addresses in
-- memory, or nothing, since there is no ModRM byte (Intel SDM volume 2, section 2.3.12)
pub data Kind : Type 0 where
  WithoutModRM : Kind
  InRegister : Kind
  InMemory : Kind
  VectorIndexed : Kind

-- whether an address of this kind has a vector register as its index
abbrev pub is_vector : Kind → Bool
is_vector WithoutModRM = false
is_vector InRegister = false
is_vector InMemory = false
is_vector VectorIndexed = true

-- the kind, whatever index an address of it has
abbrev pub plain_kind : Kind → Kind
plain_kind WithoutModRM = WithoutModRM
plain_kind InRegister = InRegister
plain_kind InMemory = InMemory
plain_kind VectorIndexed = InMemory

-- the kind of an address, by whether its index is a vector register
abbrev pub memory_kind : Bool → Kind
memory_kind vector = if vector then VectorIndexed else InMemory
