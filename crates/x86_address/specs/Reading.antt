pub mod Lemmas
pub mod Places
use Rattle.std.specs.Prelude.{ℕ, ◌+◌, ◌*◌, ◌/◌, ◌%◌, ◌&&◌, ◌==◌, List, [], ◌∷◌, Result, Ok, Err, if◌then◌else◌}
use Rattle.x86_operand.specs.declared.error.DecodeError.{DecodeError}
use Rattle.x86_operand.specs.declared.error.DecodeError.TheVariants.{ExhaustedInput}
use Rattle.x86_address.specs.Bytes.{Displacement, Absent, Short, Long}
use Rattle.x86_address.specs.Place.{Place, Direct, Based, RipBased, Scaled, Baseless}

-- what a step answers: a value and the bytes that are left, or an error and the bytes that are left
abbrev pub Reading : Type 0 → Type 0
Reading A = Result (A × List ℕ) (DecodeError × List ℕ)

-- one step after another: the first that fails gives the error
infixl 10 ◌>>=◌
abbrev pub ◌>>=◌ : {A B : Type 0} → Reading A → (A × List ℕ → Reading B) → Reading B
(Ok read) >>= next = next read
(Err error) >>= next = Err error

-- a byte is taken, or there is none
abbrev pub take_byte : List ℕ → Reading ℕ
take_byte [] = Err (ExhaustedInput, [])
take_byte (byte ∷ rest) = Ok (byte, rest)

-- a doubleword, its lowest byte first
abbrev pub take_doubleword : List ℕ → Reading ℕ
take_doubleword bytes = do
  a ← take_byte bytes
  b ← take_byte a.1
  c ← take_byte b.1
  d ← take_byte c.1
  Ok (a.0 + 256 * b.0 + 65536 * c.0 + 16777216 * d.0, d.1)

-- a displacement of one byte
abbrev pub take_short : List ℕ → Reading Displacement
take_short bytes = do
  n ← take_byte bytes
  Ok (Short n.0, n.1)

-- a displacement of four bytes
abbrev pub take_long : List ℕ → Reading Displacement
take_long bytes = do
  n ← take_doubleword bytes
  Ok (Long n.0, n.1)

-- a displacement as long as the field mod says
abbrev pub take_displacement : ℕ → List ℕ → Reading Displacement
take_displacement mode bytes = if mode == 0 then Ok (Absent, bytes) else if mode == 1 then take_short bytes else
    take_long bytes

-- what follows SIB where it names no base: a displacement of four bytes
abbrev pub take_baseless : ℕ → List ℕ → Reading Place
take_baseless sib bytes = do
  n ← take_doubleword bytes
  Ok (Baseless (sib / 64) ((sib / 8) % 8) n.0, n.1)

-- what follows SIB where it names a base: a displacement as long as mod says
abbrev pub take_scaled : ℕ → ℕ → List ℕ → Reading Place
take_scaled mode sib bytes = do
  d ← take_displacement mode bytes
  Ok (Scaled (sib / 64) ((sib / 8) % 8) (sib % 8) d.0, d.1)

-- an address by SIB, which names no base where mod is 0 and its base field 5
abbrev pub take_sib : ℕ → List ℕ → Reading Place
take_sib mode bytes = do
  sib ← take_byte bytes
  if mode == 0 && sib.0 % 8 == 5 then take_baseless sib.0 sib.1 else take_scaled mode sib.0 sib.1

-- an address from the instruction pointer: a displacement of four bytes
abbrev pub take_rip_based : List ℕ → Reading Place
take_rip_based bytes = do
  n ← take_doubleword bytes
  Ok (RipBased n.0, n.1)

-- an address from the base register that rm names: a displacement as long as mod says
abbrev pub take_based : ℕ → ℕ → List ℕ → Reading Place
take_based mode rm bytes = do
  d ← take_displacement mode bytes
  Ok (Based rm d.0, d.1)

-- SIB and displacement; nothing with mod 3
abbrev pub take_place : ℕ → ℕ → List ℕ → Reading Place
take_place mode rm bytes =
    if mode == 3 then Ok (Direct rm, bytes)
    else if rm == 4 then take_sib mode bytes
    else if mode == 0 && rm == 5 then take_rip_based bytes
    else take_based mode rm bytes
