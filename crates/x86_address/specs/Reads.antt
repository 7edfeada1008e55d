-- What an address that was read is, and what bytes are that were cut short.
use Rattle.std.specs.Prelude.{◌≡◌, ◌≢◌, ◌≤◌, ◌/◌, ◌%◌, ℕ, Bool, List, [], ◌∷◌, ◌++◌, length}
use Rattle.x86_operand.specs.Kind.{Kind}
use Rattle.x86_operand.specs.declared.address.Address.{Address}
use Rattle.x86_operand.specs.declared.register.RegisterBank.TheVariants.{Q}
use Rattle.x86_reader.specs.Reader.{ReaderState, Takes, Stops}
use Rattle.x86_address.specs.Place.{Place, Target, At, target, SpellsTarget}
use Rattle.x86_address.specs.Shortest.{plain, in_banks}
use Rattle.x86_address.specs.Spells.{SpellsAddress}

-- this place names this address, by whether its index is a vector register, its base in bank Q or RIP and its index in
-- bank Q
pub record NamesAddress (vector x b : Bool) (place : Place) (address : Address) : Type 0 where
  pub names : target vector place x b ≡ At (plain address)
  pub banks : address ≡ in_banks Q (plain address)

-- ModRM and the bytes that the reader gave, at most five, spell this address of that kind
pub record SpelledBy (kind : Kind) (modrm : ℕ) (x b : Bool) (address : Address) (old new : ReaderState) : Type 0 where
  pub bytes : List ℕ
  pub takes : Takes old new bytes
  pub most : length bytes ≤ 5
  pub spells : SpellsAddress (modrm ∷ bytes) kind ((modrm / 8) % 8) x b address

-- the reader gave at most four of the bytes that follow ModRM in some spelling of an address of that kind with these
-- bits
-- X and B, and fewer than follow it in whatever bytes begin so and spell anything
pub record CutShort (kind : Kind) (modrm : ℕ) (x b : Bool) (old new : ReaderState) : Type 0 where
  pub bytes : List ℕ
  pub stops : Stops old new bytes
  pub most : length bytes ≤ 4
  pub missing : List ℕ
  pub address : Address
  pub spells : SpellsAddress (modrm ∷ (bytes ++ missing)) kind ((modrm / 8) % 8) x b address
  pub fewer : (rest : List ℕ) (other : Kind) (reg : ℕ) (other_x other_b : Bool) (e : Target)
      → SpellsTarget (modrm ∷ (bytes ++ rest)) other reg other_x other_b e → rest ≢ []
