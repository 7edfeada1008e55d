-- Where the opcode of a name stands, by a hash. Of this crate private functions alone cite it, and no public contract;
-- of vex_asm the definition of a text's meaning (opcode_of) does.
pub mod Lemmas
use Rattle.std.specs.Prelude.{ℕ, ◌+◌, ◌*◌, ◌/◌, ◌%◌, List, [], ◌∷◌, slice_index_or}
use Rattle.x86_opcode.specs.declared.slots.TheConstants.{SHIFTS, SLOTS}
use Rattle.x86_opcode.specs.declared.Opcode.{Opcode}
use Rattle.x86_opcode.specs.declared.Opcode.TheVariants.{Invalid}

-- the hash of a name, from the hash of its front
abbrev pub hash_on : ℕ → List ℕ → ℕ
hash_on sum [] = sum
hash_on sum (byte ∷ bytes) = hash_on ((sum * 35 + byte) % 1048576) bytes

-- the hash of a name
abbrev pub hash : List ℕ → ℕ
hash name = hash_on 0 name

-- how far the names of a bucket are moved on
unfoldable pub shift_at : ℕ → ℕ
shift_at bucket = slice_index_or SHIFTS bucket 0

-- the slot to which a name leads
unfoldable pub slot : List ℕ → ℕ
slot name = (hash name / 256 + shift_at (hash name % 256)) % 768

-- the opcode on a slot
unfoldable pub opcode_at : ℕ → Opcode
opcode_at i = slice_index_or SLOTS i Invalid
