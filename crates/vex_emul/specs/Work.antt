-- What an instruction does to a state.
use Rattle.std.specs.Prelude.{ℕ, Bool, List, [], ◌++◌, length, take, ◌+◌, ◌-◌, ◌<◌, slice_index_or, slice_set}
use Rattle.std.specs.Prelude.{replicate, map, Option, Some, None, if◌then◌else◌, nat_le}
use Rattle.std.specs.Simd.Lanes.{chunk, put_chunk}
use Rattle.vex_emul.specs.Machine.{State}
use Rattle.vex_emul.specs.Operation.{result_of}
use Rattle.vex_emul.specs.declared.operation.Operation.{Operation}
use Rattle.vex_emul.specs.declared.work.Location.{Location}
use Rattle.vex_emul.specs.declared.work.Location.TheVariants.{Vector, Memory}
use Rattle.vex_emul.specs.declared.work.Work.{Work}
use Rattle.vex_emul.specs.declared.work.Work.TheVariants.{Combine, Move, ZeroUpper, ZeroAll}

-- the number of bytes of an operand
abbrev pub size_of : Bool → ℕ
size_of wide = if wide then 32 else 16

-- the low n bytes of a vector
abbrev pub low : State → ℕ → ℕ → List ℕ
low s n i = take n (slice_index_or s.vectors i [])

-- the n bytes at a location, unless they are in memory and don't lie wholly there
unfoldable pub fetched : State → ℕ → Location → Option (List ℕ)
fetched s n (Vector i) = Some (low s n i)
fetched s n (Memory at) = if nat_le (at + n) (length s.memory) then Some (chunk at n s.memory) else None

-- a vector gets these n bytes and then zeros (Intel SDM volume 2, section 2.3.10.1)
abbrev pub with_vector : State → ℕ → ℕ → List ℕ → State
with_vector s n i bytes = record s { vectors = slice_set s.vectors i (bytes ++ replicate (32 - n) 0) }

-- the location gets these n bytes, unless they go to memory and don't lie wholly there
unfoldable pub stored : State → ℕ → Location → List ℕ → Option State
stored s n (Vector i) bytes = Some (with_vector s n i bytes)
stored s n (Memory at) bytes =
    if nat_le (at + n) (length s.memory) then Some (record s { memory = put_chunk at s.memory bytes }) else None

-- a vector whose bytes from 16 on are 0 (Intel SDM volume 2, VZEROUPPER)
abbrev pub upper_cleared : List ℕ → List ℕ
upper_cleared v = take 16 v ++ replicate 16 0

-- f of what is there
abbrev pub and_then : {A B : Type 0} → Option A → (A → Option B) → Option B
and_then None f = None
and_then (Some a) f = f a

-- the state after an operation on the low n bytes of a vector and n bytes at a location
unfoldable pub combined : State → Operation → ℕ → ℕ → ℕ → Location → Option State
combined s operation n dest first second =
    and_then (fetched s n second) (λ e. Some (with_vector s n dest (result_of operation n (low s n first) e)))

-- the state after a copy of n bytes
unfoldable pub moved : State → ℕ → Location → Location → Option State
moved s n dest source = and_then (fetched s n source) (λ bytes. stored s n dest bytes)

-- the state after an instruction, and none where an operand in memory doesn't lie wholly there
abbrev pub after : State → Work → Option State
after s (Combine operation wide dest first second) = combined s operation (size_of wide) dest first second
after s (Move wide dest source) = moved s (size_of wide) dest source
after s ZeroUpper = Some (record s { vectors = map upper_cleared s.vectors })
after s ZeroAll = Some (record s { vectors = replicate 16 (replicate 32 0) })

-- the machine has the vector of a location
abbrev pub IsLocation : Location → Type 0
IsLocation (Vector i) = i < 16
IsLocation (Memory at) = Unit {0}

-- the machine has the vectors of an instruction
abbrev pub IsWork : Work → Type 0
IsWork (Combine operation wide dest first second) = (dest < 16) × (first < 16) × IsLocation second
IsWork (Move wide dest source) = IsLocation dest × IsLocation source
IsWork ZeroUpper = Unit {0}
IsWork ZeroAll = Unit {0}
