-- Bytes of an instruction as callers from other languages see them.
use Rattle.std.specs.Prelude.{ℕ, List, ◌++◌, ◌-◌, Option, Some, None, nat_le, length, replicate, take, if◌then◌else◌}
use Rattle.vex_calls.specs.declared.flat_bytes.FlatBytes.{FlatBytes}

-- bytes, flat: how many they are, and 15 places, those behind the bytes with 0
abbrev pub flat_bytes : List ℕ → FlatBytes
flat_bytes bytes = record { length = length bytes; bytes = bytes ++ replicate (15 - length bytes) 0 }

-- the bytes of flat ones, none where the count is above 15; the places past the count play no part
abbrev pub bytes_of : FlatBytes → Option (List ℕ)
bytes_of flat = if nat_le flat.length 15 then Some (take flat.length flat.bytes) else None
