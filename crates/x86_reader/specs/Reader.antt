-- What a reader shows of itself, and what it is to take bytes from it.
pub mod Lemmas
use Rattle.std.specs.Prelude.{◌≡◌, ℕ, ◌+◌, ◌-◌, ◌^◌, ◌<◌, ◌≤◌, ◌⊎◌, List, length, Option, All}
use Rattle.std.specs.Io.KnownBytes.{prepend_known}

-- what a reader shows: the bytes left, where it tells them; how many it has taken since it was made, and since its last
-- mark; its count of refusals
pub record ReaderState : Type 0 where
  pub left : Option (List ℕ)
  pub total : ℕ
  pub since_mark : ℕ
  pub refusals : ℕ

-- the last value of a count of refusals, the greatest `u64`, at which it stands still
abbrev pub last_count : ℕ
last_count = 2 ^ 64 - 1

-- a number that is a byte
abbrev pub IsByte : ℕ → Type 0
IsByte n = n < 2 ^ 8

-- the state after a mark: the number of bytes since the mark is 0, and all else is as before
abbrev pub marked : ReaderState → ReaderState
marked s = record s { since_mark = 0 }

-- nothing but the count of refusals has changed
pub record ChangesOnlyCount (old new : ReaderState) : Type 0 where
  pub left : new.left ≡ old.left
  pub total : new.total ≡ old.total
  pub since_mark : new.since_mark ≡ old.since_mark

-- the count of refusals didn't fall, and it rose or stands at its last value
abbrev pub CountsRefusal : ReaderState → ReaderState → Type 0
CountsRefusal old new = (old.refusals ≤ new.refusals) × ((old.refusals < new.refusals) ⊎ (new.refusals ≡ last_count))

-- the reader went past these bytes and no others: both numbers rose by how many they are, and where it tells its bytes,
-- they stood first and the rest is left
pub record Passes (old new : ReaderState) (bytes : List ℕ) : Type 0 where
  pub each : All IsByte bytes
  pub left : old.left ≡ prepend_known bytes new.left
  pub total : new.total ≡ old.total + length bytes
  pub since_mark : new.since_mark ≡ old.since_mark + length bytes

-- the reader gave these bytes, and refused none
pub record Takes (old new : ReaderState) (bytes : List ℕ) : Type 0 where
  pub passes : Passes old new bytes
  pub uncounted : new.refusals ≡ old.refusals

-- the reader gave these bytes, and then refused one
pub record Stops (old new : ReaderState) (bytes : List ℕ) : Type 0 where
  pub passes : Passes old new bytes
  pub counted : CountsRefusal old new
