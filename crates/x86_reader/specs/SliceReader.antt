-- What the readers of a slice are to their callers.
use Rattle.std.specs.Prelude.{◌≡◌, ◌≢◌, ◌⊎◌, ℕ, List, [], ◌∷◌, Some, Contains}
use Rattle.x86_reader.specs.Reader.{ReaderState, Stops}

-- a `U8Reader`: the bytes left, how many it has taken since it was made, and since its last mark, and how often it has
-- refused
pub record SliceReader : Type 0 where
  pub left : List ℕ
  pub total : ℕ
  pub since_mark : ℕ
  pub refusals : ℕ

-- the count of a reader that refuses only where no byte is left: 0 until then
abbrev pub count_at_end : List ℕ → ℕ → ℕ
count_at_end [] refusals = refusals
count_at_end (byte ∷ bytes) refusals = 0

-- what a `U8Reader` shows of itself: it tells the bytes left
abbrev pub slice_state : SliceReader → ReaderState
slice_state r = record {
  left = Some r.left;
  total = r.total;
  since_mark = r.since_mark;
  refusals = count_at_end r.left r.refusals;
}

-- a `U8Reader` whose count isn't 0 has no byte left
abbrev pub RefusesAtEnd : Type 0
RefusesAtEnd = (r : SliceReader) → (slice_state r).refusals ≢ 0 → r.left ≡ []

-- where a `U8Reader` gave bytes and then refused one, they were all that were left
abbrev pub StopsAtEnd : Type 0
StopsAtEnd = (old new : SliceReader) (bytes : List ℕ) → Stops (slice_state old) (slice_state new) bytes
    → (old.left ≡ bytes) × (new.left ≡ [])

-- a `FailReader`: what a `U8Reader` is, how many calls of `next` there were, and which of them are to fail
pub record FailingReader : Type 0 where
  pub left : List ℕ
  pub total : ℕ
  pub since_mark : ℕ
  pub refusals : ℕ
  pub calls : ℕ
  pub failing : List ℕ

-- what a `FailReader` shows of itself: it tells the bytes left
abbrev pub failing_state : FailingReader → ReaderState
failing_state r = record {
  left = Some r.left;
  total = r.total;
  since_mark = r.since_mark;
  refusals = r.refusals;
}

-- the number of the next call is one that is to fail, or no byte is left
abbrev pub RefusesNext : FailingReader → Type 0
RefusesNext r = Contains r.failing r.calls ⊎ (r.left ≡ [])
