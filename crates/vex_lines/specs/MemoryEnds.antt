-- What contracts see of a source and of a sink in memory.
use Rattle.std.specs.Prelude.{ℕ, ◌-◌, min, List, ◌++◌, length, drop}
use Rattle.vex_lines.specs.Ends.{counted}

-- a source in memory: the bytes left, the most that a read gives, the numbers of the reads that fail,
-- the number of the next read, and the numbers of bytes given and of faults
pub record MemSourceView : Type 0 where
  pub left : List ℕ
  pub step : ℕ
  pub failing : List ℕ
  pub call : ℕ
  pub given : ℕ
  pub faults : ℕ

-- how many bytes a read into n places gives
abbrev pub read_len : MemSourceView → ℕ → ℕ
read_len s n = min s.step (min n (length s.left))

-- the source after a read that gave n bytes
abbrev pub after_read : MemSourceView → ℕ → MemSourceView
after_read s n = record s { left = drop n s.left; call = counted s.call 1; given = counted s.given n }

-- the source after a read that failed
abbrev pub after_read_fault : MemSourceView → MemSourceView
after_read_fault s = record s { call = counted s.call 1; faults = counted s.faults 1 }

-- a sink in memory: the bytes written, how many more it can hold, the numbers of the writes that fail,
-- the number of the next write, and the number of faults
pub record MemSinkView : Type 0 where
  pub written : List ℕ
  pub room : ℕ
  pub failing : List ℕ
  pub call : ℕ
  pub faults : ℕ

-- the sink with these bytes after those that it holds
abbrev pub with_written : MemSinkView → List ℕ → MemSinkView
with_written s bytes = record s { written = s.written ++ bytes; room = s.room - length bytes }

-- the sink after a write of the whole piece
abbrev pub after_write : MemSinkView → List ℕ → MemSinkView
after_write s piece = record (with_written s piece) { call = counted s.call 1 }

-- the sink after a write that failed, and wrote this front of its piece
abbrev pub after_write_fault : MemSinkView → List ℕ → MemSinkView
after_write_fault s front = record (after_write s front) { faults = counted s.faults 1 }
