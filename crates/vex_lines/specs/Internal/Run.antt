-- What a run did, by its status, whatever a line gives.
use Rattle.std.specs.Prelude.{◌≡◌, ℕ, ◌+◌, ◌<◌, ◌≤◌, List, length, take, flat_map, Option}
use Rattle.std.specs.Io.KnownBytes.{Appends, Consumes, IsAtEnd}
use Rattle.vex_lines.specs.declared.status.Status.{Status}
use Rattle.vex_lines.specs.declared.status.Status.TheVariants.{Done, ReadFault, Usage, WriteFault, NoMemory, TooLong}
use Rattle.vex_lines.specs.Ends.{AppendsFront, RoseOrIsLast, counted}
use Rattle.vex_lines.specs.Lines.{input_limit, lines, whole, AnsweredBefore}

-- what the two ends of a run tell at one moment
pub record Moment : Type 0 where
  pub left : Option (List ℕ)
  pub given : ℕ
  pub source_faults : ℕ
  pub text : Option (List ℕ)
  pub sink_faults : ℕ

-- all was read and written, and no call failed
pub record Finished (f : List ℕ → List ℕ) (bytes : List ℕ) (before after : Moment) : Type 0 where
  pub within : length bytes ≤ input_limit
  pub at_end : IsAtEnd after.left
  pub written : Appends before.text after.text (flat_map f (lines bytes))
  pub source_quiet : after.source_faults ≡ before.source_faults
  pub sink_quiet : after.sink_faults ≡ before.sink_faults

-- a read failed once the whole lines were answered
pub record FailedReading (f : List ℕ → List ℕ) (bytes : List ℕ) (before after : Moment) : Type 0 where
  pub within : length bytes ≤ input_limit
  pub written : Appends before.text after.text (flat_map f (lines (whole bytes)))
  pub cause : RoseOrIsLast before.source_faults after.source_faults
  pub sink_quiet : after.sink_faults ≡ before.sink_faults

-- a write failed
pub record FailedWriting (f : List ℕ → List ℕ) (bytes : List ℕ) (before after : Moment) : Type 0 where
  pub within : length bytes ≤ input_limit
  pub written : AppendsFront before.text after.text (flat_map f (lines bytes))
  pub source_quiet : after.source_faults ≡ before.source_faults
  pub cause : RoseOrIsLast before.sink_faults after.sink_faults

-- there was no memory for a line, once those before it were answered
pub record FailedAllocating (f : List ℕ → List ℕ) (P : List ℕ → Type 0) (bytes : List ℕ) (before after : Moment) : Type
    0 where
  pub within : length bytes ≤ input_limit
  pub answered : AnsweredBefore f P bytes before.text after.text
  pub source_quiet : after.source_faults ≡ before.source_faults
  pub sink_quiet : after.sink_faults ≡ before.sink_faults

-- one byte came past the limit, once the whole lines up to it were answered
pub record PassedLimit (f : List ℕ → List ℕ) (bytes : List ℕ) (before after : Moment) : Type 0 where
  pub past : length bytes ≡ input_limit + 1
  pub written : Appends before.text after.text (flat_map f (lines (whole (take input_limit bytes))))
  pub source_quiet : after.source_faults ≡ before.source_faults
  pub sink_quiet : after.sink_faults ≡ before.sink_faults

-- how a run over lines ends
abbrev pub EndsBy : Status → (List ℕ → List ℕ) → (List ℕ → Type 0) → List ℕ → Moment → Moment → Type 0
EndsBy Done f P bytes before after = Finished f bytes before after
EndsBy ReadFault f P bytes before after = FailedReading f bytes before after
EndsBy WriteFault f P bytes before after = FailedWriting f bytes before after
EndsBy NoMemory f P bytes before after = FailedAllocating f P bytes before after
EndsBy TooLong f P bytes before after = PassedLimit f bytes before after
EndsBy Usage f P bytes before after = ⊥

-- a run over lines took these bytes, and ended by this status; a line of which P holds may have lacked memory
pub record Ran (f : List ℕ → List ℕ) (P : List ℕ → Type 0) (status : Status) (before after : Moment) : Type 0 where
  pub bytes : List ℕ
  pub taken : Consumes before.left after.left bytes
  pub number : 0 < length bytes → after.given ≡ counted before.given (length bytes)
  pub at_most : after.given ≤ before.given + length bytes
  pub ends : EndsBy status f P bytes before after
