-- All that is known of a decode at once. Private functions alone cite what stands here.
use Rattle.std.specs.Prelude.{Bool, List, Result, Ok, Err}
use Rattle.x86_operand.specs.declared.error.DecodeError.{DecodeError}
use Rattle.x86_operand.specs.declared.note.FieldDescription.{FieldDescription}
use Rattle.x86_operand.specs.Meaning.{Decoded}
use Rattle.x86_reader.specs.Reader.{ReaderState}
use Rattle.x86_reader.specs.Sink.{SinkState}
use Rattle.vex_decode.specs.Decoding.{TakesInstruction, TakesBlocked, CompletesDecode, BlocksSlice, NotesTaken}

-- what was taken, by the answer
abbrev pub Took : List Bool → ReaderState → ReaderState → Result Decoded DecodeError → Type 0
Took settings old new (Ok decoded) = TakesInstruction settings old new decoded
Took settings old new (Err error) = TakesBlocked settings old new error × BlocksSlice settings old new error

pub record Decodes (settings : List Bool) (old new : ReaderState) (sink_old sink_new : SinkState FieldDescription)
    (result : Result Decoded DecodeError) : Type 0 where
  pub took : Took settings old new result
  pub complete : CompletesDecode settings old new result
  pub noted : NotesTaken old new sink_old sink_new
