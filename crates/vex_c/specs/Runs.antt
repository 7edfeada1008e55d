-- What a run of instructions answers.
use Rattle.std.specs.Prelude.{◌≡◌, ℕ, Bool, List, ◌++◌, length, map, take, drop, nat_lt, if◌then◌else◌, Some, None}
use Rattle.vex_encode.specs.Sweep.{Swept, SweptItem, joined, swept}
use Rattle.vex_encode.specs.declared.sweeper.SweepEnd.{SweepEnd}
use Rattle.vex_encode.specs.declared.sweeper.SweepEnd.TheVariants.{End, Stopped}
use Rattle.vex_check.specs.declared.needs.RunCause.{RunCause}
use Rattle.vex_check.specs.declared.needs.RunCause.TheVariants.{Blocked, Marked}
use Rattle.vex_check.specs.declared.needs.RunFault.{RunFault}
use Rattle.vex_check.specs.Accepted.{EndsWhereCovered}
use Rattle.vex_check.specs.Needs.{all_needed, fault, run}
use Rattle.vex_calls.specs.declared.call_error.CallError.TheVariants as call
use Rattle.vex_calls.specs.declared.flat_instruction.FlatInstruction.{FlatInstruction}
use Rattle.vex_calls.specs.declared.flat_settings.FlatSettings.{FlatSettings}
use Rattle.vex_calls.specs.Errors.{decode_error, error_number}
use Rattle.vex_calls.specs.Instructions.{flat_instruction}
use Rattle.vex_calls.specs.Settings.{settings_of}
use Rattle.vex_c.specs.declared.runs.Taken.{Taken}

-- an instruction of a sweep, flat
abbrev pub flat_item : SweptItem → FlatInstruction
flat_item item = flat_instruction item.decoded

-- the number of what a sweep ends by, 0 where no byte is left
abbrev pub end_number : SweepEnd → ℕ
end_number End = 0
end_number (Stopped place error) = error_number (decode_error error)

-- what is answered for a sweep into so many places: 0 where they are full, and else by its end
abbrev pub run_number : ℕ → Swept → ℕ
run_number room swept = if nat_lt (length swept.items) room then end_number swept.end else 0

-- the places hold the instructions of a sweep in order, as many as there are or fit, and are as they were behind them;
-- how many instructions and bytes that are is told
pub record HoldsRun (settings : List Bool) (code : List ℕ) (old new : List FlatInstruction) (taken : Taken) (answer : ℕ)
    : Type 0 where
  pub held : let items = take (length old) (swept settings code).items in
      new ≡ map flat_item items ++ drop (length items) old
  pub instructions : taken.instructions ≡ length (take (length old) (swept settings code).items)
  pub bytes : taken.bytes ≡ length (joined (take (length old) (swept settings code).items))
  pub number : answer ≡ run_number (length old) (swept settings code)

-- the struct holds the settings that the instructions of a run need: a sweep under others ends after all bytes exactly
-- where they have all these
pub record HoldsNeeded (bytes : List ℕ) (settings : FlatSettings) : Type 0 where
  pub faultless : fault (run bytes) ≡ None
  pub held : settings_of settings ≡ all_needed (run bytes).items
  pub enough : EndsWhereCovered bytes (settings_of settings)

-- the number of why a run has no least settings
abbrev pub cause_number : RunCause → ℕ
cause_number (Blocked error) = error_number (decode_error error)
cause_number Marked = error_number call.Marked

-- the answer is the number of a run's fault
pub record AnswersFault (bytes : List ℕ) (answer : ℕ) : Type 0 where
  pub first : RunFault
  pub is_fault : fault (run bytes) ≡ Some first
  pub number : answer ≡ cause_number first.cause
