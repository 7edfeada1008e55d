-- A run of code from its front, one instruction after another.
use Rattle.std.specs.Prelude.{ℕ, zero, suc, Bool, List, [], ◌∷◌, ◌+◌, ◌-◌, Option, Some, None, Result, Ok, Err, codes}
use Rattle.x86_operand.specs.declared.error.DecodeError.{DecodeError}
use Rattle.x86_operand.specs.Errors.{decode_error_name}
use Rattle.x86_operand.specs.Meaning.{Decoded}
use Rattle.vex_decode.specs.Decode.{decode}
use Rattle.vex_emul.specs.Machine.{State}
use Rattle.vex_emul.specs.Work.{after}
use Rattle.vex_emul.specs.Subset.{work_of}
use Rattle.vex_emul.specs.declared.work.Work.{Work}
use Rattle.vex_emul.specs.declared.run.Halt.{Halt}
use Rattle.vex_emul.specs.declared.run.HaltCause.{HaltCause}
use Rattle.vex_emul.specs.declared.run.HaltCause.TheVariants.{Blocked, Unsupported, BadAddress}

-- the name of a cause: that of the decoder's error, or its own
abbrev pub cause_name : HaltCause → List ℕ
cause_name (Blocked error) = decode_error_name error
cause_name Unsupported = codes "Unsupported"
cause_name BadAddress = codes "BadAddress"

-- what one instruction leaves, and the number of its bytes, or why it halts
abbrev pub Stepped : Type 0
Stepped = Result (State × ℕ) HaltCause

-- the third test: the operands in memory lie wholly there
abbrev pub step_into : ℕ → Option State → Stepped
step_into len None = Err BadAddress
step_into len (Some next) = Ok (next, len)

-- the second test: the instruction is of the subset
abbrev pub step_by : State → ℕ → Option Work → Stepped
step_by state len None = Err Unsupported
step_by state len (Some work) = step_into len (after state work)

-- the first test: a decode answers an instruction
abbrev pub step_decoded : State → Result Decoded DecodeError → Stepped
step_decoded state (Ok decoded) = step_by state decoded.len (work_of state.q decoded.meaning)
step_decoded state (Err error) = Err (Blocked error)

-- the instruction at the front of bytes that aren't empty
unfoldable pub step : List Bool → State → List ℕ → Stepped
step settings state bytes = step_decoded state (decode settings bytes)

-- what a run leaves, and what it answers
abbrev pub Outcome : Type 0
Outcome = State × Result ℕ Halt

-- a run by what its next instruction does: it halts at its place, after the instructions before it, or goes on
abbrev pub ran_by : State → ℕ → ℕ → (State → ℕ → Outcome) → Stepped → Outcome
ran_by state place count go_on (Err cause) = (state, Err (record { place = place; count = count; cause = cause }))
ran_by state place count go_on (Ok next) = go_on next.0 next.1

-- the run of bytes that stand at a place, after so many instructions, of which bytes the first k belong to the
-- instruction before
unfoldable pub ran_from : List Bool → ℕ → State → ℕ → ℕ → List ℕ → Outcome
ran_from settings k state place count [] = (state, Ok count)
ran_from settings (suc k) state place count (b ∷ bs) = ran_from settings k state (place + 1) count bs
ran_from settings zero state place count (b ∷ bs) =
    ran_by state place count (λ next len. ran_from settings (len - 1) next (place + 1) (count + 1) bs)
    (step settings state (b ∷ bs))

-- the run of code
abbrev pub ran : List Bool → State → List ℕ → Outcome
ran settings state code = ran_from settings 0 state 0 0 code
