-- What holds of the subset, and of one instruction.
use Rattle.std.specs.Prelude.{◌≡◌, ◌↔◌, ℕ, Bool, true, List, ◌++◌, length, Some, Err, IsSome}
use Rattle.x86_operand.specs.declared.error.DecodeError.{DecodeError}
use Rattle.x86_operand.specs.Meaning.{Meaning}
use Rattle.vex_decode.specs.Spelling.{Spells}
use Rattle.vex_decode.specs.Blocked.{blocked}
use Rattle.x86_permit.specs.Permission.{permits}
use Rattle.vex_emul.specs.Machine.{State}
use Rattle.vex_emul.specs.Subset.{work_of, IsOfSubset}
use Rattle.vex_emul.specs.Run.{step, step_by}
use Rattle.vex_emul.specs.declared.run.HaltCause.TheVariants.{Blocked}

-- of the instructions that bytes spell, exactly those of the subset have something that they do, whatever the general
-- registers hold
abbrev pub SubsetExactly : Type 0
SubsetExactly = (bytes : List ℕ) (m : Meaning) (q : List ℕ) → Spells bytes m → IsSome (work_of q m) ↔ IsOfSubset m

-- where bytes begin with a spelling of a permitted meaning, the instruction there is what the meaning says, and its
-- length that of the spelling
abbrev pub StepOfSpelling : Type 0
StepOfSpelling =
    (settings : List Bool) (state : State) (front rest : List ℕ) (m : Meaning)
    → Spells front m → permits settings m.evex m.opcode ≡ true
    → step settings state (front ++ rest) ≡ step_by state (length front) (work_of state.q m)

-- where an error blocks bytes, it is the cause of the halt
abbrev pub StepOfError : Type 0
StepOfError =
    (settings : List Bool) (state : State) (bytes : List ℕ) (error : DecodeError) (n : ℕ)
    → blocked settings bytes ≡ Some (error, n) → step settings state bytes ≡ Err (Blocked error)
