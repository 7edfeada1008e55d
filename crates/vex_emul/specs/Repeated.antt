-- A run is its instructions, one after another.
use Rattle.std.specs.Prelude.{◌≡◌, ◌≢◌, ℕ, Bool, true, List, [], ◌++◌, ◌+◌, length, drop, Result, Ok, Err}
use Rattle.x86_operand.specs.Meaning.{Meaning}
use Rattle.x86_permit.specs.Permission.{permits}
use Rattle.x86_address.specs.Bytes.{IsBytes}
use Rattle.vex_decode.specs.Spelling.{Spells}
use Rattle.vex_emul.specs.Machine.{State}
use Rattle.vex_emul.specs.Run.{step, Stepped, ran, Outcome}
use Rattle.vex_emul.specs.declared.run.Halt.{Halt}
use Rattle.vex_emul.specs.declared.run.HaltCause.{HaltCause}

-- what a run answers, behind so many bytes and instructions
abbrev pub answer_behind : ℕ → ℕ → Result ℕ Halt → Result ℕ Halt
answer_behind place count (Ok n) = Ok (count + n)
answer_behind place count (Err halt) =
    Err (record { place = place + halt.place; count = count + halt.count; cause = halt.cause })

-- the outcome of a run, behind so many bytes and instructions
abbrev pub behind : ℕ → ℕ → Outcome → Outcome
behind place count outcome = (outcome.0, answer_behind place count outcome.1)

-- a run of nothing changes nothing
abbrev pub RunOfNothing : Type 0
RunOfNothing = (settings : List Bool) (state : State) → ran settings state [] ≡ (state, Ok 0)

-- a run that begins with an instruction that runs goes on from there with the bytes behind it
abbrev pub RunOfStep : Type 0
RunOfStep =
    (settings : List Bool) (state next : State) (len : ℕ) (code : List ℕ) → IsBytes code
    → step settings state code ≡ Ok (next, len)
    → ran settings state code ≡ behind len 1 (ran settings next (drop len code))

-- a run halts at the instruction that does
abbrev pub RunOfHalt : Type 0
RunOfHalt =
    (settings : List Bool) (state : State) (cause : HaltCause) (code : List ℕ) → code ≢ []
    → step settings state code ≡ Err cause
    → ran settings state code ≡ (state, Err (record { place = 0; count = 0; cause = cause }))

-- where the run of code comes to its end, more code behind it does what it does from there
abbrev pub RunOfTwo : Type 0
RunOfTwo =
    (settings : List Bool) (start state : State) (n : ℕ) (code more : List ℕ) → IsBytes code → IsBytes more
    → ran settings start code ≡ (state, Ok n)
    → ran settings start (code ++ more) ≡ behind (length code) n (ran settings state more)

-- what an instruction leaves, whatever the number of its bytes
abbrev pub left_by : Stepped → Result State HaltCause
left_by (Ok next) = Ok next.0
left_by (Err cause) = Err cause

-- bytes that spell one meaning leave one state, whatever follows them
abbrev pub MeaningDecides : Type 0
MeaningDecides =
    (settings : List Bool) (state : State) (front other rest behind : List ℕ) (m : Meaning)
    → Spells front m → Spells other m → permits settings m.evex m.opcode ≡ true
    → left_by (step settings state (front ++ rest)) ≡ left_by (step settings state (other ++ behind))
