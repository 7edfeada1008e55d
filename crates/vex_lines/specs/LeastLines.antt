-- The lines of what a run of instructions needs.
use Rattle.std.specs.Prelude.{ℕ, ◌==◌, Bool, false, List, [], ◌∷◌, ◌++◌, codes, decimal, flat_map, Option, Some, None}
use Rattle.std.specs.Prelude.{if◌then◌else◌}
use Rattle.x86_opcode.specs.Name.{opcode_name}
use Rattle.x86_operand.specs.Errors.{decode_error_name}
use Rattle.x86_settings.specs.Settings.{aesni, avx, bmi1, bmi2}
use Rattle.x86_uarch.specs.Profiles.{microarchitectures, profile_of}
use Rattle.vex_encode.specs.Sweep.{SweptItem}
use Rattle.vex_check.specs.declared.needs.First.{First}
use Rattle.vex_check.specs.declared.needs.RunCause.{RunCause}
use Rattle.vex_check.specs.declared.needs.RunCause.TheVariants.{Blocked, Marked}
use Rattle.vex_check.specs.declared.needs.RunFault.{RunFault}
use Rattle.vex_check.specs.Needs.{all_needed, fault, firsts, run}
use Rattle.vex_check.specs.Accepted.{covers}

-- the name of a bit, of the five that instructions in VEX form need
abbrev pub bit_name : ℕ → List ℕ
bit_name bit =
    if bit == aesni then codes "aesni" else if bit == avx then codes "avx" else if bit == bmi1 then codes "bmi1"
    else if bit == bmi2 then codes "bmi2" else codes "f16c"

-- the line of the first instruction that needs a bit: the bit's name, the place and the opcode
abbrev pub need_line : First → List ℕ
need_line first = codes "need " ++ bit_name first.bit ++ codes " " ++ decimal first.place ++ codes " "
    ++ opcode_name first.opcode ++ codes "\n"

-- whether a profile has every bit that is wanted
abbrev pub accepted_by : List Bool → Option (List Bool) → Bool
accepted_by wanted None = false
accepted_by wanted (Some settings) = covers settings wanted

-- the name of a microarchitecture behind a space, where its profile has every bit that is wanted
abbrev pub profile_word : List Bool → List ℕ → List ℕ
profile_word wanted name = if accepted_by wanted (profile_of name) then codes " " ++ name else []

-- a dash where no profile has them
abbrev pub or_dash : List ℕ → List ℕ
or_dash [] = codes " -"
or_dash (c ∷ cs) = c ∷ cs

-- the line of the profiles that have every bit that is wanted
unfoldable pub profiles_line : List Bool → List ℕ
profiles_line wanted = codes "profiles" ++ or_dash (flat_map (profile_word wanted) microarchitectures) ++ codes "\n"

-- the name of the cause of a fault
abbrev pub cause_name : RunCause → List ℕ
cause_name (Blocked error) = decode_error_name error
cause_name Marked = codes "Marked"

-- the line of a fault: its place and its cause
abbrev pub fault_line : RunFault → List ℕ
fault_line fault = codes "stopped " ++ decimal fault.place ++ codes " " ++ cause_name fault.cause ++ codes "\n"

-- the lines of a run: of its fault, or a line for each bit that it needs and then one for the profiles
abbrev pub least_by : Option RunFault → List SweptItem → List ℕ
least_by (Some fault) items = fault_line fault
least_by None items = flat_map need_line (firsts items) ++ profiles_line (all_needed items)

-- the lines of the run that some bytes are
unfoldable pub least_lines : List ℕ → List ℕ
least_lines bytes = least_by (fault (run bytes)) (run bytes).items
