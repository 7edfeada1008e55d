-- What is written for a line, and for some bytes.
use Rattle.std.specs.Prelude.{ℕ, nat_lt, Bool, true, false, not, List, [], length, filter, flat_map, codes}
use Rattle.std.specs.Prelude.{Option, Some, None, Result, Ok, Err, IsOk, IsTrue, if◌then◌else◌}
use Rattle.hex.specs.Hex.{decode_of}
use Rattle.hex.specs.declared.error.FromHexError.{FromHexError}
use Rattle.vex_asm.specs.Text.{is_blank}
use Rattle.vex_encode.specs.Sweep.{swept}
use Rattle.vex_lines.specs.declared.command.Command.{Command}
use Rattle.vex_lines.specs.declared.command.Command.TheVariants.{EachLine, Sweep, Make}
use Rattle.vex_lines.specs.declared.command.LineCommand.{LineCommand}
use Rattle.vex_lines.specs.declared.command.LineCommand.TheVariants as line
use Rattle.vex_lines.specs.Command.{count_made, reads_text}
use Rattle.vex_lines.specs.declared.report.LineError.{LineError}
use Rattle.vex_lines.specs.declared.report.LineError.TheVariants.{LongLine, BadHex}
use Rattle.vex_lines.specs.ErrorLine.{error_line}
use Rattle.vex_lines.specs.Lines.{lines, AnsweredBefore}
use Rattle.vex_lines.specs.ResultLine.{result_line}
use Rattle.vex_lines.specs.SweepLines.{sweep_lines}
use Rattle.vex_lines.specs.NoteLines.{note_lines}
use Rattle.vex_lines.specs.AsmLine.{asm_line}
use Rattle.vex_lines.specs.EmulateLines.{emulate_lines}
use Rattle.vex_lines.specs.SpellingLines.{spelling_lines}
use Rattle.vex_lines.specs.LeastLines.{least_lines}
use Rattle.vex_lines.specs.Generator.{made}

-- the name of an error
abbrev pub line_error_name : LineError → List ℕ
line_error_name LongLine = codes "LongLine"
line_error_name BadHex = codes "BadHex"

-- what is left of a line without its spaces, tabs and bytes 13
abbrev pub digits : List ℕ → List ℕ
digits line = filter (λ b. not (is_blank b)) line

-- decoded digits, or the one error for all that is not an even number of hex digits
abbrev pub or_bad_hex : Result (List ℕ) FromHexError → Result (List ℕ) LineError
or_bad_hex (Ok bytes) = Ok bytes
or_bad_hex (Err e) = Err BadHex

-- the bytes that a line writes in hex digits of either case
unfoldable pub code : List ℕ → Result (List ℕ) LineError
code line = if nat_lt 8192 (length line) then Err LongLine else or_bad_hex (decode_of (digits line))

-- what is taken of a line: the line itself, where it is read as a text, or the bytes that it writes
abbrev pub taken : Bool → List ℕ → Result (List ℕ) LineError
taken true line = if nat_lt 8192 (length line) then Err LongLine else Ok line
taken false line = code line

-- what f gives of what was taken of a line, or the line that names the error
abbrev pub or_error : (List ℕ → List ℕ) → Result (List ℕ) LineError → List ℕ
or_error f (Ok bytes) = f bytes
or_error f (Err e) = error_line (line_error_name e)

-- what a command answers for what it takes of a line
abbrev pub answer : LineCommand → List ℕ → List ℕ
answer (line.Recode settings) bytes = result_line settings bytes
answer (line.Notes settings) bytes = note_lines settings bytes
answer (line.Asm settings) text = asm_line settings text
answer (line.Emulate settings) bytes = emulate_lines settings bytes
answer (line.Spellings settings) bytes = spelling_lines settings bytes
answer line.Least bytes = least_lines bytes

-- what a command that answers each line by itself writes for one
unfoldable pub line_report : LineCommand → List ℕ → List ℕ
line_report command line = or_error (answer command) (taken (reads_text command) line)

-- what the sweep of a line writes under settings
unfoldable pub sweep_report : List Bool → List ℕ → List ℕ
sweep_report settings line = or_error (λ bytes. sweep_lines (swept settings bytes)) (code line)

-- what is written for a line; `make` reads none
abbrev pub report : Command → List ℕ → List ℕ
report (EachLine command) line = line_report command line
report (Sweep settings) line = sweep_report settings line
report (Make count) line = []

-- what a command writes: the line of the spellings that it makes, or the reports of the lines of some bytes, one after
-- another
abbrev pub output_by : Option ℕ → Command → List ℕ → List ℕ
output_by (Some count) command bytes = made count
output_by None command bytes = flat_map (report command) (lines bytes)

-- what is written for some bytes
unfoldable pub output : Command → List ℕ → List ℕ
output command bytes = output_by (count_made command) command bytes

-- whether a command takes memory
abbrev pub takes_memory : Command → Bool
takes_memory (Sweep settings) = true
takes_memory _ = false

-- there may be no memory for the report of a line: it writes code, and the command takes memory
abbrev pub MayLackMemory : Command → List ℕ → Type 0
MayLackMemory command line = IsTrue (takes_memory command) × IsOk (code line)

-- of the lines of these bytes, those before one that there was no memory for were answered
abbrev pub LackedMemory : Command → List ℕ → Option (List ℕ) → Option (List ℕ) → Type 0
LackedMemory command bytes old new = AnsweredBefore (report command) (MayLackMemory command) bytes old new
