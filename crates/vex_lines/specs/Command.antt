-- Which command the words ask for.
use Rattle.std.specs.Prelude.{ℕ, ◌&&◌, nat_le, Bool, true, false, List, [], ◌∷◌, codes, decimal, Option, Some, None}
use Rattle.std.specs.Prelude.{if◌then◌else◌, option_and_then, option_map, bytes_eq}
use Rattle.std.specs.Str.Parse.{digits_value}
use Rattle.x86_uarch.specs.Profiles.{profile_of}
use Rattle.vex_lines.specs.declared.command.Command.{Command}
use Rattle.vex_lines.specs.declared.command.Command.TheVariants.{EachLine, Sweep, Make}
use Rattle.vex_lines.specs.declared.command.LineCommand.{LineCommand}
use Rattle.vex_lines.specs.declared.command.LineCommand.TheVariants as line

-- a number of spellings to make, where a word writes it
abbrev pub count_written : List ℕ → ℕ → Option ℕ
count_written word n = if nat_le 1 n && nat_le n 1000000 && bytes_eq word (decimal n) then Some n else None

-- the number of spellings to make that a word writes: 1 to 1,000,000 in decimal, without a sign or a leading zero
unfoldable pub count_of : List ℕ → Option ℕ
count_of word = count_written word (digits_value 10 word)

-- how many spellings a command makes; none where it reads lines
abbrev pub count_made : Command → Option ℕ
count_made (Make count) = Some count
count_made _ = None

-- whether a command reads the line itself, as a text, and not the bytes that it writes in hex digits
abbrev pub reads_text : LineCommand → Bool
reads_text (line.Asm settings) = true
reads_text _ = false

-- the command of a verb under settings, where it answers each line by itself
abbrev pub line_command : List ℕ → List Bool → Option LineCommand
line_command verb settings =
    if bytes_eq verb (codes "recode") then Some (line.Recode settings)
    else if bytes_eq verb (codes "notes") then Some (line.Notes settings)
    else if bytes_eq verb (codes "asm") then Some (line.Asm settings)
    else if bytes_eq verb (codes "emulate") then Some (line.Emulate settings)
    else if bytes_eq verb (codes "spellings") then Some (line.Spellings settings)
    else None

-- the command of a verb under settings
abbrev pub command_under : List ℕ → List Bool → Option Command
command_under verb settings =
    if bytes_eq verb (codes "sweep") then Some (Sweep settings)
    else option_map EachLine (line_command verb settings)

-- the command of a verb and the word after it, the name of a profile or, after `make`, a number
abbrev pub command_of_two : List ℕ → List ℕ → Option Command
command_of_two verb word =
    if bytes_eq verb (codes "make") then option_map Make (count_of word)
    else option_and_then (command_under verb) (profile_of word)

-- the command of one word
abbrev pub command_of_one : List ℕ → Option Command
command_of_one verb = if bytes_eq verb (codes "least") then Some (EachLine line.Least) else None

-- the command that the words ask for: that of one word, or of a verb and the word after it
abbrev pub command : List (List ℕ) → Option Command
command (verb ∷ []) = command_of_one verb
command (verb ∷ word ∷ []) = command_of_two verb word
command _ = None
