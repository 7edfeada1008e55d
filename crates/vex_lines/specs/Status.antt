-- The numbers and the names of the ways in which a run ends.
use Rattle.std.specs.Prelude.{ℕ, List, codes}
use Rattle.vex_lines.specs.declared.status.Status.{Status}
use Rattle.vex_lines.specs.declared.status.Status.TheVariants.{Done, ReadFault, Usage, WriteFault, NoMemory, TooLong}

-- the exit code of each status
abbrev pub exit_code_of : Status → ℕ
exit_code_of Done = 0
exit_code_of ReadFault = 1
exit_code_of Usage = 2
exit_code_of WriteFault = 3
exit_code_of NoMemory = 4
exit_code_of TooLong = 5

-- the name of each status
abbrev pub name_of : Status → List ℕ
name_of Done = codes "Done"
name_of ReadFault = codes "ReadFault"
name_of Usage = codes "Usage"
name_of WriteFault = codes "WriteFault"
name_of NoMemory = codes "NoMemory"
name_of TooLong = codes "TooLong"
