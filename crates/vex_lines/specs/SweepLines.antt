-- The lines of a sweep.
use Rattle.std.specs.Prelude.{ℕ, List, ◌++◌, codes, decimal, flat_map}
use Rattle.x86_operand.specs.Errors.{decode_error_name}
use Rattle.vex_encode.specs.declared.sweeper.SweepEnd.{SweepEnd}
use Rattle.vex_encode.specs.declared.sweeper.SweepEnd.TheVariants.{End, Stopped}
use Rattle.vex_encode.specs.Sweep.{Swept, SweptItem}
use Rattle.vex_lines.specs.ResultLine.{instruction_line}

-- the line of an instruction: its place, a space and its result line
abbrev pub item_line : SweptItem → List ℕ
item_line item = decimal item.place ++ codes " " ++ instruction_line item.decoded.len item.decoded.meaning item.spelling

-- the line of the end: `end`, or where the sweep stopped and by which error
abbrev pub end_line : SweepEnd → List ℕ
end_line End = codes "end\n"
end_line (Stopped place error) = codes "stopped " ++ decimal place ++ codes " " ++ decode_error_name error ++ codes "\n"

-- a line for each instruction, and then one for the end
abbrev pub sweep_lines : Swept → List ℕ
sweep_lines swept = flat_map item_line swept.items ++ end_line swept.end
