-- What becomes of VEX opcodes.
use Rattle.std.proofs.Common.{◌≡◌, Bool, true, false, List, refl}
use Rattle.x86_opcode.specs.declared.Opcode.{Opcode}
use Rattle.x86_opcode.specs.declared.Opcode.TheVariants.{Legacy}
use Rattle.x86_opcode.specs.declared.LegacyOpcode.TheVariants.{TZCNT}
use Rattle.x86_opcode.specs.Vex.{is_vex}
use Rattle.x86_opcode.specs.Vex.Parts.{is_vex-vex_part}
use Rattle.x86_permit.specs.Permission.{revised}

-- a VEX opcode stays what it is
pub vex_stays : (s : List Bool) (mark : Bool) (opcode : Opcode) → is_vex opcode ≡ true → revised s mark opcode ≡ opcode
unfolding revised
vex_stays s mark (Legacy TZCNT) vex = let no : is_vex (Legacy TZCNT) ≡ false = is_vex-vex_part (Legacy TZCNT) in cc
vex_stays s mark _ vex = refl
