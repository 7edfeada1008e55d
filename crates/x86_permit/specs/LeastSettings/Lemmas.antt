-- What permits VEX opcodes.
use Rattle.std.proofs.Common.{◌≡◌, Bool, true, false, List, ◌&&◌, sym, ap}
use Rattle.std.proofs.Math.Bool.{and-true}
use Rattle.x86_opcode.specs.declared.Opcode.{Opcode}
use Rattle.x86_opcode.specs.declared.Opcode.TheVariants.{Invalid, BSF, Legacy, Integer, Float, Fused, Marked}
use Rattle.x86_opcode.specs.declared.IntegerOpcode.{IntegerOpcode}
use Rattle.x86_opcode.specs.declared.IntegerOpcode.TheVariants as integer
use Rattle.x86_opcode.specs.declared.FloatOpcode.{FloatOpcode}
use Rattle.x86_opcode.specs.declared.FloatOpcode.TheVariants as float
use Rattle.x86_opcode.specs.Condition.{opcode_condition}
use Rattle.x86_opcode.specs.Vex.{is_vex}
use Rattle.x86_opcode.specs.Vex.Parts.{is_vex-vex_part}
use Rattle.x86_settings.specs.Bits.{is_set}
use Rattle.x86_settings.specs.Sets.{all_set}
use Rattle.x86_permit.specs.Permission.{permits}
use Rattle.x86_permit.specs.LeastSettings.{least}

one : (b : Bool) → b ≡ (b && true)
one b = sym (and-true b)

two : (a b : Bool) → (a && b) ≡ (a && (b && true))
two a b = ap (λ c. a && c) (one b)

integer-permits : (s : List Bool) (o : IntegerOpcode) → permits s false (Integer o) ≡ all_set s (least (Integer o))
unfolding permits least opcode_condition
integer-permits s integer.VAESDEC = two (is_set s 7) (is_set s 5)
integer-permits s integer.VAESDECLAST = two (is_set s 7) (is_set s 5)
integer-permits s integer.VAESENC = two (is_set s 7) (is_set s 5)
integer-permits s integer.VAESENCLAST = two (is_set s 7) (is_set s 5)
integer-permits s integer.VAESIMC = two (is_set s 7) (is_set s 5)
integer-permits s integer.VAESKEYGENASSIST = two (is_set s 7) (is_set s 5)
integer-permits s _ = one _

float-permits : (s : List Bool) (o : FloatOpcode) → permits s false (Float o) ≡ all_set s (least (Float o))
unfolding permits least opcode_condition
float-permits s float.VCVTPH2PS = two (is_set s 7) (is_set s 32)
float-permits s float.VCVTPS2PH = two (is_set s 7) (is_set s 32)
float-permits s _ = one _

-- an unmarked VEX opcode is permitted exactly where its least settings are set
pub permits-least : (s : List Bool) (o : Opcode) → is_vex o ≡ true → permits s false o ≡ all_set s (least o)
unfolding permits least opcode_condition
permits-least s Invalid h = let no : is_vex Invalid ≡ false = is_vex-vex_part Invalid in cc
permits-least s BSF h = let no : is_vex BSF ≡ false = is_vex-vex_part BSF in cc
permits-least s (Legacy o) h = let no : is_vex (Legacy o) ≡ false = is_vex-vex_part (Legacy o) in cc
permits-least s (Integer o) h = integer-permits s o
permits-least s (Float o) h = float-permits s o
permits-least s (Fused o) h = one (is_set s 7)
permits-least s (Marked o) h = let no : is_vex (Marked o) ≡ false = is_vex-vex_part (Marked o) in cc
