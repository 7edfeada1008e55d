-- Which instructions are of the subset, and what each does.
use Rattle.std.specs.Prelude.{◌≡◌, ℕ, Bool, true, false, List, Option, Some, None, IsSome, if◌then◌else◌, nat_lt, not}
use Rattle.std.specs.Prelude.{option_map}
use Rattle.std.specs.List.{list_any}
use Rattle.x86_opcode.specs.declared.Opcode.{Opcode}
use Rattle.x86_opcode.specs.declared.Opcode.TheVariants.{Integer}
use Rattle.x86_opcode.specs.declared.IntegerOpcode.TheVariants.{VPADDB, VPADDW, VPADDD, VPADDQ, VPSUBB, VPSUBW, VPSUBD}
use Rattle.x86_opcode.specs.declared.IntegerOpcode.TheVariants.{VPSUBQ, VPAND, VPANDN, VPOR, VPXOR, VPCMPEQB, VPCMPEQW}
use Rattle.x86_opcode.specs.declared.IntegerOpcode.TheVariants.{VPCMPEQD, VMOVDQU, VZEROUPPER, VZEROALL}
use Rattle.x86_operand.specs.Register.{Register}
use Rattle.x86_operand.specs.declared.register.RegisterBank.{RegisterBank}
use Rattle.x86_operand.specs.declared.register.RegisterBank.TheVariants.{X, Y, RIP}
use Rattle.x86_operand.specs.Instruction.{operand_at}
use Rattle.x86_operand.specs.Meaning.{Meaning, OperandMeaning, register, memory}
use Rattle.vex_emul.specs.Machine.{place_of}
use Rattle.vex_emul.specs.declared.operation.Lane.TheVariants.{Byte, Word, Doubleword, Quadword}
use Rattle.vex_emul.specs.declared.operation.Operation.{Operation}
use Rattle.vex_emul.specs.declared.operation.Operation.TheVariants.{Add, Subtract, Equal, And, AndNot, Or, Xor}
use Rattle.vex_emul.specs.declared.subset.Kind.{Kind}
use Rattle.vex_emul.specs.declared.subset.Kind.TheVariants.{ZeroesUpper, ZeroesAll, Moves, Combines}
use Rattle.vex_emul.specs.declared.work.Location.{Location}
use Rattle.vex_emul.specs.declared.work.Location.TheVariants.{Vector, Memory}
use Rattle.vex_emul.specs.declared.work.Work.{Work}
use Rattle.vex_emul.specs.declared.work.Work.TheVariants.{Combine, Move, ZeroUpper, ZeroAll}

-- the eighteen opcodes, and the kind of instruction that each names
unfoldable pub kind_of : Opcode → Option Kind
kind_of (Integer VPADDB) = Some (Combines (Add Byte))
kind_of (Integer VPADDW) = Some (Combines (Add Word))
kind_of (Integer VPADDD) = Some (Combines (Add Doubleword))
kind_of (Integer VPADDQ) = Some (Combines (Add Quadword))
kind_of (Integer VPSUBB) = Some (Combines (Subtract Byte))
kind_of (Integer VPSUBW) = Some (Combines (Subtract Word))
kind_of (Integer VPSUBD) = Some (Combines (Subtract Doubleword))
kind_of (Integer VPSUBQ) = Some (Combines (Subtract Quadword))
kind_of (Integer VPAND) = Some (Combines And)
kind_of (Integer VPANDN) = Some (Combines AndNot)
kind_of (Integer VPOR) = Some (Combines Or)
kind_of (Integer VPXOR) = Some (Combines Xor)
kind_of (Integer VPCMPEQB) = Some (Combines (Equal Byte))
kind_of (Integer VPCMPEQW) = Some (Combines (Equal Word))
kind_of (Integer VPCMPEQD) = Some (Combines (Equal Doubleword))
kind_of (Integer VMOVDQU) = Some Moves
kind_of (Integer VZEROUPPER) = Some ZeroesUpper
kind_of (Integer VZEROALL) = Some ZeroesAll
kind_of _ = None

-- a vector register that the machine has: whether its operand is wide, and its number
unfoldable pub vector_in : RegisterBank → ℕ → Option (Bool × ℕ)
vector_in X num = if nat_lt num 16 then Some (false, num) else None
vector_in Y num = if nat_lt num 16 then Some (true, num) else None
vector_in _ num = None

-- whether two truth values are the same
abbrev pub same_bool : Bool → Bool → Bool
same_bool true b = b
same_bool false b = not b

-- that vector as a location, where it is as wide as this
abbrev pub same_width : Bool → Option (Bool × ℕ) → Option Location
same_width wide None = None
same_width wide (Some v) = if same_bool v.0 wide then Some (Vector v.1) else None

-- the location of an operand, in an instruction whose vectors are as wide as this
unfoldable pub source_of : List ℕ → Bool → OperandMeaning → Option Location
source_of q wide (register r) = same_width wide (vector_in r.bank r.num)
source_of q wide (memory a) = option_map Memory (place_of q a)
source_of q wide _ = None

-- an operation with its result in the vector d, on the vector v and an operand, where the vectors are of one width
abbrev pub combine_on : Operation → Bool × ℕ → Bool × ℕ → Option Location → Option Work
combine_on operation d v None = None
combine_on operation d v (Some e) = if same_bool v.0 d.0 then Some (Combine operation d.0 d.1 v.1 e) else None

-- the same where both vectors are there, and the operand is of their width
abbrev pub combine_in : List ℕ → Operation → Option (Bool × ℕ) → Option (Bool × ℕ) → OperandMeaning → Option Work
combine_in q operation (Some d) (Some v) e = combine_on operation d v (source_of q d.0 e)
combine_in q operation _ _ e = None

-- an instruction on two operands: a vector and an operand, with the result in a vector
unfoldable pub combine_of : List ℕ → Operation → OperandMeaning → OperandMeaning → OperandMeaning → Option Work
combine_of q operation (register d) (register v) e =
    combine_in q operation (vector_in d.bank d.num) (vector_in v.bank v.num) e
combine_of q operation _ _ _ = None

-- a move into a vector, of an operand of its width
abbrev pub move_to : List ℕ → Option (Bool × ℕ) → OperandMeaning → Option Work
move_to q None e = None
move_to q (Some v) e = option_map (λ o. Move v.0 (Vector v.1) o) (source_of q v.0 e)

-- a move of a vector into the memory from a place on
abbrev pub move_from : Option ℕ → Option (Bool × ℕ) → Option Work
move_from (Some at) (Some v) = Some (Move v.0 (Memory at) (Vector v.1))
move_from _ _ = None

-- a move: one of the operands is a vector, whose width is that of the move
unfoldable pub move_of : List ℕ → OperandMeaning → OperandMeaning → Option Work
move_of q (register d) e = move_to q (vector_in d.bank d.num) e
move_of q (memory a) (register r) = move_from (place_of q a) (vector_in r.bank r.num)
move_of q _ _ = None

-- what an instruction of a kind does with its first three operands
abbrev pub work_of_kind : List ℕ → Option Kind → OperandMeaning → OperandMeaning → OperandMeaning → Option Work
work_of_kind q None a b c = None
work_of_kind q (Some ZeroesUpper) a b c = Some ZeroUpper
work_of_kind q (Some ZeroesAll) a b c = Some ZeroAll
work_of_kind q (Some Moves) a b c = move_of q a b
work_of_kind q (Some (Combines operation)) a b c = combine_of q operation a b c

-- what an instruction does where the general registers are q, and none where it isn't of the subset
unfoldable pub work_of : List ℕ → Meaning → Option Work
work_of q m =
    if m.evex then None
    else work_of_kind q (kind_of m.opcode) (operand_at m.operands 0) (operand_at m.operands 1) (operand_at m.operands 2)

-- whether a bank is that of the instruction pointer
abbrev pub is_rip : RegisterBank → Bool
is_rip RIP = true
is_rip _ = false

-- whether a base is the instruction pointer
abbrev pub is_rip_base : Option Register → Bool
is_rip_base None = false
is_rip_base (Some r) = is_rip r.bank

-- whether an operand is an address whose base is the instruction pointer
abbrev pub has_rip : OperandMeaning → Bool
has_rip (memory a) = is_rip_base a.base
has_rip _ = false

-- an instruction of the subset: unmarked, with one of the eighteen opcodes and no base rip
pub record IsOfSubset (m : Meaning) : Type 0 where
  pub unmarked : m.evex ≡ false
  pub named : IsSome (kind_of m.opcode)
  pub without_rip : list_any has_rip m.operands ≡ false
