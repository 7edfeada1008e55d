-- What the bytes after the opcode byte are of an instruction: the parts that a row asks for, and how they are written.
use Rattle.std.specs.Prelude.{◌≡◌, ℕ, ◌<◌, Bool, true, false, List, [], ◌∷◌, ◌++◌, Option, Some, None, if◌then◌else◌}
use Rattle.x86_address.specs.Place.{IsPlace, IsOfKind, place_bytes}
use Rattle.vex_rows.specs.declared.entry.Entry.{Entry}
use Rattle.vex_rows.specs.Steps.{steps}
use Rattle.vex_rows.specs.Row.{IsRow, has_imm}
use Rattle.vex_forms.specs.declared.slot.VvvvRule.{VvvvRule}
use Rattle.vex_forms.specs.declared.slot.VvvvRule.TheVariants.{Named, Zero, Free}
use Rattle.vex_forms.specs.Slots.{v_rule}
use Rattle.vex_forms.specs.Fields.{Fields}
use Rattle.vex_forms.specs.FormWalk.{Operands, row_of}

-- the immediate byte, where there is one
abbrev pub imm_bytes : Bool → ℕ → List ℕ
imm_bytes has imm = if has then imm ∷ [] else []

-- vvvv is 0 where a step demands it (Intel SDM volume 2, section 2.3.5.6)
abbrev pub FitsRule : VvvvRule → ℕ → Type 0
FitsRule Named v = Unit {0}
FitsRule Zero v = v ≡ 0
FitsRule Free v = Unit {0}

-- the reg field is the group where the row has one
abbrev pub FitsGroup : Option ℕ → ℕ → Type 0
FitsGroup None reg = Unit {0}
FitsGroup (Some group) reg = reg ≡ group

-- the reg field is 0 where there is no ModRM byte
abbrev pub FitsReg : Bool → ℕ → Type 0
FitsReg true reg = reg < 8
FitsReg false reg = reg ≡ 0

-- the immediate byte is 0 where there is none
abbrev pub FitsImm : Bool → ℕ → Type 0
FitsImm true imm = imm < 256
FitsImm false imm = imm ≡ 0

-- the bytes are those of the operands in a spelling by the row that entry, prefix fields and operands choose: ModRM
-- with SIB and displacement, and the immediate byte
pub record WritesForm (entry : Entry) (f : Fields) (operands : Operands) (bytes : List ℕ) : Type 0 where
  pub is_row : IsRow (row_of entry f operands)
  pub reg : FitsReg (steps entry.form).modrm operands.reg
  pub place : IsPlace operands.place
  pub kind : IsOfKind operands.kind operands.place
  pub v : FitsRule (v_rule (row_of entry f operands)) f.v
  pub imm : FitsImm (has_imm (row_of entry f operands)) operands.imm
  pub written : bytes ≡ place_bytes operands.reg operands.place
      ++ imm_bytes (has_imm (row_of entry f operands)) operands.imm
