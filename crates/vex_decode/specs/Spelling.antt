pub use Rattle.vex_forms.specs.Written.{imm_bytes, FitsRule, FitsGroup, FitsReg, FitsImm}
use Rattle.std.specs.Prelude.{◌≡◌, ℕ, List, ◌∷◌, ◌++◌}
use Rattle.x86_operand.specs.Meaning.{Meaning}
use Rattle.x86_operand.specs.Kind.{is_vector}
use Rattle.x86_address.specs.Place.{Place, place_bytes, IsPlace, IsOfKind, target}
use Rattle.vex_rows.specs.Steps.{steps}
use Rattle.vex_rows.specs.Row.{Row, IsRow, has_imm}
use Rattle.vex_forms.specs.Slots.{v_rule}
use Rattle.vex_forms.specs.Gives.{gives}
use Rattle.vex_forms.specs.Fields.{Fields}
use Rattle.vex_decode.specs.Fields.{PrefixForm, prefix_bytes, IsPrefix}

-- the parts of a spelling: the form of its prefix, the prefix fields, the reg field, the place of E, the immediate
-- byte. A part that isn't written is 0 or no place.
pub record Syntax : Type 0 where
  pub form : PrefixForm
  pub fields : Fields
  pub reg : ℕ
  pub place : Place
  pub imm : ℕ

-- the bytes of a spelling: prefix, opcode byte, ModRM with SIB and displacement, immediate (Intel SDM volume 2, section
-- 2.3.1)
abbrev pub bytes_of : Row → Syntax → List ℕ
bytes_of row s = prefix_bytes s.form s.fields ++ row.entry.byte
    ∷ (place_bytes s.reg s.place ++ imm_bytes (has_imm row) s.imm)

-- what a spelling means: the row's kind says whether the index of an address is a vector register
abbrev pub meant : Row → Syntax → Meaning
meant row s = gives row s.fields.r s.fields.v s.reg (target (is_vector row.kind) s.place s.fields.x s.fields.b) s.imm

-- the parts are those of a spelling by the row
pub record IsSyntax (row : Row) (s : Syntax) : Type 0 where
  pub prefix : IsPrefix s.form s.fields
  pub map : s.fields.map ≡ row.entry.map
  pub pp : s.fields.pp ≡ row.entry.pp
  pub w : s.fields.w ≡ row.w
  pub l : s.fields.l ≡ row.l
  pub reg : FitsReg (steps row.entry.form).modrm s.reg
  pub place : IsPlace s.place
  pub kind : IsOfKind row.kind s.place
  pub group : FitsGroup row.group s.reg
  pub v : FitsRule (v_rule row) s.fields.v
  pub imm : FitsImm (has_imm row) s.imm

-- the bytes spell the meaning by the row: prefix, opcode byte, address bytes and immediate, one after another
pub record SpellsBy (bytes : List ℕ) (m : Meaning) (row : Row) : Type 0 where
  pub parts : Syntax
  pub fits : IsSyntax row parts
  pub written : bytes ≡ bytes_of row parts
  pub means : m ≡ meant row parts

-- the bytes spell the meaning by some row
pub record Spells (bytes : List ℕ) (m : Meaning) : Type 0 where
  pub row : Row
  pub is_row : IsRow row
  pub by : SpellsBy bytes m row
