pub mod Lemmas
use Rattle.std.specs.Prelude.{ℕ, ◌-◌, ◌/◌, ◌%◌, Bool, true, ◌&&◌, ◌==◌, List, [], ◌∷◌, length, Option, Some, None, Ok}
use Rattle.std.specs.Prelude.{Err, if◌then◌else◌}
use Rattle.x86_operand.specs.declared.error.DecodeError.{DecodeError}
use Rattle.x86_operand.specs.declared.error.DecodeError.TheVariants.{InvalidOpcode, InvalidOperand}
use Rattle.x86_operand.specs.Kind.{Kind, WithoutModRM, InRegister, memory_kind}
use Rattle.x86_address.specs.Reading.{Reading, ◌>>=◌, take_byte, take_place}
use Rattle.x86_address.specs.Place.{Place, NoPlace, Direct}
use Rattle.vex_rows.specs.declared.entry.Entry.{Entry}
use Rattle.vex_rows.specs.declared.steps.Check.{Check}
use Rattle.vex_rows.specs.declared.steps.Check.TheVariants.{V0, L0, Reg, Mem, Group, VifMem}
use Rattle.vex_rows.specs.FormRows.{gathers}
use Rattle.vex_rows.specs.Steps.{FormSteps, steps}
use Rattle.vex_rows.specs.Groups.{groups}
use Rattle.vex_rows.specs.Row.{Row, has_groups, is_group, is_register, is_memory, is_memory_of}
use Rattle.vex_forms.specs.Fields.{Fields}

-- whether a check passes, by the prefix fields, the kind of operand E and the reg field
abbrev pub passes : Entry → Fields → Kind → ℕ → Check → Bool
passes entry f kind reg V0 = f.v == 0
passes entry f kind reg L0 = f.l == 0
passes entry f kind reg Reg = is_register kind
passes entry f kind reg Mem = is_memory_of (gathers entry.form) kind
passes entry f kind reg Group = is_group (groups entry.form f.l) reg
passes entry f kind reg VifMem = if is_memory kind then f.v == 0 else true

-- the error of a check
abbrev pub refusal : Check → DecodeError
refusal Group = InvalidOpcode
refusal _ = InvalidOperand

-- checks, one after another
abbrev pub check_all : Entry → Fields → Kind → ℕ → List Check → List ℕ → Reading (Unit {0})
check_all entry f kind reg [] bytes = Ok (tt, bytes)
check_all entry f kind reg (c ∷ cs) bytes =
    if passes entry f kind reg c then check_all entry f kind reg cs bytes else Err (refusal c, bytes)

-- the kind of operand that the fields mod and rm say: where a form gathers, the index of an address with SIB is a
-- vector register (Intel SDM volume 2, sections 2.1.3 and 2.3.12)
abbrev pub kind_of_modrm : Bool → ℕ → ℕ → Kind
kind_of_modrm vector mode rm = if mode == 3 then InRegister else memory_kind (vector && rm == 4)

-- the kind of operand that the byte ModRM of an entry says
abbrev pub kind_by : Entry → ℕ → Kind
kind_by entry modrm = kind_of_modrm (gathers entry.form) (modrm / 64) (modrm % 8)

-- the immediate byte, or 0 where there is none
abbrev pub take_imm : Bool → List ℕ → Reading ℕ
take_imm has bytes = if has then take_byte bytes else Ok (0, bytes)

-- what a form reads: the kind of E, the reg field, the place of E and the immediate byte
pub record Operands : Type 0 where
  pub kind : Kind
  pub reg : ℕ
  pub place : Place
  pub imm : ℕ

-- the place of a form: a form without an address has checked that the operand is a register
abbrev pub place_by : Bool → ℕ → ℕ → List ℕ → Reading Place
place_by address mode rm bytes = if address then take_place mode rm bytes else Ok (Direct rm, bytes)

-- the steps of a form from ModRM on
abbrev pub walk_modrm : Entry → Fields → FormSteps → List ℕ → Reading Operands
walk_modrm entry f form bytes = do
  modrm ← take_byte bytes
  second ← check_all entry f (kind_by entry modrm.0) ((modrm.0 / 8) % 8) form.after_modrm modrm.1
  place ← place_by form.address (modrm.0 / 64) (modrm.0 % 8) second.1
  third ← check_all entry f (kind_by entry modrm.0) ((modrm.0 / 8) % 8) form.after_address place.1
  imm ← take_imm form.imm third.1
  Ok (record { kind = kind_by entry modrm.0; reg = (modrm.0 / 8) % 8; place = place.0; imm = imm.0 }, imm.1)

-- the steps of a form without ModRM
abbrev pub walk_alone : FormSteps → List ℕ → Reading Operands
walk_alone form bytes = do
  imm ← take_imm form.imm bytes
  Ok (record { kind = WithoutModRM; reg = 0; place = NoPlace; imm = imm.0 }, imm.1)

-- the steps of an entry's form, over the bytes after the opcode byte
unfoldable pub walk_form : Entry → Fields → List ℕ → Reading Operands
walk_form entry f bytes = do
  first ← check_all entry f WithoutModRM 0 (steps entry.form).before_modrm bytes
  if (steps entry.form).modrm then walk_modrm entry f (steps entry.form) first.1 else walk_alone (steps entry.form)
      first.1

-- the row that an entry, the prefix fields, the kind of E and the reg field choose
abbrev pub row_of : Entry → Fields → Operands → Row
row_of entry f operands = record {
  entry = entry;
  w = f.w;
  l = f.l;
  kind = operands.kind;
  group = if has_groups entry.form then Some operands.reg else None;
}

-- how many bytes of a string were taken where this rest is left
abbrev pub taken : List ℕ → List ℕ → ℕ
taken bytes rest = length bytes - length rest

-- the error that a reading ends with, and the number of bytes taken
abbrev pub failure : {A : Type 0} → List ℕ → Reading A → Option (DecodeError × ℕ)
failure bytes (Ok read) = None
failure bytes (Err error) = Some (error.0, taken bytes error.1)

-- the first failing step of an entry's form, over the bytes after the opcode byte, and the number of bytes taken; none
-- where no step fails
abbrev pub form_fails : Entry → Fields → List ℕ → Option (DecodeError × ℕ)
form_fails entry f bytes = failure bytes (walk_form entry f bytes)
