-- What it is for the code to hold what the steps of a form read, and what a call that reads a form says.
pub mod Lemmas
use Rattle.std.specs.Prelude.{◌≡◌, ◌≤◌, ◌==◌, ℕ, Bool, true, List, length, Some, None}
use Rattle.x86_operand.specs.declared.error.DecodeError.{DecodeError}
use Rattle.x86_reader.specs.Reader.{ReaderState, Takes, Passes}
use Rattle.x86_address.specs.Follows.{Refused}
use Rattle.x86_operand.specs.Kind.{Kind, WithoutModRM, InRegister, InMemory, VectorIndexed, is_vector}
use Rattle.x86_operand.specs.Meaning.{Decoded}
use Rattle.x86_address.specs.Place.{Place, kind_of, target}
use Rattle.vex_rows.specs.declared.entry.Entry.{Entry}
use Rattle.vex_rows.specs.declared.key.Prefix.{Prefix}
use Rattle.vex_rows.specs.Rules.{allows}
use Rattle.vex_forms.specs.declared.kind.Kind.{Kind as CodeKind}
use Rattle.vex_forms.specs.declared.kind.Kind.TheVariants as code
use Rattle.vex_forms.specs.declared.operand_e.OperandE.{OperandE}
use Rattle.vex_forms.specs.declared.operand_e.OperandE.TheVariants.{Absent, Register, Memory}
use Rattle.vex_forms.specs.declared.operand_fields.OperandFields.{OperandFields}
use Rattle.vex_forms.specs.Fields.{Fields}
use Rattle.vex_forms.specs.FormWalk.{Operands, row_of, form_fails}
use Rattle.vex_forms.specs.Written.{WritesForm}
use Rattle.vex_forms.specs.Gives.{gives}
use Rattle.vex_forms.specs.Operands.{target_seen, NumberFits, BanksFit}

-- the entry is one of those that the map, the implied prefix, W and L of the prefix choose
pub record HasPrefix (entry : Entry) (f : Fields) : Type 0 where
  pub map : entry.map ≡ f.map
  pub pp : entry.pp ≡ f.pp
  pub w : allows entry.w f.w ≡ true
  pub l : allows entry.l (f.l == 1) ≡ true

-- the kind of operand that the code holds
abbrev pub kind_seen : CodeKind → Kind
kind_seen code.WithoutModRM = WithoutModRM
kind_seen code.Register = InRegister
kind_seen code.Memory = InMemory
kind_seen code.Vector = VectorIndexed

-- the kind of an operand E, whatever index an address has
abbrev pub kind_of_e : OperandE → Kind
kind_of_e Absent = WithoutModRM
kind_of_e (Register num) = InRegister
kind_of_e (Memory address) = InMemory

-- the operand E is what the place names, with the bits X and B, and by whether its index is a vector register
pub record IsOperandE (vector x b : Bool) (place : Place) (e : OperandE) : Type 0 where
  pub kind : kind_of_e e ≡ kind_of place
  pub target : target_seen e ≡ target vector place x b
  pub number : NumberFits e
  pub banks : BanksFit e

-- the numbers are those of the prefix, and those that the steps read
pub record IsOperands (prefix : Prefix) (operands : Operands) (fields : OperandFields) : Type 0 where
  pub r : fields.r ≡ prefix.r
  pub vvvv : fields.vvvv ≡ prefix.vvvv
  pub reg : fields.reg ≡ operands.reg
  pub e : IsOperandE (is_vector operands.kind) prefix.x prefix.b operands.place fields.e
  pub imm : fields.imm ≡ operands.imm

-- the instruction means what the row that was chosen gives, and its length is 0
pub record IsInstruction (entry : Entry) (f : Fields) (operands : Operands) (instruction : Decoded) : Type 0 where
  pub meaning : instruction.meaning ≡ gives (row_of entry f operands) f.r f.v operands.reg
      (target (is_vector operands.kind) operands.place f.x f.b) operands.imm
  pub length : instruction.len ≡ 0

-- the reader gave at most seven bytes, over which no step of the form fails: those of the operands in a spelling by the
-- row that was chosen, of which the instruction means what that row gives
pub record TakesForm (entry : Entry) (f : Fields) (old new : ReaderState) (instruction : Decoded) : Type 0 where
  pub bytes : List ℕ
  pub takes : Takes old new bytes
  pub most : length bytes ≤ 7
  pub none_fails : form_fails entry f bytes ≡ None
  pub operands : Operands
  pub writes : WritesForm entry f operands bytes
  pub is : IsInstruction entry f operands instruction

-- the reader gave at most seven bytes, at whose end a step of the form fails with this error
pub record FailsForm (entry : Entry) (f : Fields) (old new : ReaderState) (error : DecodeError) : Type 0 where
  pub bytes : List ℕ
  pub passes : Passes old new bytes
  pub refused : Refused old new error
  pub most : length bytes ≤ 7
  pub fails : form_fails entry f bytes ≡ Some (error, length bytes)
