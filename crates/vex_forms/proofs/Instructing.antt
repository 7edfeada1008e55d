-- The instruction that is made of a choice is the one that the row gives that was chosen.
use Rattle.std.specs.Prelude.{◌≡◌, refl, Bool, true, false, [], Ok, if◌then◌else◌}
use Rattle.std.proofs.Common.{ap, ap₂, ◌∙◌}
use Rattle.x86_operand.specs.Meaning.{Decoded}
use Rattle.x86_address.specs.Bytes.{bit}
use Rattle.x86_address.specs.Follows.{Follows}
use Rattle.x86_address.specs.Follows.Lemmas.{takes_all}
use Rattle.x86_reader.specs.Reader.{ReaderState}
use Rattle.vex_rows.specs.declared.entry.Entry.{Entry}
use Rattle.vex_rows.specs.declared.key.Prefix.{Prefix}
use Rattle.vex_rows.specs.FormRows.{gathers}
use Rattle.vex_rows.specs.Steps.{steps}
use Rattle.vex_rows.specs.Row.{Row, Among, kinds_of, is_memory}
use Rattle.vex_forms.specs.declared.operand_fields.OperandFields.{OperandFields}
use Rattle.vex_forms.specs.Fields.{fields_of}
use Rattle.vex_forms.specs.FormWalk.{Operands, walk_form, row_of}
use Rattle.vex_forms.specs.FormWalk.Lemmas.{Passed, walk_form-passed}
use Rattle.vex_forms.specs.Gives.{gives}
use Rattle.vex_forms.specs.Layout.{group_for, may_be, row_for}
use Rattle.vex_forms.specs.Layout.Lemmas.{kind-again, may_be-again, is_memory-plain}
use Rattle.vex_forms.specs.Operands.{target_seen}
use Rattle.vex_forms.specs.Reads.{IsOperands, IsInstruction, kind_of_e}

bit_is : (b : Bool) → (if b then 1 else 0) ≡ bit b
bit_is true = refl
bit_is false = refl

-- what a step of the walk answered has passed all checks
passed_of : {entry : Entry} {prefix : Prefix} {fields : OperandFields} {old new : ReaderState}
    (f : Follows (walk_form entry (fields_of prefix)) (IsOperands prefix) old new (Ok fields))
    → Passed entry (fields_of prefix) f.answers.0
passed_of {entry} {prefix} {fields} f = walk_form-passed entry (fields_of prefix) f.bytes (f.answers.0, [])
    (takes_all fields f)

-- the row at the kind of the operand E and the reg field is the row that was chosen
pub row_again : (entry : Entry) (prefix : Prefix) (operands : Operands) → Among operands.kind (kinds_of entry.form)
    → row_for entry prefix.w prefix.l (is_memory operands.kind) operands.reg ≡ row_of entry (fields_of prefix) operands
row_again entry prefix operands among =
    let kind = kind-again (gathers entry.form) (steps entry.form).modrm operands.kind among in
    λ i. record {
      entry = entry;
      w = prefix.w;
      l = bit_is prefix.l i;
      kind = kind i;
      group =
          group_for entry.form operands.reg;
    }

-- and it can be
pub may_again : (entry : Entry) (operands : Operands) → Among operands.kind (kinds_of entry.form)
    → may_be entry (is_memory operands.kind) ≡ true
may_again entry operands among = may_be-again (gathers entry.form) (steps entry.form).modrm operands.kind among

module _ (entry : Entry) (prefix : Prefix) (fields : OperandFields) {old new : ReaderState} {memory : Bool}
    (f : Follows (walk_form entry (fields_of prefix)) (IsOperands prefix) old new (Ok fields))
    (memory_is : memory ≡ is_memory (kind_of_e fields.e)) where
  in_memory : memory ≡ is_memory f.answers.0.kind
  in_memory = memory_is ∙ ap is_memory (f.answers.1.e.kind ∙ (passed_of f).place.plain)
      ∙ is_memory-plain f.answers.0.kind

  row_is : row_for entry prefix.w prefix.l memory fields.reg ≡ row_of entry (fields_of prefix) f.answers.0
  row_is = ap₂ (λ m reg. row_for entry prefix.w prefix.l m reg) in_memory f.answers.1.reg
      ∙ row_again entry prefix f.answers.0 (passed_of f).kind

  meaning_is : (instruction : Decoded) → instruction.meaning
      ≡ gives (row_for entry prefix.w prefix.l memory fields.reg) (bit fields.r) fields.vvvv fields.reg
      (target_seen fields.e) fields.imm
      → instruction.len ≡ 0 → IsInstruction entry (fields_of prefix) f.answers.0 instruction
  meaning_is instruction meaning length =
      let is = f.answers.1 in
      record {
        meaning = meaning ∙ (λ i. gives (row_is i) (bit (is.r i)) (is.vvvv i) (is.reg i) (is.e.target i) (is.imm i));
        length = length;
      }

pub is_instruction : (entry : Entry) (prefix : Prefix) (fields : OperandFields) {old new : ReaderState} {memory : Bool}
    {row : Row} {instruction : Decoded}
    → (f : Follows (walk_form entry (fields_of prefix)) (IsOperands prefix) old new (Ok fields))
    → memory ≡ is_memory (kind_of_e fields.e)
    → row ≡ row_for entry prefix.w prefix.l memory fields.reg
    → instruction.meaning ≡ gives row (bit fields.r) fields.vvvv fields.reg (target_seen fields.e) fields.imm
    → instruction.len ≡ 0 → IsInstruction entry (fields_of prefix) f.answers.0 instruction
is_instruction entry prefix fields f memory_is chosen_is meaning length =
    meaning_is entry prefix fields f memory_is _
    (meaning ∙ ap (λ row. gives row (bit fields.r) fields.vvvv fields.reg (target_seen fields.e) fields.imm)
    chosen_is) length
