-- The meaning that is put together from the opcode, the slots and the size of a row is the one that the row gives.
use Rattle.std.specs.Prelude.{◌≡◌, ℕ, true, false, List, map, Option}
use Rattle.std.proofs.Common.{ap, ◌∙◌}
use Rattle.x86_operand.specs.Meaning.{Meaning}
use Rattle.x86_address.specs.Place.{Target}
use Rattle.x86_opcode.specs.declared.Opcode.{Opcode}
use Rattle.x86_operand.specs.declared.register.RegisterBank.{RegisterBank}
use Rattle.vex_rows.specs.Row.{Row, mark_of, opcode_of}
use Rattle.vex_forms.specs.declared.slot.Slot.{Slot}
use Rattle.vex_forms.specs.Slots.{index_bank, size_of, slots}
use Rattle.vex_forms.specs.Gives.{gives, slot_operand}
use Rattle.vex_forms.specs.Operands.{has_sixteen, slots_fit}
use Rattle.vex_forms.proofs.Fit.{slots_fit_row, index_fits_row}

pub meaning_given : (row : Row) (opcode : Opcode) (seen : List Slot) (bank : RegisterBank) (size : Option ℕ)
    (r v reg : ℕ) (e : Target) (imm : ℕ) (meaning : Meaning) →
    opcode ≡ opcode_of row → seen ≡ slots row → bank ≡ index_bank row → size ≡ size_of row →
    (slots_fit seen ≡ true → has_sixteen bank ≡ true
    → meaning ≡ record {
      evex = false;
      opcode = opcode;
      operands =
          map (slot_operand bank r v reg e imm) seen;
      size = size;
    }) →
    meaning ≡ gives row r v reg e imm
unfolding gives mark_of
meaning_given row opcode seen bank size r v reg e imm meaning same_opcode same_slots same_bank same_size given =
    given (ap slots_fit same_slots ∙ slots_fit_row row) (ap has_sixteen same_bank ∙ index_fits_row row)
    ∙ (λ i. record {
      evex = false;
      opcode = same_opcode i;
      operands =
          map (slot_operand (same_bank i) r v reg e imm) (same_slots i);
      size = same_size i;
    })
