-- The bank of every slot of a row has sixteen registers, and so has that of its index.
use Rattle.std.specs.Prelude.{◌≡◌, refl, ℕ, ◌<◌, Bool, true, false, ◌==◌, ◌&&◌, List, [], ◌∷◌, ◌++◌, flat_map, length}
use Rattle.std.specs.Prelude.{if◌then◌else◌}
use Rattle.std.proofs.Common.{zero, suc, arith, get_or}
use Rattle.x86_opcode.specs.declared.Opcode.{Opcode}
use Rattle.x86_opcode.specs.declared.Opcode.TheVariants.{Integer, Float}
use Rattle.x86_opcode.specs.declared.IntegerOpcode.TheVariants as integer
use Rattle.x86_opcode.specs.declared.FloatOpcode.TheVariants as float
use Rattle.x86_operand.specs.declared.register.RegisterBank.TheVariants.{Q, X, Y}
use Rattle.vex_rows.specs.declared.form_row.BankRule.{BankRule}
use Rattle.vex_rows.specs.declared.form_row.BankRule.TheVariants as rule
use Rattle.vex_rows.specs.declared.form_row.SlotRule.{SlotRule}
use Rattle.vex_rows.specs.declared.form_row.SlotRule.TheVariants as slot_rule
use Rattle.vex_rows.specs.Few.{items}
use Rattle.vex_rows.specs.FormRows.{form_row, gathers}
use Rattle.vex_rows.specs.Row.{Row, is_memory}
use Rattle.vex_forms.specs.declared.slot.Slot.{Slot}
use Rattle.vex_forms.specs.declared.slot.Slot.TheVariants.{V}
use Rattle.vex_forms.specs.Slots.{slots, slots_at, index_bank, bank_at, vector, general, element_bank, gather_bank}
use Rattle.vex_forms.specs.Slots.{gather_index_bank}
use Rattle.vex_forms.specs.Operands.{has_sixteen, slot_fits, slots_fit}

vector_fits : (l : ℕ) → has_sixteen (vector l) ≡ true
vector_fits l = by (l == 0) where
  by : (b : Bool) → has_sixteen (if b then X else Y) ≡ true
  by true = refl
  by false = refl

general_fits : (w : Bool) → has_sixteen (general w) ≡ true
general_fits true = refl
general_fits false = refl

element_fits : (o : Opcode) → has_sixteen (element_bank o) ≡ true
element_fits (Integer integer.VPEXTRQ) = refl
element_fits (Integer integer.VPINSRQ) = refl
element_fits _ = refl

gather_fits : (l : ℕ) (o : Opcode) → has_sixteen (gather_bank l o) ≡ true
gather_fits l (Integer integer.VPGATHERQD) = refl
gather_fits l (Float float.VGATHERQPS) = refl
gather_fits l _ = vector_fits l

-- every bank that a form can name fits
bank_fits : (row : Row) (bank : BankRule) → has_sixteen (bank_at row bank) ≡ true
bank_fits row rule.ByL = vector_fits row.l
bank_fits row rule.ByW = general_fits row.w
bank_fits row rule.Element = element_fits row.entry.opcode
bank_fits row rule.Gather = gather_fits row.l row.entry.opcode
bank_fits row _ = refl

both_fit : (a b : Bool) → (a && b) ≡ true → (a ≡ true) × (b ≡ true)
both_fit true b h = (refl, h)
both_fit false b h = cc

-- one slot after another fits
fits_then : (a b : Bool) → a ≡ true → b ≡ true → (a && b) ≡ true
fits_then true b h k = k
fits_then false b h k = cc

fits_append : (xs ys : List Slot) → slots_fit xs ≡ true → slots_fit ys ≡ true → slots_fit (xs ++ ys) ≡ true
fits_append [] ys h k = k
fits_append (x ∷ xs) ys h k =
    let both = both_fit (slot_fits x) (slots_fit xs) h in
    fits_then (slot_fits x) (slots_fit (xs ++ ys)) both.0 (fits_append xs ys both.1 k)

rule_fits : (row : Row) (slot : SlotRule) → slots_fit (slots_at row slot) ≡ true
rule_fits row (slot_rule.G bank) = fits_then _ true (bank_fits row bank) refl
rule_fits row (slot_rule.V bank) = fits_then _ true (bank_fits row bank) refl
rule_fits row (slot_rule.VInRegister bank) = by (is_memory row.kind) where
  by : (b : Bool) → slots_fit (if b then [] else V (bank_at row bank) ∷ []) ≡ true
  by true = refl
  by false = fits_then _ true (bank_fits row bank) refl
rule_fits row (slot_rule.E bank) = fits_then _ true (bank_fits row bank) refl
rule_fits row slot_rule.U8 = refl
rule_fits row slot_rule.I8 = refl
rule_fits row (slot_rule.R4 bank) = fits_then _ true (bank_fits row bank) refl

rules_fit : (row : Row) (slots : List SlotRule) → slots_fit (flat_map (slots_at row) slots) ≡ true
rules_fit row [] = refl
rules_fit row (slot ∷ slots) = fits_append (slots_at row slot) (flat_map (slots_at row) slots) (rule_fits row slot)
    (rules_fit row slots)

pub slots_fit_row : (row : Row) → slots_fit (slots row) ≡ true
unfolding slots
slots_fit_row row = rules_fit row (items (form_row row.entry.form).slots)

gather_index_fits : (l : ℕ) (o : Opcode) → has_sixteen (gather_index_bank l o) ≡ true
gather_index_fits l (Integer integer.VPGATHERDQ) = refl
gather_index_fits l (Float float.VGATHERDPD) = refl
gather_index_fits l _ = vector_fits l

pub index_fits_row : (row : Row) → has_sixteen (index_bank row) ≡ true
unfolding index_bank
index_fits_row row = by (gathers row.entry.form) where
  by : (b : Bool) → has_sixteen (if b then gather_index_bank row.l row.entry.opcode else Q) ≡ true
  by true = gather_index_fits row.l row.entry.opcode
  by false = refl

-- where all slots fit, so does each
pub slot_fits_at : (slots : List Slot) (i : ℕ) (s : Slot) → slots_fit slots ≡ true → i < length slots
    → slot_fits (get_or slots i s) ≡ true
slot_fits_at [] i s fit h = absurd (omega arith)
slot_fits_at (x ∷ slots) zero s fit h = (both_fit (slot_fits x) (slots_fit slots) fit).0
slot_fits_at (x ∷ slots) (suc i) s fit h =
    slot_fits_at slots i s (both_fit (slot_fits x) (slots_fit slots) fit).1 (omega arith)
