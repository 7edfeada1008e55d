pub mod Lemmas
use Rattle.std.specs.Prelude.{ℕ, Bool, true, false, ◌==◌, ◌||◌, List, [], ◌∷◌, find, flat_map, Option, Some, None}
use Rattle.std.specs.Prelude.{if◌then◌else◌}
use Rattle.std.specs.List.{list_any}
use Rattle.x86_opcode.specs.declared.Opcode.{Opcode}
use Rattle.x86_opcode.specs.declared.Opcode.TheVariants.{Float, Integer}
use Rattle.x86_opcode.specs.declared.FloatOpcode.TheVariants as float
use Rattle.x86_opcode.specs.declared.IntegerOpcode.TheVariants as integer
use Rattle.x86_opcode.specs.Number.{same_opcode}
use Rattle.x86_operand.specs.declared.register.RegisterBank.{RegisterBank}
use Rattle.x86_operand.specs.declared.register.RegisterBank.TheVariants.{Q, D, X, Y}
use Rattle.x86_operand.specs.Kind.{Kind}
use Rattle.vex_rows.specs.declared.form.Form.{Form}
use Rattle.vex_rows.specs.declared.form_row.BankRule.{BankRule}
use Rattle.vex_rows.specs.declared.form_row.BankRule.TheVariants as rule
use Rattle.vex_rows.specs.declared.form_row.ByteCount.{ByteCount}
use Rattle.vex_rows.specs.declared.form_row.ByteCount.TheVariants.{Nothing, Is, ByL, ByW}
use Rattle.vex_rows.specs.declared.form_row.SizeRule.{SizeRule}
use Rattle.vex_rows.specs.declared.form_row.SizeRule.TheVariants.{Always, ByOpcode}
use Rattle.vex_rows.specs.declared.form_row.SlotRule.{SlotRule}
use Rattle.vex_rows.specs.declared.form_row.SlotRule.TheVariants as slot_rule
use Rattle.vex_rows.specs.declared.steps.Check.{Check}
use Rattle.vex_rows.specs.declared.steps.Check.TheVariants.{V0, VifMem}
use Rattle.vex_rows.specs.Few.{items}
use Rattle.vex_rows.specs.FormRows.{form_row, gathers, sizes}
use Rattle.vex_rows.specs.Steps.{steps}
use Rattle.vex_rows.specs.Row.{Row, is_memory}
use Rattle.vex_forms.specs.declared.slot.Slot.{Slot}
use Rattle.vex_forms.specs.declared.slot.Slot.TheVariants.{G, V, E, U8, I8, R4}
use Rattle.vex_forms.specs.declared.slot.VvvvRule.{VvvvRule}
use Rattle.vex_forms.specs.declared.slot.VvvvRule.TheVariants.{Named, Zero, Free}

-- the vector bank of an L: x with 0, y with 1
abbrev pub vector : ℕ → RegisterBank
vector l = if l == 0 then X else Y

-- the general bank of a W: d with 0, q with 1
abbrev pub general : Bool → RegisterBank
general w = if w then Q else D

-- the general bank of an element: q for the 64-bit ones
abbrev pub element_bank : Opcode → RegisterBank
element_bank (Integer integer.VPEXTRQ) = Q
element_bank (Integer integer.VPINSRQ) = Q
element_bank _ = D

-- the bank of a gather's operands: x where the elements are half as wide as the indices
abbrev pub gather_bank : ℕ → Opcode → RegisterBank
gather_bank l (Integer integer.VPGATHERQD) = X
gather_bank l (Float float.VGATHERQPS) = X
gather_bank l _ = vector l

-- the bank of a gather's index: x where the indices are half as wide as the elements
abbrev pub gather_index_bank : ℕ → Opcode → RegisterBank
gather_index_bank l (Integer integer.VPGATHERDQ) = X
gather_index_bank l (Float float.VGATHERDPD) = X
gather_index_bank l _ = vector l

-- the bank that a form names
abbrev pub bank_at : Row → BankRule → RegisterBank
bank_at row rule.X = X
bank_at row rule.Y = Y
bank_at row rule.D = D
bank_at row rule.Q = Q
bank_at row rule.ByL = vector row.l
bank_at row rule.ByW = general row.w
bank_at row rule.Element = element_bank row.entry.opcode
bank_at row rule.Gather = gather_bank row.l row.entry.opcode

-- the slots that a form names by one rule: one, and none in memory where it is there for registers alone
abbrev pub slots_at : Row → SlotRule → List Slot
slots_at row (slot_rule.G bank) = G (bank_at row bank) ∷ []
slots_at row (slot_rule.V bank) = V (bank_at row bank) ∷ []
slots_at row (slot_rule.VInRegister bank) = if is_memory row.kind then [] else V (bank_at row bank) ∷ []
slots_at row (slot_rule.E bank) = E (bank_at row bank) ∷ []
slots_at row slot_rule.U8 = U8 ∷ []
slots_at row slot_rule.I8 = I8 ∷ []
slots_at row (slot_rule.R4 bank) = R4 (bank_at row bank) ∷ []

-- the slots of a form, one for each operand in order
abbrev pub slots_of : Form → Row → List Slot
slots_of form row = flat_map (slots_at row) (items (form_row form).slots)

-- the slots of a row
unfoldable pub slots : Row → List Slot
slots row = slots_of row.entry.form row

-- the first of some slots
abbrev pub first_of : List Slot → Option Slot
first_of [] = None
first_of (slot ∷ slots) = Some slot

-- the bank of the index of a row's address: a vector register where its form gathers (Intel SDM volume 2, section
-- 2.3.12)
unfoldable pub index_bank : Row → RegisterBank
index_bank row = if gathers row.entry.form then gather_index_bank row.l row.entry.opcode else Q

-- the number of bytes that a form names, none where there is no memory operand
abbrev pub bytes_at : Row → ByteCount → Option ℕ
bytes_at row Nothing = None
bytes_at row (Is n) = Some n
bytes_at row (ByL narrow wide) = Some (if row.l == 0 then narrow else wide)
bytes_at row (ByW narrow wide) = Some (if row.w then wide else narrow)

-- whether a size is that of the opcode
abbrev pub is_of : Opcode → Opcode × ByteCount → Bool
is_of opcode size = same_opcode size.0 opcode

-- the size that was found, or else the other
abbrev pub found_or : Option (Opcode × ByteCount) → ByteCount → ByteCount
found_or None other = other
found_or (Some size) other = size.1

-- the size of the operand E in memory
abbrev pub size_at : Row → SizeRule → Option ℕ
size_at row (Always count) = bytes_at row count
size_at row (ByOpcode list other) = bytes_at row (found_or (find (is_of row.entry.opcode) (sizes list)) other)

-- the size of a row's memory operand, none where it has none
unfoldable pub size_of : Row → Option ℕ
size_of row =
    if is_memory row.kind then size_at row (form_row row.entry.form).size
    else bytes_at row (form_row row.entry.form).register_size

-- whether a bank goes by W
abbrev pub bank_goes_by_w : BankRule → Bool
bank_goes_by_w rule.ByW = true
bank_goes_by_w _ = false

-- whether the bank of a slot does
abbrev pub slot_goes_by_w : SlotRule → Bool
slot_goes_by_w (slot_rule.G bank) = bank_goes_by_w bank
slot_goes_by_w (slot_rule.V bank) = bank_goes_by_w bank
slot_goes_by_w (slot_rule.VInRegister bank) = bank_goes_by_w bank
slot_goes_by_w (slot_rule.E bank) = bank_goes_by_w bank
slot_goes_by_w slot_rule.U8 = false
slot_goes_by_w slot_rule.I8 = false
slot_goes_by_w (slot_rule.R4 bank) = bank_goes_by_w bank

-- whether a number of bytes does
abbrev pub count_goes_by_w : ByteCount → Bool
count_goes_by_w (ByW narrow wide) = true
count_goes_by_w _ = false

-- whether the size of the operand E does
abbrev pub size_goes_by_w : SizeRule → Bool
size_goes_by_w (Always count) = count_goes_by_w count
size_goes_by_w (ByOpcode list other) =
    count_goes_by_w other || list_any (λ size. count_goes_by_w size.1) (sizes list)

-- whether the rows of a form go by W: the bank of a slot or a size does
unfoldable pub goes_by_w : Form → Bool
goes_by_w form = list_any slot_goes_by_w (items (form_row form).slots) || size_goes_by_w (form_row form).size
    || count_goes_by_w (form_row form).register_size

-- whether a slot is that of the field reg
abbrev pub names_g : Slot → Bool
names_g (G bank) = true
names_g _ = false

-- whether a slot is that of vvvv
abbrev pub names_v : Slot → Bool
names_v (V bank) = true
names_v _ = false

-- whether a slot is that of the operand E
abbrev pub names_e : Slot → Bool
names_e (E bank) = true
names_e _ = false

-- whether a slot reads the immediate byte
abbrev pub names_imm : Slot → Bool
names_imm U8 = true
names_imm I8 = true
names_imm (R4 bank) = true
names_imm _ = false

-- whether a check demands that vvvv is 0, for this kind of operand
abbrev pub demands_v : Kind → Check → Bool
demands_v kind V0 = true
demands_v kind VifMem = is_memory kind
demands_v kind _ = false

-- what a row asks of vvvv: it names an operand, or it is 0 since a step demands it, or it plays no part (Intel SDM
-- volume 2, section 2.3.5.6)
unfoldable pub v_rule : Row → VvvvRule
v_rule row =
    if list_any names_v (slots row) then Named
    else if list_any (demands_v row.kind) (steps row.entry.form).before_modrm || list_any (demands_v row.kind)
    (steps row.entry.form).after_address
    then Zero else Free
