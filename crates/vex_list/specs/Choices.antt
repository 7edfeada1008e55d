-- What a meaning and a row leave open to a spelling. Private functions and one law alone cite what stands here.
use Rattle.std.specs.Prelude.{◌≡◌, ℕ, ◌+◌, ◌%◌, ◌<◌, ℤ, Bool, if◌then◌else◌, Option, Some, None}
use Rattle.x86_operand.specs.Kind.{Kind, WithoutModRM, InRegister, InMemory, plain_kind}
use Rattle.x86_operand.specs.Meaning.{number_of, Meaning, OperandMeaning, register}
use Rattle.x86_address.specs.Bytes.{bit, Displacement, Absent, Short, Long}
use Rattle.x86_address.specs.Place.{Place, NoPlace, Direct, Based, RipBased, Scaled, Baseless, Base, NoBase, Rip}
use Rattle.x86_address.specs.Place.{Numbered, Target, NoTarget, Number, At}
use Rattle.x86_address.specs.Shortest.{index_field, doubleword_of, is_upper}
use Rattle.vex_rows.specs.Row.{Row}
use Rattle.vex_forms.specs.declared.slot.Slot.{Slot}
use Rattle.vex_forms.specs.declared.slot.VvvvRule.{VvvvRule}
use Rattle.vex_forms.specs.declared.slot.VvvvRule.TheVariants.{Named, Zero, Free}
use Rattle.vex_forms.specs.Slots.{slots, names_g, names_v, names_e, names_imm}
use Rattle.vex_forms.specs.Fields.{Fields}
use Rattle.vex_decode.specs.Fields.{PrefixForm, C4, C5}
use Rattle.vex_decode.specs.Spelling.{Syntax}
use Rattle.vex_encode.specs.Standard.{operand_of_kind, imm_of, target_of, reg_for}
use Rattle.vex_list.specs.declared.choices.PrefixForm as code
use Rattle.vex_list.specs.declared.choices.PrefixForm.TheVariants.{TwoBytes, ThreeBytes}
use Rattle.vex_list.specs.declared.choices.Width.{Width}
use Rattle.vex_list.specs.declared.choices.Width.TheVariants.{NoBytes, OneByte, FourBytes}
use Rattle.vex_list.specs.declared.choices.AddressForm.{AddressForm}
use Rattle.vex_list.specs.declared.choices.AddressForm.TheVariants.{WithoutSib, WithSib}
use Rattle.vex_list.specs.declared.choices.Choices.{Choices}
use Rattle.vex_list.specs.declared.operands.SlotKind.{SlotKind}
use Rattle.vex_list.specs.declared.operands.SlotKind.TheVariants as of_kind

-- whether a slot is of the kind
abbrev pub names : SlotKind → Slot → Bool
names of_kind.G slot = names_g slot
names of_kind.V slot = names_v slot
names of_kind.E slot = names_e slot
names of_kind.Immediate slot = names_imm slot

-- the kind of operand E, whatever index an address has
abbrev pub kind_by : Bool → Bool → Kind
kind_by modrm in_memory = if modrm then (if in_memory then InMemory else InRegister) else WithoutModRM

-- ---- the form of an address

-- an exponent has two bits
abbrev pub IsAddressForm : AddressForm → Type 0
IsAddressForm (WithoutSib width) = Unit {0}
IsAddressForm (WithSib k width) = k < 4

-- the fields of a choice fit their bits
pub record IsChoices (c : Choices) : Type 0 where
  pub v : c.vvvv < 16
  pub address : IsAddressForm c.address

-- an address has any form, and all else that of no address
abbrev pub FormFits : Target → AddressForm → Type 0
FormFits NoTarget form = form ≡ WithoutSib NoBytes
FormFits (Number n) form = form ≡ WithoutSib NoBytes
FormFits (At a) form = IsAddressForm form

-- a displacement of a width
abbrev pub displacement_with : Width → ℤ → Displacement
displacement_with NoBytes z = Absent
displacement_with OneByte z = Short (doubleword_of z % 256)
displacement_with FourBytes z = Long (doubleword_of z)

-- the exponent that a form writes
abbrev pub exponent_in : AddressForm → ℕ
exponent_in (WithoutSib width) = 0
exponent_in (WithSib k width) = k

-- the place beside a numbered base
abbrev pub numbered_with : AddressForm → ℕ → Option (ℕ × ℕ) → ℤ → Place
numbered_with (WithoutSib width) n index disp = Based (n % 8) (displacement_with width disp)
numbered_with (WithSib k width) n index disp = Scaled k (index_field index) (n % 8) (displacement_with width disp)

-- the place of an address in a form
abbrev pub address_with : AddressForm → Base → Option (ℕ × ℕ) → ℤ → Place
address_with form NoBase index disp = Baseless (exponent_in form) (index_field index) (doubleword_of disp)
address_with form Rip index disp = RipBased (doubleword_of disp)
address_with form (Numbered n) index disp = numbered_with form n index disp

-- the place of a target in a form
abbrev pub place_with : AddressForm → Target → Place
place_with form NoTarget = NoPlace
place_with form (Number n) = Direct (n % 8)
place_with form (At a) = address_with form a.base a.index a.disp

-- ---- what a meaning says of the bytes by a row

-- the number of the register at the field reg
abbrev pub g_number : Row → Meaning → ℕ
g_number row m = number_of (operand_of_kind names_g (slots row) m.operands)

-- the number of the register at vvvv
abbrev pub v_number : Row → Meaning → ℕ
v_number row m = number_of (operand_of_kind names_v (slots row) m.operands)

-- what the bytes from ModRM on name
abbrev pub e_target : Row → Meaning → Target
e_target row m = target_of (plain_kind row.kind) (operand_of_kind names_e (slots row) m.operands)

-- the operand that the immediate byte names
abbrev pub imm_operand : Row → Meaning → OperandMeaning
imm_operand row m = operand_of_kind names_imm (slots row) m.operands

-- ---- what is fixed of the prefix

-- a value is one that isn't excluded: the fixed one, or any
abbrev pub Allows : {A : Type 0} → Option A → A → Type 0
Allows None x = Unit {0}
Allows (Some fixed) x = x ≡ fixed

-- R is fixed where a slot names the field reg
abbrev pub r_fixed : Bool → ℕ → Option Bool
r_fixed named g = if named then Some (is_upper g) else None

-- X is fixed by an index
abbrev pub x_of_index : Option (ℕ × ℕ) → Option Bool
x_of_index None = None
x_of_index (Some index) = Some (is_upper index.0)

abbrev pub x_fixed : Target → Option Bool
x_fixed NoTarget = None
x_fixed (Number n) = None
x_fixed (At a) = x_of_index a.index

-- B is fixed by a register, and by a base that has a number
abbrev pub b_of_base : Base → Option Bool
b_of_base NoBase = None
b_of_base Rip = None
b_of_base (Numbered n) = Some (is_upper n)

abbrev pub b_fixed : Target → Option Bool
b_fixed NoTarget = None
b_fixed (Number n) = Some (is_upper n)
b_fixed (At a) = b_of_base a.base

-- vvvv is fixed where a slot names it, and is 0 where a step demands it
abbrev pub v_fixed : VvvvRule → ℕ → Option ℕ
v_fixed Named v = Some (v % 16)
v_fixed Zero v = Some 0
v_fixed Free v = None

-- how many immediate bytes name an operand: 16 of a register, which the low half doesn't name
abbrev pub lows_of : OperandMeaning → ℕ
lows_of (register reg) = 16
lows_of _ = 1

-- ---- the spelling of a choice

-- the form of a prefix
abbrev pub prefix_form : code.PrefixForm → PrefixForm
prefix_form TwoBytes = C5
prefix_form ThreeBytes = C4

-- the fields of the prefix of a choice
abbrev pub chosen_fields : Row → Choices → Fields
chosen_fields row c = record {
  map = row.entry.map;
  pp = row.entry.pp;
  w = row.w;
  l = row.l;
  r = bit c.r;
  x = c.x;
  b =
      c.b;
  v = c.vvvv;
}

-- the parts that a choice makes for a meaning by a row
unfoldable pub made : Row → Meaning → Choices → Syntax
made row m c = record {
  form = prefix_form c.form;
  fields = chosen_fields row c;
  reg = reg_for row.group (g_number row m);
  place = place_with c.address (e_target row m);
  imm = imm_of (imm_operand row m) + c.low;
}
