-- The byte strings that the choices make. Private functions alone cite what stands here.
use Rattle.std.specs.Prelude.{◌≡◌, ℕ, ◌-◌, ◌/◌, ◌%◌, ◌<◌, ◌==◌, Bool, true, List, if◌then◌else◌}
use Rattle.std.specs.List.{list_any}
use Rattle.x86_operand.specs.Meaning.{Meaning}
use Rattle.x86_operand.specs.declared.address.Address.{Address}
use Rattle.x86_address.specs.Bytes.{bit}
use Rattle.x86_address.specs.Place.{Place, Target, NoTarget, Number, At}
use Rattle.x86_address.specs.Shortest.{plain}
use Rattle.vex_rows.specs.declared.entry.Entry.{Entry}
use Rattle.vex_rows.specs.Row.{Row, IsRow, Among, has_imm}
use Rattle.vex_forms.specs.Layout.{may_be, row_for}
use Rattle.vex_forms.specs.Operands.{target_seen}
use Rattle.vex_forms.specs.Slots.{slots, names_g, v_rule}
use Rattle.vex_forms.specs.Fields.{Fields}
use Rattle.vex_decode.specs.Fields.{CanSay}
use Rattle.vex_decode.specs.Spelling.{bytes_of, SpellsBy}
use Rattle.vex_encode.specs.Standard.{reg_for, imm_of}
use Rattle.vex_list.specs.declared.choices.PrefixForm.TheVariants.{TwoBytes, ThreeBytes}
use Rattle.vex_list.specs.declared.choices.Width.{Width}
use Rattle.vex_list.specs.declared.choices.Width.TheVariants.{NoBytes, OneByte, FourBytes}
use Rattle.vex_list.specs.declared.choices.AddressForm.{AddressForm}
use Rattle.vex_list.specs.declared.choices.AddressForm.TheVariants.{WithoutSib, WithSib}
use Rattle.vex_list.specs.declared.choices.Choices.{Choices}
use Rattle.vex_list.specs.declared.choices.RowParts.{RowParts}
use Rattle.vex_list.specs.Choices.{made, place_with, Allows, FormFits, r_fixed, x_fixed, b_fixed, v_fixed, lows_of}
use Rattle.vex_list.specs.Choices.{g_number, v_number, e_target, imm_operand, prefix_form}
use Rattle.vex_list.specs.Next.{Between}

-- the fields of a prefix by the parts
abbrev pub seen_fields : RowParts → Choices → Fields
seen_fields parts c = record {
  map = parts.map;
  pp = parts.pp;
  w = parts.w;
  l = bit parts.l;
  r = bit c.r;
  x = c.x;
  b =
      c.b;
  v = c.vvvv;
}

-- the place of an address in a form
abbrev pub address_place : AddressForm → Address → Place
address_place form address = place_with form (At (plain address))

-- the parts are those of a row and a meaning
pub record IsRowParts (row : Row) (m : Meaning) (parts : RowParts) : Type 0 where
  pub map : parts.map ≡ row.entry.map
  pub pp : parts.pp ≡ row.entry.pp
  pub w : parts.w ≡ row.w
  pub l : bit parts.l ≡ row.l
  pub byte : parts.byte ≡ row.entry.byte
  pub reg : parts.reg ≡ reg_for row.group (g_number row m)
  pub target : target_seen parts.e ≡ e_target row m
  pub has_imm : parts.has_imm ≡ has_imm row
  pub imm : parts.imm ≡ imm_of (imm_operand row m)
  pub lows : parts.lows ≡ lows_of (imm_operand row m)
  pub r : parts.r ≡ r_fixed (list_any names_g (slots row)) (g_number row m)
  pub x : parts.x ≡ x_fixed (e_target row m)
  pub b : parts.b ≡ b_fixed (e_target row m)
  pub v : parts.vvvv ≡ v_fixed (v_rule row) (v_number row m)

-- a choice with another of its parts
abbrev pub with_low : Choices → ℕ → Choices
with_low c n = record { form = c.form; r = c.r; x = c.x; b = c.b; vvvv = c.vvvv; address = c.address; low = n }

abbrev pub with_address : Choices → AddressForm → Choices
with_address c form = record { form = c.form; r = c.r; x = c.x; b = c.b; vvvv = c.vvvv; address = form; low = c.low }

abbrev pub with_vvvv : Choices → ℕ → Choices
with_vvvv c n = record { form = c.form; r = c.r; x = c.x; b = c.b; vvvv = n; address = c.address; low = c.low }

-- the form of a prefix and its bits R, X and B with a number
unfoldable pub prefix_choice : ℕ → Choices
prefix_choice n = record {
  form = if n / 8 == 0 then ThreeBytes else TwoBytes;
  r = n / 4 % 2 == 0;
  x = n / 2 % 2 == 0;
  b =
      n % 2 == 0;
  vvvv = 0;
  address = WithoutSib NoBytes;
  low = 0;
}

-- the row leaves the form of a prefix and its bits R, X and B open
pub record IsOpenPrefix (parts : RowParts) (c : Choices) : Type 0 where
  pub form : CanSay (prefix_form c.form) (seen_fields parts c)
  pub r : Allows parts.r c.r
  pub x : Allows parts.x c.x
  pub b : Allows parts.b c.b

-- how many forms a target has
abbrev pub address_forms : Target → ℕ
address_forms NoTarget = 1
address_forms (Number n) = 1
address_forms (At a) = 15

-- the width with a number
abbrev pub width_at : ℕ → Width
width_at n = if n == 0 then NoBytes else if n == 1 then OneByte else FourBytes

-- the form of an address with a number
unfoldable pub address_form : ℕ → AddressForm
address_form n = if n % 5 == 0 then WithoutSib (width_at (n / 5)) else WithSib (n % 5 - 1) (width_at (n / 5))

module _ (row : Row) (m : Meaning) (parts : RowParts) where
  -- the bytes of one choice, and over the values of each part, from the last to the first
  abbrev pub ByChoice : Choices → List ℕ → Type 0
  ByChoice c bytes = bytes ≡ bytes_of row (made row m c)

  abbrev pub ByLow : Choices → List ℕ → Type 0
  ByLow c = Between 0 parts.lows (λ n. ByChoice (with_low c n))

  abbrev pub ByAddress : Choices → List ℕ → Type 0
  ByAddress c bytes = (form : AddressForm) × FormFits (target_seen parts.e) form × ByLow (with_address c form) bytes

  abbrev pub ByVvvv : Choices → List ℕ → Type 0
  ByVvvv c bytes = (v : ℕ) × (v < 16) × Allows parts.vvvv v × ByAddress (with_vvvv c v) bytes

  -- over what the row leaves open of the form of a prefix and its bits R, X and B
  abbrev pub ByPrefix : Choices → List ℕ → Type 0
  ByPrefix c bytes = IsOpenPrefix parts c × ByVvvv c bytes

-- the strings by a choice of an entry, where it is a row
pub record ByChosen (m : Meaning) (entry : Entry) (w l memory : Bool) (group : ℕ) (bytes : List ℕ) : Type 0 where
  pub may_be : may_be entry memory ≡ true
  pub is_row : IsRow (row_for entry w l memory group)
  pub by : SpellsBy bytes m (row_for entry w l memory group)

-- the strings by all choices of an entry
abbrev pub ByEntry : Meaning → Entry → List ℕ → Type 0
ByEntry m entry b = (w : Bool) × (l : Bool) × (memory : Bool) × Between 0 8 (ByChosen m entry w l memory) b

-- the strings by some entries
abbrev pub ByEntries : Meaning → List Entry → List ℕ → Type 0
ByEntries m entries bytes = (entry : Entry) × Among entry entries × ByEntry m entry bytes
