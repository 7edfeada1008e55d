use Rattle.std.specs.Prelude.{◌≡◌, ℕ, ◌+◌, ◌-◌, ◌*◌, ◌≤◌, Bool, false, not, ◌&&◌, ◌==◌, List, [], ◌∷◌, if◌then◌else◌}
use Rattle.x86_address.specs.Bytes.{bit}
use Rattle.vex_rows.specs.declared.key.Map.TheVariants.{Map0F}
use Rattle.vex_rows.specs.Rules.{map_number, pp_number}
use Rattle.vex_forms.specs.Fields.{Fields}

-- the form of a prefix: two bytes from C5 on, or three from C4 on
pub data PrefixForm : Type 0 where
  C5 : PrefixForm
  C4 : PrefixForm

-- the last byte of a prefix but for its top bit: v inverted, l and pp
abbrev pub low_byte : Fields → ℕ
low_byte f = 8 * (15 - f.v) + 4 * f.l + pp_number f.pp

-- the bytes of a prefix (Intel SDM volume 2, figure 2-9)
abbrev pub prefix_bytes : PrefixForm → Fields → List ℕ
prefix_bytes C5 f = 0xC5 ∷ (128 * (1 - f.r) + low_byte f) ∷ []
prefix_bytes C4 f =
    0xC4 ∷ (128 * (1 - f.r) + 64 * (1 - bit f.x) + 32 * (1 - bit f.b) + map_number f.map)
    ∷ (128 * bit f.w + low_byte f) ∷ []

-- the fields that a two-byte prefix can't say have their only values
pub record FitsTwoBytes (f : Fields) : Type 0 where
  pub map : f.map ≡ Map0F
  pub w : f.w ≡ false
  pub x : f.x ≡ false
  pub b : f.b ≡ false

-- the fields that a form of prefix can't say have their only values
abbrev pub CanSay : PrefixForm → Fields → Type 0
CanSay C5 f = FitsTwoBytes f
CanSay C4 f = Unit {0}

-- the fields fit their bits, and the form of prefix can say them
pub record IsPrefix (form : PrefixForm) (f : Fields) : Type 0 where
  pub l : f.l ≤ 1
  pub r : f.r ≤ 1
  pub v : f.v ≤ 15
  pub can_say : CanSay form f

-- whether the two-byte prefix can say the fields: map 0F, and W, X and B are 0 (Intel SDM volume 2, section 2.3.5)
abbrev pub fits_two_bytes : Fields → Bool
fits_two_bytes f = map_number f.map == 1 && not f.w && not f.x && not f.b

-- the form of the shortest prefix that can say the fields
abbrev pub shortest_form : Fields → PrefixForm
shortest_form f = if fits_two_bytes f then C5 else C4
