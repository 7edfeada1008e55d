-- The spellings that `make` generates, and the line that sums up how they are recoded.
use Rattle.std.specs.Prelude.{ℕ, zero, suc, ◌+◌, ◌*◌, ◌/◌, ◌%◌, ◌==◌, Bool, true, false, not, ◌&&◌, List, [], ◌∷◌, ◌++◌}
use Rattle.std.specs.Prelude.{length, codes, decimal, slice_get, unwrap_or, Option, Some, None, Result, Ok, Err, if◌then◌else◌}
use Rattle.std.specs.List.{sum}
use Rattle.x86_operand.specs.declared.error.DecodeError.{DecodeError}
use Rattle.x86_operand.specs.Meaning.{Decoded}
use Rattle.x86_settings.specs.Bits.{all_bits}
use Rattle.x86_address.specs.Bytes.{bit}
use Rattle.vex_rows.specs.declared.entry.Entry.{Entry}
use Rattle.vex_rows.specs.declared.entry.Rule.{Rule}
use Rattle.vex_rows.specs.declared.entry.Rule.TheVariants.{Any, Zero, One}
use Rattle.vex_rows.specs.declared.form.Form.{Form}
use Rattle.vex_rows.specs.declared.form.Form.TheVariants.{G_E_xmm_imm8}
use Rattle.vex_rows.specs.Row.{Row, exists, has_imm}
use Rattle.vex_rows.specs.Steps.{steps}
use Rattle.vex_rows.specs.Table.{table}
use Rattle.vex_forms.specs.declared.slot.VvvvRule.{VvvvRule}
use Rattle.vex_forms.specs.declared.slot.VvvvRule.TheVariants as vvvv
use Rattle.vex_forms.specs.Fields.{Fields}
use Rattle.vex_forms.specs.Layout.{may_be, row_for}
use Rattle.vex_forms.specs.Slots.{v_rule}
use Rattle.vex_forms.specs.Written.{imm_bytes}
use Rattle.vex_decode.specs.Fields.{C4, prefix_bytes}
use Rattle.vex_encode.specs.Recode.{recoded}

-- the bit of a number that has this weight
abbrev pub bit_of : ℕ → ℕ → Bool
bit_of n weight = (n / weight) % 2 == 1

-- W in round t: the rule's, or the lowest bit of t
abbrev pub w_made : Rule → ℕ → Bool
w_made Any t = bit_of t 1
w_made Zero t = false
w_made One t = true

-- L in round t where the rule leaves it open: 0 in the form that demands it, or else the second bit of t
abbrev pub l_free : Form → ℕ → Bool
l_free G_E_xmm_imm8 t = false
l_free _ t = bit_of t 2

-- L in round t: the rule's, or the free one
abbrev pub l_made : Rule → Form → ℕ → Bool
l_made Any form t = l_free form t
l_made Zero form t = false
l_made One form t = true

-- whether an entry has a row at a W, an L, a kind of the operand E and a reg field
abbrev pub has_row : Entry → Bool → Bool → Bool → ℕ → Bool
has_row entry w l memory reg = may_be entry memory && exists (row_for entry w l memory reg)

-- the greatest reg field below n at which an entry has such a row; without groups it has it at all of them, or at none
unfoldable pub greatest : Entry → Bool → Bool → Bool → ℕ → Option ℕ
greatest entry w l memory zero = None
greatest entry w l memory (suc n) = if has_row entry w l memory n then Some n else greatest entry w l memory n

-- a kind and the reg field that was found for it, or the other kind and its field where there is none
abbrev pub or_other : Bool → Option ℕ → Option ℕ → Option (Bool × ℕ)
or_other memory (Some reg) other = Some (memory, reg)
or_other memory None (Some reg) = Some (not memory, reg)
or_other memory None None = None

-- the kind of a row of an entry, whether it is in memory, and its greatest reg field: of the wanted kind, where the
-- entry has a row of that kind
abbrev pub kind_made : Entry → Bool → Bool → Bool → Option (Bool × ℕ)
kind_made entry w l memory = or_other memory (greatest entry w l memory 8) (greatest entry w l (not memory) 8)

-- vvvv in round t: the low four bits of t where it names an operand
abbrev pub v_made : VvvvRule → ℕ → ℕ
v_made vvvv.Named t = t % 16
v_made vvvv.Zero t = 0
v_made vvvv.Free t = 0

-- the fields of the prefix in round t
abbrev pub fields_made : Row → ℕ → Fields
fields_made row t = record {
  map = row.entry.map;
  pp = row.entry.pp;
  w = row.w;
  l = row.l;
  r = bit (bit_of t 8);
  x = false;
  b = bit_of t 4;
  v = v_made (v_rule row) t;
}

-- ModRM and what belongs to it: mod 3 and the register t mod 8, or mod 2, a SIB byte with index 1 and base 0, and four
-- bytes of displacement 0
abbrev pub operand_made : Bool → ℕ → ℕ → List ℕ
operand_made false reg t = (192 + 8 * reg + t % 8) ∷ []
operand_made true reg t = (128 + 8 * reg + 4) ∷ 8 ∷ 0 ∷ 0 ∷ 0 ∷ 0 ∷ []

-- the same, where there is a ModRM byte
abbrev pub operand_bytes : Bool → Bool → ℕ → ℕ → List ℕ
operand_bytes false memory reg t = []
operand_bytes true memory reg t = operand_made memory reg t

-- the immediate byte in round t
abbrev pub imm_made : ℕ → ℕ
imm_made t = 16 * (t % 16) + 5

-- the spelling by a row in round t: the prefix has three bytes, and the reg field is the row's group where it has one
abbrev pub bytes_made : Row → Bool → ℕ → List ℕ
bytes_made row memory t =
    prefix_bytes C4 (fields_made row t)
    ++ row.entry.byte ∷ (operand_bytes (steps row.entry.form).modrm memory (unwrap_or row.group (t % 8)) t
    ++ imm_bytes (has_imm row) (imm_made t))

-- the spelling by the row of an entry that was found in round t
abbrev pub spelling_by : Entry → Bool → Bool → ℕ → Option (Bool × ℕ) → List ℕ
spelling_by entry w l t None = []
spelling_by entry w l t (Some kind) = bytes_made (row_for entry w l kind.0 kind.1) kind.0 t

-- the spelling by an entry in round t: by a row with its operand E in a register where t is even, and else in memory
abbrev pub spelling_of : Option Entry → ℕ → List ℕ
spelling_of None t = []
spelling_of (Some entry) t =
    spelling_by entry (w_made entry.w t) (l_made entry.l entry.form t) t
    (kind_made entry (w_made entry.w t) (l_made entry.l entry.form t) (bit_of t 1))

-- the generated spelling of number i: the entries take turns in table order, and t counts the rounds
unfoldable pub generated : ℕ → List ℕ
generated i = spelling_of (slice_get table (i % length table)) (i / length table)

-- the length read and the canonical bytes that a recoding answers, where it answers an instruction
abbrev pub recoding_of : Result (Decoded × List ℕ) DecodeError → Option (ℕ × List ℕ)
recoding_of (Ok read) = Some (read.0.len, read.1)
recoding_of (Err error) = None

-- the length and the canonical bytes of the spelling that begins some bytes, where all settings permit it
unfoldable pub recoding : List ℕ → Option (ℕ × List ℕ)
recoding bytes = recoding_of (recoded all_bits bytes)

-- what a recoding counts for: one, its length read, the length of its canonical bytes, and their sum
abbrev pub one_of : Option (ℕ × List ℕ) → ℕ
one_of None = 0
one_of (Some r) = 1

abbrev pub read_of : Option (ℕ × List ℕ) → ℕ
read_of None = 0
read_of (Some r) = r.0

abbrev pub short_of : Option (ℕ × List ℕ) → ℕ
short_of None = 0
short_of (Some r) = length r.1

abbrev pub sum_of : Option (ℕ × List ℕ) → ℕ
sum_of None = 0
sum_of (Some r) = sum r.1

-- the sum over the first n generated spellings of what their recodings count for
unfoldable pub total : (Option (ℕ × List ℕ) → ℕ) → ℕ → ℕ
total f zero = 0
total f (suc n) = total f n + f (recoding (generated n))

-- the line that sums up n generated spellings: how many are recoded, and over these the lengths read, the lengths of
-- the canonical bytes, and these bytes themselves
unfoldable pub made : ℕ → List ℕ
made n =
    codes "made " ++ decimal n ++ codes " ok " ++ decimal (total one_of n) ++ codes " read "
    ++ decimal (total read_of n)
    ++ codes " short " ++ decimal (total short_of n) ++ codes " sum " ++ decimal (total sum_of n) ++ codes "\n"
