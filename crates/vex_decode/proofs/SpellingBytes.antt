-- The bytes of a spelling: each is below 256, and there are 3 to 11 of them.
use Rattle.std.specs.Prelude.{ℕ, ◌+◌, ◌-◌, ◌*◌, ◌≤◌, ◌<◌, Bool, true, false, List, ◌∷◌, ◌++◌, length}
use Rattle.std.proofs.Common.{arith, sym, subst, length-append}
use Rattle.x86_operand.specs.Meaning.{Meaning}
use Rattle.x86_address.specs.Bytes.{IsBytes, bit}
use Rattle.x86_address.specs.Place.{Place, NoPlace, place_bytes}
use Rattle.x86_address.specs.Bytes.Lemmas.{IsBytes-append}
use Rattle.x86_address.specs.Place.Lemmas.{IsBytes-place_bytes, tail_length}
use Rattle.vex_rows.specs.Row.{Row, IsRow, has_imm}
use Rattle.vex_rows.specs.Steps.{steps}
use Rattle.vex_rows.specs.Rules.{map_number, pp_number}
use Rattle.vex_rows.specs.Table.Lemmas.{byte_below}
use Rattle.vex_rows.specs.Row.Lemmas.{chosen-row}
use Rattle.vex_forms.specs.Fields.{Fields}
use Rattle.vex_decode.specs.Fields.{PrefixForm, C4, C5, prefix_bytes, IsPrefix}
use Rattle.vex_decode.specs.Spelling.{Syntax, imm_bytes, bytes_of, FitsReg, FitsImm, IsSyntax, Spells}
use Rattle.vex_decode.proofs.Prefix.{pp_below, map_below, bit_below}

-- a prefix has two or three bytes
pub prefix_length : (form : PrefixForm) (f : Fields)
    → (2 ≤ length (prefix_bytes form f)) × (length (prefix_bytes form f) ≤ 3)
prefix_length C5 f = (omega arith, omega arith)
prefix_length C4 f = (omega arith, omega arith)

place_length : (reg : ℕ) (p : Place) → length (place_bytes reg p) ≤ 6
place_length reg NoPlace = omega arith
place_length reg p = omega (arith, tail_length p)

imm_length : (has : Bool) (imm : ℕ) → length (imm_bytes has imm) ≤ 1
imm_length true imm = omega arith
imm_length false imm = omega arith

-- a spelling has 3 to 11 bytes
pub bytes_of_length : (row : Row) (s : Syntax) → (3 ≤ length (bytes_of row s)) × (length (bytes_of row s) ≤ 11)
bytes_of_length row s =
    let front = prefix_length s.form s.fields in
    let place : length (place_bytes s.reg s.place) ≤ 6 = place_length s.reg s.place in
    let imm : length (imm_bytes (has_imm row) s.imm) ≤ 1 = imm_length (has_imm row) s.imm in
    simp length-append (omega arith, omega arith)

pub spelling_length : (bytes : List ℕ) (m : Meaning) → Spells bytes m → (3 ≤ length bytes) × (length bytes ≤ 11)
spelling_length bytes m spells = subst (λ b. (3 ≤ length b) × (length b ≤ 11)) (sym spells.by.written)
    (bytes_of_length spells.row spells.by.parts)

-- the bytes of a prefix are bytes
low_below : (t v l pp : ℕ) → t ≤ 1 → v ≤ 15 → l ≤ 1 → pp < 4 → 128 * t + (8 * (15 - v) + 4 * l + pp) < 256
low_below t v l pp ht hv hl hp = omega arith

high_below : (r x b k : ℕ) → r ≤ 1 → x ≤ 1 → b ≤ 1 → k < 32 → 128 * r + 64 * x + 32 * b + k < 256
high_below r x b k hr hx hb hk = omega arith

pub IsBytes-prefix_bytes : (form : PrefixForm) (f : Fields) → IsPrefix form f → IsBytes (prefix_bytes form f)
IsBytes-prefix_bytes C5 f is = (
  omega arith,
  (low_below (1 - f.r) f.v f.l (pp_number f.pp) (omega arith) is.v is.l (pp_below f.pp), tt),
)
IsBytes-prefix_bytes C4 f is = (
  omega arith,
  (
    high_below (1 - f.r) (1 - bit f.x) (1 - bit f.b) (map_number f.map) (omega arith) (omega arith) (omega arith)
        (map_below f.map),
    (low_below (bit f.w) f.v f.l (pp_number f.pp) (bit_below f.w) is.v is.l (pp_below f.pp), tt),
  ),
)

reg_below : (has : Bool) (reg : ℕ) → FitsReg has reg → reg < 8
reg_below true reg h = h
reg_below false reg h = omega arith

IsBytes-imm_bytes : (has : Bool) (imm : ℕ) → FitsImm has imm → IsBytes (imm_bytes has imm)
IsBytes-imm_bytes true imm h = (h, tt)
IsBytes-imm_bytes false imm h = tt

-- a spelling is a byte string
pub IsBytes-bytes_of : (row : Row) (s : Syntax) → IsRow row → IsSyntax row s → IsBytes (bytes_of row s)
IsBytes-bytes_of row s is_row is =
    let byte = byte_below row.entry (chosen-row row is_row).listed in
    let place = IsBytes-place_bytes s.reg s.place (reg_below (steps row.entry.form).modrm s.reg is.reg) is.place in
    let imm = IsBytes-imm_bytes (has_imm row) s.imm is.imm in
    IsBytes-append (prefix_bytes s.form s.fields)
    (row.entry.byte ∷ (place_bytes s.reg s.place ++ imm_bytes (has_imm row) s.imm))
    (IsBytes-prefix_bytes s.form s.fields is.prefix)
    (byte, IsBytes-append (place_bytes s.reg s.place) (imm_bytes (has_imm row) s.imm) place imm)

pub IsBytes-spelling : (bytes : List ℕ) (m : Meaning) → Spells bytes m → IsBytes bytes
IsBytes-spelling bytes m spells = subst IsBytes (sym spells.by.written)
    (IsBytes-bytes_of spells.row spells.by.parts spells.is_row spells.by.fits)
