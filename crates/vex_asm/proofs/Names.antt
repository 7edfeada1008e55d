-- The names of opcodes: short, and of letters and digits alone.
use Rattle.std.proofs.Common.{◌≡◌, ◌≤◌, ◌<◌, ◌&&◌, ℕ, Bool, true, List, [], ◌∷◌, length, nat_le, refl, arith}
use Rattle.std.proofs.lemmas.Bool.{and_parts}
use Rattle.std.proofs.lemmas.Bool.Decides.{nat_tests}
use Rattle.std.proofs.lemmas.Str.{IsUtf8-from_ascii}
use Rattle.std.proofs.lemmas.Str.Ascii.{IsAscii-nil, IsAscii-cons}
use Rattle.std.specs.Char.{is_ascii_alphanumeric}
use Rattle.std.specs.Str.{IsAscii, IsUtf8}
use Rattle.x86_opcode.specs.declared.Opcode.{Opcode}
use Rattle.x86_opcode.specs.declared.Opcode.TheVariants.{Invalid, BSF, Legacy, Integer, Float, Fused, Marked}
use Rattle.x86_opcode.specs.declared.LegacyOpcode.TheVariants as legacy
use Rattle.x86_opcode.specs.declared.IntegerOpcode.TheVariants as integer
use Rattle.x86_opcode.specs.declared.FloatOpcode.TheVariants as float
use Rattle.x86_opcode.specs.declared.FusedOpcode.TheVariants as fused
use Rattle.x86_opcode.specs.declared.MarkedOpcode.TheVariants as marked
use Rattle.x86_opcode.specs.Name.{opcode_name}
use Rattle.vex_asm.specs.Text.{is_filled}

-- whether each byte is a letter or a digit
abbrev pub is_name : List ℕ → Bool
is_name [] = true
is_name (b ∷ bs) = is_ascii_alphanumeric b && is_name bs

-- the computed test of a name
abbrev is_good : List ℕ → Bool
is_good name = is_name name && (is_filled name && nat_le (length name) 16)

name_test : (o : Opcode) → is_good (opcode_name o) ≡ true
unfolding opcode_name
name_test Invalid = refl
name_test BSF = refl
name_test (Legacy legacy.FEMMS) = refl
name_test (Integer integer.VZEROALL) = refl
name_test (Float float.VADDPS) = refl
name_test (Fused fused.VFMADD132PS) = refl
name_test (Marked marked.VEXP2PD) = refl
name_test _ = refl

-- the name of an opcode has letters and digits alone
pub name_plain : (o : Opcode) → is_name (opcode_name o) ≡ true
name_plain o = (and_parts _ _ (name_test o)).0

-- the name of an opcode has a letter
pub name_filled : (o : Opcode) → is_filled (opcode_name o) ≡ true
name_filled o = (and_parts _ _ (and_parts _ _ (name_test o)).1).0

-- no opcode's name is longer than 16 bytes
pub name_short : (o : Opcode) → length (opcode_name o) ≤ 16
name_short o = below (length (opcode_name o)) (and_parts _ _ (and_parts _ _ (name_test o)).1).1 where
  below : (n : ℕ) → nat_le n 16 ≡ true → n ≤ 16
  below n h = grind (arith, nat_tests)

ascii_letter : (b : ℕ) → is_ascii_alphanumeric b ≡ true → b < 128
ascii_letter b h = grind arith

ascii_from_name : (bs : List ℕ) → is_name bs ≡ true → IsAscii bs
ascii_from_name [] h = IsAscii-nil
ascii_from_name (b ∷ bs) h =
    let parts = and_parts _ _ h in
    IsAscii-cons b bs (ascii_letter b parts.0) (ascii_from_name bs parts.1)

-- the name of an opcode is UTF-8
pub name_utf8 : (o : Opcode) (name : List ℕ) → opcode_name o ≡ name → IsUtf8 name
name_utf8 o name e = rw (← e) (IsUtf8-from_ascii (opcode_name o) (ascii_from_name (opcode_name o) (name_plain o)))
