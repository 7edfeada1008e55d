-- The names of settings and opcodes are text, so that what isn't text is no name.
use Rattle.std.proofs.Common.{◌≡◌, ◌<◌, ◌∙◌, ◌&&◌, ℕ, Bool, true, List, [], ◌∷◌, Some, refl, ap, sym, bytes_eq, nat_lt}
use Rattle.std.proofs.Common.{arith, inl, inr}
use Rattle.std.specs.List.{list_any}
use Rattle.std.specs.Map.{keys_of}
use Rattle.std.specs.Option.{is_some}
use Rattle.std.specs.Str.{IsAscii, IsUtf8}
use Rattle.std.proofs.lemmas.Bool.{and_parts, or_cases}
use Rattle.std.proofs.lemmas.Map.Made.{is_some-lookup}
use Rattle.std.proofs.lemmas.Slice.Eq.{bytes_eq-Decides}
use Rattle.std.proofs.lemmas.Bool.Decides.{nat_tests}
use Rattle.std.proofs.lemmas.Str.{IsUtf8-from_ascii}
use Rattle.std.proofs.lemmas.Str.Ascii.{IsAscii-nil, IsAscii-cons}
use Rattle.x86_opcode.specs.declared.Opcode.{Opcode}
use Rattle.x86_opcode.specs.declared.Opcode.TheVariants.{Invalid, BSF, Legacy, Integer, Float, Fused, Marked}
use Rattle.x86_opcode.specs.declared.LegacyOpcode.TheVariants as legacy
use Rattle.x86_opcode.specs.declared.IntegerOpcode.TheVariants as integer
use Rattle.x86_opcode.specs.declared.FloatOpcode.TheVariants as float
use Rattle.x86_opcode.specs.declared.FusedOpcode.TheVariants as fused
use Rattle.x86_opcode.specs.declared.MarkedOpcode.TheVariants as marked
use Rattle.x86_opcode.specs.Name.{opcode_name}
use Rattle.x86_uarch.specs.Profiles.{profile_of, profiles}

-- whether each byte is one of ASCII
abbrev is_plain : List ℕ → Bool
is_plain [] = true
is_plain (byte ∷ bytes) = nat_lt byte 128 && is_plain bytes

below : (byte : ℕ) → nat_lt byte 128 ≡ true → byte < 128
below byte is = grind (arith, nat_tests)

ascii : (bytes : List ℕ) → is_plain bytes ≡ true → IsAscii bytes
ascii [] is = IsAscii-nil
ascii (byte ∷ bytes) is =
    let parts = and_parts _ _ is in IsAscii-cons byte bytes (below byte parts.0) (ascii bytes parts.1)

plain_text : (bytes : List ℕ) → is_plain bytes ≡ true → IsUtf8 bytes
plain_text bytes is = IsUtf8-from_ascii bytes (ascii bytes is)

-- whether each name has bytes of ASCII alone
abbrev each_plain : List (List ℕ) → Bool
each_plain [] = true
each_plain (name ∷ names) = is_plain name && each_plain names

plain-among : (names : List (List ℕ)) (name : List ℕ) → each_plain names ≡ true → list_any (bytes_eq name) names ≡ true
    → IsUtf8 name
plain-among [] name all is = cc
plain-among (first ∷ names) name all is =
    let parts = and_parts _ _ all in
    elim (or_cases _ _ is) [
      | inl here ↦ rw ((bytes_eq-Decides name first).0 here) (plain_text first parts.0)
      | inr there ↦ plain-among names name parts.1 there
    ]

profiles_text : each_plain (keys_of profiles) ≡ true
unfolding profiles
profiles_text = refl

-- the name of a profile is text
pub profile_text : (name : List ℕ) (settings : List Bool) → profile_of name ≡ Some settings → IsUtf8 name
unfolding profile_of
profile_text name settings found =
    plain-among (keys_of profiles) name profiles_text
    (sym (is_some-lookup (bytes_eq name) profiles) ∙ ap is_some found)

opcode_test : (o : Opcode) → is_plain (opcode_name o) ≡ true
unfolding opcode_name
opcode_test Invalid = refl
opcode_test BSF = refl
opcode_test (Legacy legacy.FEMMS) = refl
opcode_test (Integer integer.VZEROALL) = refl
opcode_test (Float float.VADDPS) = refl
opcode_test (Fused fused.VFMADD132PS) = refl
opcode_test (Marked marked.VEXP2PD) = refl
opcode_test _ = refl

-- the name of an opcode is text
pub opcode_text : (o : Opcode) (name : List ℕ) → opcode_name o ≡ name → IsUtf8 name
opcode_text o name e = rw (← e) (plain_text (opcode_name o) (opcode_test o))
