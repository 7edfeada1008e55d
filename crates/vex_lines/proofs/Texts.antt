-- How long a note is, and that hex digits are a text.
use Rattle.std.specs.Prelude.{◌≡◌, refl, ℕ, ◌<◌, ◌≤◌, ◌/◌, ◌%◌, nat_le, nat_lt, Bool, true, ◌&&◌, List, [], ◌∷◌, length}
use Rattle.std.specs.Prelude.{slice_index, IsUtf8}
use Rattle.std.proofs.Common.{arith}
use Rattle.std.proofs.lemmas.Bool.{and_parts}
use Rattle.std.proofs.lemmas.Bool.Decides.{nat_tests}
use Rattle.std.proofs.lemmas.Str.{IsUtf8-from_ascii}
use Rattle.std.proofs.lemmas.Str.Ascii.{IsAscii-nil, IsAscii-cons}
use Rattle.std.specs.Str.{IsAscii}
use Rattle.hex.specs.Hex.{encode_lower, encode_with, lower_digits}
use Rattle.x86_operand.specs.declared.note.Note.{Note}
use Rattle.x86_operand.specs.declared.note.Note.TheVariants.{P0}
use Rattle.x86_operand.specs.Note.{note_text}

below : (most n : ℕ) → nat_le n most ≡ true → n ≤ most
below most n h = grind (arith, nat_tests)

-- no note's text is longer than 64 bytes
note_test : (n : Note) → nat_le (length (note_text n)) 64 ≡ true
note_test P0 = refl
note_test _ = refl

pub short_note : (n : Note) → length (note_text n) ≤ 64
short_note n = below 64 (length (note_text n)) (note_test n)

-- the computed test of an ASCII text
abbrev each_ascii : List ℕ → Bool
each_ascii [] = true
each_ascii (b ∷ bs) = nat_lt b 128 && each_ascii bs

ascii_byte : (b : ℕ) → nat_lt b 128 ≡ true → b < 128
ascii_byte b h = grind (arith, nat_tests)

ascii_from : (bs : List ℕ) → each_ascii bs ≡ true → IsAscii bs
ascii_from [] h = IsAscii-nil
ascii_from (b ∷ bs) h = let parts = and_parts _ _ h in IsAscii-cons b bs (ascii_byte b parts.0) (ascii_from bs parts.1)

ascii_digits : IsAscii lower_digits
ascii_digits = ascii_from lower_digits refl

ascii_hex : (bs : List ℕ) → IsAscii (encode_lower bs)
unfolding encode_with
ascii_hex [] = IsAscii-nil
ascii_hex (b ∷ bs) =
    IsAscii-cons (slice_index lower_digits (b / 16)) (slice_index lower_digits (b % 16) ∷ encode_lower bs)
    (ascii_digits (b / 16))
    (IsAscii-cons (slice_index lower_digits (b % 16)) (encode_lower bs) (ascii_digits (b % 16)) (ascii_hex bs))

-- hex digits are UTF-8
pub utf8_hex : (bs : List ℕ) → IsUtf8 (encode_lower bs)
utf8_hex bs = IsUtf8-from_ascii (encode_lower bs) (ascii_hex bs)
