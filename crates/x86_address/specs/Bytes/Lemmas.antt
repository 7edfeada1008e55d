-- Lemmas on byte strings and on bytes that are packed from fields (ModRM, SIB and the bytes of a doubleword), which no
-- contract cites.
use Rattle.std.proofs.Common.{◌≡◌, inl, inr, ℕ, ◌+◌, ◌*◌, ◌/◌, ◌%◌, ◌^◌, ◌<◌, ◌≤◌, List, [], ◌∷◌, ◌++◌, length}
use Rattle.std.proofs.Common.{sym, subst, arith}
use Rattle.x86_address.specs.Bytes.{IsBytes, doubleword_bytes, Displacement, Absent, Short, Long, IsDisplacement}
use Rattle.x86_address.specs.Bytes.{displacement_bytes, IsUnit}

-- ---- fields

-- the top two bits of a packed byte
pub high_field : (m reg rm : ℕ) → reg < 8 → rm < 8 → (64 * m + 8 * reg + rm) / 64 ≡ m
high_field m reg rm p q = omega arith

-- its middle three bits
pub middle_field : (m reg rm : ℕ) → reg < 8 → rm < 8 → ((64 * m + 8 * reg + rm) / 8) % 8 ≡ reg
middle_field m reg rm p q = omega arith

-- its low three bits
pub low_field : (m reg rm : ℕ) → rm < 8 → (64 * m + 8 * reg + rm) % 8 ≡ rm
low_field m reg rm q = omega arith

-- equal packed bytes have equal fields
pub same_fields : (m reg rm m' reg' rm' : ℕ) → reg < 8 → rm < 8 → reg' < 8 → rm' < 8
    → 64 * m + 8 * reg + rm ≡ 64 * m' + 8 * reg' + rm' → (m ≡ m') × (reg ≡ reg') × (rm ≡ rm')
same_fields m reg rm m' reg' rm' p q p' q' e = (omega arith, omega arith, omega arith)

-- a byte is packed from its fields
pub packed : (n : ℕ) → 64 * (n / 64) + 8 * ((n / 8) % 8) + n % 8 ≡ n
packed n = omega arith

-- fields in range make a byte
pub packed_below : (m reg rm : ℕ) → m < 4 → reg < 8 → rm < 8 → 64 * m + 8 * reg + rm < 256
packed_below m reg rm p q r = omega arith

-- the top field of a byte has two bits
pub high_field_below : (n : ℕ) → n < 256 → n / 64 < 4
high_field_below n p = omega arith

-- the low field has three bits
pub low_field_below : (n : ℕ) → n % 8 < 8
low_field_below n = omega arith

-- a doubleword is the sum of its bytes
pub doubleword_of_bytes : (n : ℕ) → n < 2 ^ 32
    → n % 256 + 256 * ((n / 256) % 256) + 65536 * ((n / 65536) % 256) + 16777216 * ((n / 16777216) % 256) ≡ n
doubleword_of_bytes n p = omega arith

-- four bytes are those of the doubleword that they make
pub bytes_of_doubleword : (a b c d : ℕ) → a < 256 → b < 256 → c < 256 → d < 256
    → doubleword_bytes (a + 256 * b + 65536 * c + 16777216 * d) ≡ a ∷ b ∷ c ∷ d ∷ []
bytes_of_doubleword a b c d p q r s =
    let n = a + 256 * b + 65536 * c + 16777216 * d in
    let lowest : n % 256 ≡ a = omega arith in
    let second : (n / 256) % 256 ≡ b = omega arith in
    let third : (n / 65536) % 256 ≡ c = omega arith in
    let highest : (n / 16777216) % 256 ≡ d = omega arith in
    rw (lowest, second, third, highest)

-- ---- byte strings

-- two byte strings joined are one
pub IsBytes-append : (front back : List ℕ) → IsBytes front → IsBytes back → IsBytes (front ++ back)
IsBytes-append [] back p q = q
IsBytes-append (byte ∷ front) back p q = (p.0, IsBytes-append front back p.1 q)

-- the front of a byte string is one
pub IsBytes-front : (front back : List ℕ) → IsBytes (front ++ back) → IsBytes front
IsBytes-front [] back p = tt
IsBytes-front (byte ∷ front) back p = (p.0, IsBytes-front front back p.1)

-- the rest of a byte string is one
pub IsBytes-back : (front back : List ℕ) → IsBytes (front ++ back) → IsBytes back
IsBytes-back [] back p = p
IsBytes-back (byte ∷ front) back p = IsBytes-back front back p.1

-- the bytes of a doubleword are bytes
pub IsBytes-doubleword_bytes : (n : ℕ) → IsBytes (doubleword_bytes n)
IsBytes-doubleword_bytes n = (omega arith, (omega arith, (omega arith, (omega arith, tt))))

-- the bytes of a displacement are bytes
pub IsBytes-displacement_bytes : (d : Displacement) → IsDisplacement d → IsBytes (displacement_bytes d)
IsBytes-displacement_bytes Absent ok = tt
IsBytes-displacement_bytes (Short n) ok = (ok, tt)
IsBytes-displacement_bytes (Long n) ok = IsBytes-doubleword_bytes n

-- a displacement has at most four bytes
pub displacement_length : (d : Displacement) → length (displacement_bytes d) ≤ 4
displacement_length Absent = omega arith
displacement_length (Short n) = omega arith
displacement_length (Long n) = omega arith

-- ---- units

-- what holds of each unit
pub for_unit : (P : ℕ → Type 0) → P 1 → P 16 → P 32 → P 64 → {unit : ℕ} → IsUnit unit → P unit
for_unit P one sixteen thirty_two sixty_four (inl e) = subst P (sym e) one
for_unit P one sixteen thirty_two sixty_four (inr (inl e)) = subst P (sym e) sixteen
for_unit P one sixteen thirty_two sixty_four (inr (inr (inl e))) = subst P (sym e) thirty_two
for_unit P one sixteen thirty_two sixty_four (inr (inr (inr e))) = subst P (sym e) sixty_four
