-- What is read of a text, part by part: private functions, proofs and `meaning_of` cite this, and no public contract.
use Rattle.std.specs.Prelude.{ℕ, zero, suc, ℤ, pos, negsuc, neg_ℤ, ◌+◌, ◌-◌, ◌*◌, Bool, false, cond, not, List, [], ◌∷◌}
use Rattle.std.specs.Prelude.{◌++◌, Option, Some, None, codes, length, nat_lt, nat_le, bytes_eq, ◌==◌, ◌&&◌}
use Rattle.std.specs.Prelude.{if◌then◌else◌, option_map}
use Rattle.std.specs.Char.{is_ascii_digit}
use Rattle.std.specs.Int.RustNames.{int_le}
use Rattle.x86_operand.specs.declared.address.Index.{Index}
use Rattle.x86_operand.specs.declared.address.Address.{Address}
use Rattle.x86_operand.specs.declared.register.RegisterBank.{RegisterBank}
use Rattle.x86_operand.specs.declared.register.RegisterBank.TheVariants.{Q, D, X, Y, Z, RIP}
use Rattle.x86_operand.specs.Register.{Register, greatest}
use Rattle.x86_operand.specs.Meaning.{OperandMeaning, register, signed, unsigned, memory, nothing}

infixl 10 ◌>>=◌
abbrev pub ◌>>=◌ : {A B : Type 0} → Option A → (A → Option B) → Option B
None >>= f = None
(Some x) >>= f = f x

-- a value where a test holds
abbrev pub when : {A : Type 0} → Bool → A → Option A
when b x = cond b (Some x) None

-- the number of digits behind those of n, where it is below 10^10
abbrev pub digits_on : ℕ → List ℕ → Option ℕ
digits_on n [] = Some n
digits_on n (b ∷ bs) = cond (is_ascii_digit b && nat_lt n 1000000000) (digits_on (n * 10 + (b - 48)) bs) None

-- whether this is not empty, and its first byte no 0 that others follow
abbrev pub may_be_number : List ℕ → Bool
may_be_number [] = false
may_be_number (b ∷ bs) = not (b == 48 && nat_lt 0 (length bs))

-- the number of a text in decimal
unfoldable pub number_of : List ℕ → Option ℕ
number_of bs = cond (may_be_number bs) (digits_on 0 bs) None

-- a negative number
abbrev pub negative : ℕ → Option ℤ
negative zero = None
negative (suc n) = Some (negsuc n)

-- the signed number of a text
unfoldable pub signed_of : List ℕ → Option ℤ
signed_of [] = None
signed_of (b ∷ bs) = if b == 45 then number_of bs >>= negative else option_map pos (number_of (b ∷ bs))

-- a number below 256
unfoldable pub byte_of : List ℕ → Option ℕ
byte_of bs = number_of bs >>= λ n. when (nat_lt n 256) n

-- the bank of a letter
abbrev pub bank_of : ℕ → Option RegisterBank
bank_of b =
    if b == 113 then Some Q else
    if b == 100 then Some D else
    if b == 120 then Some X else
    if b == 121 then Some Y else
    if b == 122 then Some Z else None

-- the register of this number in a bank
abbrev pub in_bank : RegisterBank → ℕ → Option Register
in_bank bank n = when (nat_le n (greatest bank)) (record { bank = bank; num = n })

-- the register of a letter and a number
unfoldable pub lettered_of : List ℕ → Option Register
lettered_of [] = None
lettered_of (b ∷ bs) = bank_of b >>= λ bank. byte_of bs >>= in_bank bank

-- the register of a text
unfoldable pub register_of : List ℕ → Option Register
register_of bs = if bytes_eq bs (codes "rip") then Some (record { bank = RIP; num = 0 }) else lettered_of bs

-- what stands before and after the first byte c
unfoldable pub cut : ℕ → List ℕ → Option (List ℕ × List ℕ)
cut c [] = None
cut c (b ∷ bs) = cond (b == c) (Some ([], bs)) (cut c bs >>= λ p. Some (b ∷ p.0, p.1))

-- the base of an address
unfoldable pub base_of : List ℕ → Option (Option Register)
base_of bs = if bytes_eq bs (codes "-") then Some None else option_map Some (register_of bs)

-- an index register and its scale
unfoldable pub scaled_of : List ℕ → Option Index
scaled_of bs = do
  parts ← cut 42 bs
  reg ← register_of parts.0
  scale ← byte_of parts.1
  Some (record { reg = reg; scale = scale })

-- the index of an address
unfoldable pub index_of : List ℕ → Option (Option Index)
index_of bs = if bytes_eq bs (codes "-") then Some None else option_map Some (scaled_of bs)

-- a displacement
unfoldable pub displacement_of : List ℕ → Option ℤ
displacement_of bs = signed_of bs >>= λ z. when (int_le (neg_ℤ (pos 2147483648)) z && int_le z (pos 2147483647)) z

-- an address behind its `m`
unfoldable pub address_of : List ℕ → Option Address
address_of bs = do
  front ← cut 47 bs
  back ← cut 47 front.1
  base ← base_of front.0
  index ← index_of back.0
  disp ← displacement_of back.1
  Some (record { base = base; index = index; disp = disp })

-- a signed byte
unfoldable pub signed_byte_of : List ℕ → Option ℤ
signed_byte_of bs = signed_of bs >>= λ z. when (int_le (neg_ℤ (pos 128)) z && int_le z (pos 127)) z

-- an immediate, an address or a register, by the first letter
unfoldable pub begun_of : List ℕ → Option OperandMeaning
begun_of [] = None
begun_of (b ∷ bs) =
    if b == 105 then option_map signed (signed_byte_of bs) else
    if b == 117 then option_map unsigned (byte_of bs) else
    if b == 109 then option_map memory (address_of bs) else
    option_map register (register_of (b ∷ bs))

-- an operand
unfoldable pub operand_of : List ℕ → Option OperandMeaning
operand_of bs = if bytes_eq bs (codes "nothing") then Some nothing else begun_of bs

-- a memory size, 0 for none
unfoldable pub size_of : List ℕ → Option (Option ℕ)
size_of bs = byte_of bs >>= λ n. if n == 0 then Some None else when (nat_le n 64) (Some n)

-- the operands and the memory size behind the name
unfoldable pub rest_of : List (List ℕ) → Option (List OperandMeaning × Option ℕ)
rest_of [] = None
rest_of (last ∷ []) = size_of last >>= λ size. Some ([], size)
rest_of (bs ∷ next ∷ rest) = operand_of bs >>= λ operand. rest_of (next ∷ rest) >>= λ found. Some
    (operand ∷ found.0, found.1)

-- at most four operands
abbrev pub few : Option (List OperandMeaning × Option ℕ) → Option (List OperandMeaning × Option ℕ)
few read = read >>= λ found. when (nat_le (length found.0) 4) found

-- operands in front of what is found
abbrev pub behind : List OperandMeaning → Option (List OperandMeaning × Option ℕ)
    → Option (List OperandMeaning × Option ℕ)
behind front read = read >>= λ found. Some (front ++ found.0, found.1)
