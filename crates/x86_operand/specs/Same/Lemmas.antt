-- Lemmas that the models of types need for their tests of equality, and that no contract cites. Each test is true only
-- of values that are one (`same_x_equal`), and of each value and itself (`same_x_refl`); `same_x_decides` says both at
-- once.
use Rattle.std.proofs.Common.{◌≡◌, ℕ, Bool, true, nat_eq, List, map, Option, Some, None, refl, ap, subst}
use Rattle.std.specs.Bool.{Decides}
use Rattle.std.specs.Cmp.{first_so, second_so, unsigned_Decides, signed_Decides, booleans_Decides}
use Rattle.std.specs.Cmp.Derive.{both_true}
use Rattle.std.specs.Cmp.Derive.Mapped.{pointwise-map}
use Rattle.std.specs.Cmp.Lexicographic.{pointwise, pointwise_decides}
use Rattle.std.specs.Option.{option_eq}
use Rattle.std.specs.Ordering.{on}
use Rattle.x86_opcode.specs.Number.Lemmas.{same_opcode_equal, same_opcode_refl}
use Rattle.x86_operand.specs.declared.address.Address.{Address}
use Rattle.x86_operand.specs.declared.address.Index.{Index}
use Rattle.x86_operand.specs.declared.address.Operand.{Operand}
use Rattle.x86_operand.specs.declared.register.RegisterBank.{RegisterBank}
use Rattle.x86_operand.specs.declared.register.RegisterBank.TheVariants.{Q, D, X, Y, Z, RIP}
use Rattle.x86_operand.specs.Meaning.{OperandMeaning, register, signed, unsigned, memory, nothing, operand_meaning}
use Rattle.x86_operand.specs.Meaning.{Meaning, Decoded}
use Rattle.x86_operand.specs.Register.{Register}
use Rattle.x86_operand.specs.Same.{same_bank, same_register, same_index, same_address, same_operand, same_operands}
use Rattle.x86_operand.specs.Same.{same_meaning, same_decoded}

-- a test decides equality where it holds only of values that are one, and of each value and itself
decides : {K : Type 0} (test : K → K → Bool) → ((x y : K) → test x y ≡ true → x ≡ y) → ((x : K) → test x x ≡ true)
    → (x y : K) → Decides (test x y) (x ≡ y)
decides test equal itself x y = (equal x y, λ e. subst (λ z. test x z ≡ true) e (itself x))

-- where a test decides equality of values, the test of options by it decides that of options
option_equal : {K : Type 0} (test : K → K → Bool) → ((x y : K) → Decides (test x y) (x ≡ y)) → (a b : Option K)
    → option_eq test a b ≡ true → a ≡ b
option_equal test decided None None h = refl
option_equal test decided None (Some y) h = cc
option_equal test decided (Some x) None h = cc
option_equal test decided (Some x) (Some y) h = ap Some ((decided x y).0 h)

option_refl : {K : Type 0} (test : K → K → Bool) → ((x y : K) → Decides (test x y) (x ≡ y)) → (a : Option K)
    → option_eq test a a ≡ true
option_refl test decided None = refl
option_refl test decided (Some x) = (decided x x).1 refl

option_decides : {K : Type 0} (test : K → K → Bool) → ((x y : K) → Decides (test x y) (x ≡ y)) → (a b : Option K)
    → Decides (option_eq test a b) (a ≡ b)
option_decides test decided = decides (option_eq test) (option_equal test decided) (option_refl test decided)

-- ---- registers

pub same_bank_equal : (a b : RegisterBank) → same_bank a b ≡ true → a ≡ b
unfolding same_bank
same_bank_equal Q Q h = refl
same_bank_equal D D h = refl
same_bank_equal X X h = refl
same_bank_equal Y Y h = refl
same_bank_equal Z Z h = refl
same_bank_equal RIP RIP h = refl
same_bank_equal _ _ h = cc

pub same_bank_refl : (a : RegisterBank) → same_bank a a ≡ true
unfolding same_bank
same_bank_refl Q = refl
same_bank_refl D = refl
same_bank_refl X = refl
same_bank_refl Y = refl
same_bank_refl Z = refl
same_bank_refl RIP = refl

pub same_register_equal : (a b : Register) → same_register a b ≡ true → a ≡ b
unfolding same_register
same_register_equal a b h =
    let bank = same_bank_equal a.bank b.bank (first_so _ _ h) in
    let num = (unsigned_Decides a.num b.num).0 (second_so _ _ h) in
    λ i. record { bank = bank i; num = num i }

pub same_register_refl : (a : Register) → same_register a a ≡ true
unfolding same_register
same_register_refl a = both_true (same_bank_refl a.bank) ((unsigned_Decides a.num a.num).1 refl)

pub same_register_decides : (a b : Register) → Decides (same_register a b) (a ≡ b)
same_register_decides = decides same_register same_register_equal same_register_refl

-- ---- addresses

pub same_index_equal : (a b : Index) → same_index a b ≡ true → a ≡ b
unfolding same_index
same_index_equal a b h =
    let reg = same_register_equal a.reg b.reg (first_so _ _ h) in
    let scale = (unsigned_Decides a.scale b.scale).0 (second_so _ _ h) in
    λ i. record { reg = reg i; scale = scale i }

pub same_index_refl : (a : Index) → same_index a a ≡ true
unfolding same_index
same_index_refl a = both_true (same_register_refl a.reg) ((unsigned_Decides a.scale a.scale).1 refl)

pub same_index_decides : (a b : Index) → Decides (same_index a b) (a ≡ b)
same_index_decides = decides same_index same_index_equal same_index_refl

pub base_decides : (a b : Option Register) → Decides (option_eq same_register a b) (a ≡ b)
base_decides = option_decides same_register same_register_decides

pub indexed_decides : (a b : Option Index) → Decides (option_eq same_index a b) (a ≡ b)
indexed_decides = option_decides same_index same_index_decides

pub equal_addresses : (a b : Address) → a.base ≡ b.base → a.index ≡ b.index → a.disp ≡ b.disp → a ≡ b
equal_addresses a b base index disp = λ i. record { base = base i; index = index i; disp = disp i }

pub same_address_equal : (a b : Address) → same_address a b ≡ true → a ≡ b
unfolding same_address
same_address_equal a b h =
    let places = first_so _ _ h in
    equal_addresses a b
    ((base_decides a.base b.base).0 (first_so _ _ places))
    ((indexed_decides a.index b.index).0 (second_so _ _ places))
    ((signed_Decides a.disp b.disp).0 (second_so _ _ h))

pub same_address_refl : (a : Address) → same_address a a ≡ true
unfolding same_address
same_address_refl a =
    both_true
    (both_true ((base_decides a.base a.base).1 refl) ((indexed_decides a.index a.index).1 refl))
    ((signed_Decides a.disp a.disp).1 refl)

pub same_address_decides : (a b : Address) → Decides (same_address a b) (a ≡ b)
same_address_decides = decides same_address same_address_equal same_address_refl

-- ---- operands

pub same_operand_equal : (a b : OperandMeaning) → same_operand a b ≡ true → a ≡ b
unfolding same_operand
same_operand_equal (register a) (register b) h = ap register (same_register_equal a b h)
same_operand_equal (signed a) (signed b) h = ap signed ((signed_Decides a b).0 h)
same_operand_equal (unsigned a) (unsigned b) h = ap unsigned ((unsigned_Decides a b).0 h)
same_operand_equal (memory a) (memory b) h = ap memory (same_address_equal a b h)
same_operand_equal nothing nothing h = refl
same_operand_equal _ _ h = cc

pub same_operand_refl : (a : OperandMeaning) → same_operand a a ≡ true
unfolding same_operand
same_operand_refl (register a) = same_register_refl a
same_operand_refl (signed a) = (signed_Decides a a).1 refl
same_operand_refl (unsigned a) = (unsigned_Decides a a).1 refl
same_operand_refl (memory a) = same_address_refl a
same_operand_refl nothing = refl

pub same_operand_decides : (a b : OperandMeaning) → Decides (same_operand a b) (a ≡ b)
same_operand_decides = decides same_operand same_operand_equal same_operand_refl

pub same_operands_decides : (xs ys : List OperandMeaning) → Decides (same_operands xs ys) (xs ≡ ys)
unfolding same_operands
same_operands_decides = pointwise_decides same_operand_decides

pub same_operands_equal : (xs ys : List OperandMeaning) → same_operands xs ys ≡ true → xs ≡ ys
same_operands_equal xs ys = (same_operands_decides xs ys).0

pub same_operands_refl : (xs : List OperandMeaning) → same_operands xs xs ≡ true
same_operands_refl xs = (same_operands_decides xs xs).1 refl

-- operands of the code, compared one by one by what they mean
pub written_decides : (xs ys : List Operand)
    → Decides (pointwise (on operand_meaning same_operand) xs ys) (map operand_meaning xs ≡ map operand_meaning ys)
written_decides xs ys =
    let same = pointwise_decides same_operand_decides (map operand_meaning xs) (map operand_meaning ys) in
    rw pointwise-map at same

-- ---- meanings and instructions

pub size_decides : (a b : Option ℕ) → Decides (option_eq nat_eq a b) (a ≡ b)
size_decides = option_decides nat_eq unsigned_Decides

pub equal_meanings : (a b : Meaning) → a.evex ≡ b.evex → a.opcode ≡ b.opcode → a.operands ≡ b.operands
    → a.size ≡ b.size → a ≡ b
equal_meanings a b evex opcode operands size =
    λ i. record { evex = evex i; opcode = opcode i; operands = operands i; size = size i }

pub same_meaning_equal : (a b : Meaning) → same_meaning a b ≡ true → a ≡ b
unfolding same_meaning
same_meaning_equal a b h =
    let three = first_so _ _ h in
    let two = first_so _ _ three in
    equal_meanings a b
    ((booleans_Decides a.evex b.evex).0 (first_so _ _ two))
    (same_opcode_equal a.opcode b.opcode (second_so _ _ two))
    (same_operands_equal a.operands b.operands (second_so _ _ three))
    ((size_decides a.size b.size).0 (second_so _ _ h))

pub same_meaning_refl : (a : Meaning) → same_meaning a a ≡ true
unfolding same_meaning
same_meaning_refl a =
    both_true
    (both_true
    (both_true ((booleans_Decides a.evex a.evex).1 refl) (same_opcode_refl a.opcode))
    (same_operands_refl a.operands))
    ((size_decides a.size a.size).1 refl)

pub same_decoded_equal : (a b : Decoded) → same_decoded a b ≡ true → a ≡ b
unfolding same_decoded
same_decoded_equal a b h =
    let meaning = same_meaning_equal a.meaning b.meaning (first_so _ _ h) in
    let len = (unsigned_Decides a.len b.len).0 (second_so _ _ h) in
    λ i. record { meaning = meaning i; len = len i }

pub same_decoded_refl : (a : Decoded) → same_decoded a a ≡ true
unfolding same_decoded
same_decoded_refl a = both_true (same_meaning_refl a.meaning) ((unsigned_Decides a.len a.len).1 refl)

pub same_decoded_decides : (a b : Decoded) → Decides (same_decoded a b) (a ≡ b)
same_decoded_decides = decides same_decoded same_decoded_equal same_decoded_refl

-- ---- what a search is given

-- for a comparison of addresses and operands by their parts
pub ruleset address_parts = (same_register_decides, base_decides, indexed_decides, equal_addresses)

-- for a comparison of instructions by their parts
pub ruleset meaning_parts = (written_decides, size_decides, equal_meanings)
