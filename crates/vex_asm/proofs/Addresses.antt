-- Addresses: what is read is what is printed.
use Rattle.std.proofs.Common.{◌≡◌, ◌≤◌, ◌<◌, ◌==◌, ◌&&◌, ◌++◌, ℕ, suc, ℤ, pos, negsuc, neg_ℤ, Bool, true, false, not}
use Rattle.std.proofs.Common.{inl, inr, List, [], ◌∷◌, Option, Some, None, refl, sym, ap, ◌∙◌, arith, decimal, codes}
use Rattle.std.proofs.Common.{bytes_eq, IfSome, ◌≤ℤ◌, int_le}
use Rattle.std.proofs.lemmas.Bool.{and_parts, eqb-true, eq-eqb}
use Rattle.std.proofs.lemmas.Option.{same_Some, cond_some}
use Rattle.std.proofs.lemmas.Slice.Eq.{bytes_eq-Decides}
use Rattle.std.proofs.lemmas.Fmt.{digits_decimal}
use Rattle.std.specs.Str.{all_ascii_digits}
use Rattle.std.specs.Char.{is_ascii_digit}
use Rattle.std.specs.Fmt.{signed_decimal}
use lib.Signed.{mag}
use mathlib.Core.List.{append_assoc}
use Rattle.x86_operand.specs.declared.address.Index.{Index}
use Rattle.x86_operand.specs.declared.address.Address.{Address}
use Rattle.x86_operand.specs.declared.register.RegisterBank.{RegisterBank}
use Rattle.x86_operand.specs.declared.register.RegisterBank.TheVariants.{Q, D, X, Y, Z, RIP}
use Rattle.x86_operand.specs.Register.{Register, greatest}
use Rattle.x86_operand.specs.Range.{IsRegister, IsIndex, IsAddress}
use Rattle.vex_asm.specs.Text.{register_text_in, register_text, base_text, index_text, address_text, is_blank}
use Rattle.vex_asm.specs.Parsed.{scaled_of, index_of, cut, displacement_of, signed_byte_of, address_of}
use Rattle.vex_asm.proofs.Numbers.{own, both, bind_found, map_found, chosen, signed_of-decimal, decimal-signed_of}
use Rattle.vex_asm.proofs.Registers.{byte_of-decimal, decimal-byte_of, register_of-text, text-register_of, base_of-text}
use Rattle.vex_asm.proofs.Registers.{text-base_of}

-- whether each byte passes
abbrev pub each : (ℕ → Bool) → List ℕ → Bool
each p [] = true
each p (b ∷ bs) = p b && each p bs

pub each-append : (p : ℕ → Bool) (front bs : List ℕ) → each p front ≡ true → each p bs ≡ true
    → each p (front ++ bs) ≡ true
each-append p [] bs h k = k
each-append p (a ∷ front) bs h k = let parts = and_parts _ _ h in both _ _ parts.0 (each-append p front bs parts.1 k)

pub each-implied : (p q : ℕ → Bool) → ((b : ℕ) → p b ≡ true → q b ≡ true) → (bs : List ℕ) → each p bs ≡ true
    → each q bs ≡ true
each-implied p q f [] h = refl
each-implied p q f (b ∷ bs) h = let parts = and_parts _ _ h in both _ _ (f b parts.0) (each-implied p q f bs parts.1)

-- neither a blank nor a byte at which addresses are cut
abbrev pub is_plain : ℕ → Bool
is_plain b = not (is_blank b) && (not (b == 42) && not (b == 47))

digit_plain : (b : ℕ) → is_ascii_digit b ≡ true → is_plain b ≡ true
digit_plain b h = grind arith

plain_digits : (ds : List ℕ) → all_ascii_digits ds ≡ true → each is_plain ds ≡ true
plain_digits [] h = refl
plain_digits (b ∷ bs) h = let parts = and_parts _ _ h in both _ _ (digit_plain b parts.0) (plain_digits bs parts.1)

pub plain_decimal : (n : ℕ) → n < 10000000000 → each is_plain (decimal n) ≡ true
plain_decimal n h = plain_digits (decimal n) (digits_decimal own n (omega arith))

pub plain_signed : (z : ℤ) → mag z < 9999999999 → each is_plain (signed_decimal z) ≡ true
plain_signed (pos n) h = plain_decimal n (omega arith)
plain_signed (negsuc n) h = plain_decimal (suc n) (omega arith)

plain_in : (bank : RegisterBank) (n : ℕ) → n ≤ greatest bank → each is_plain (register_text_in bank n) ≡ true
plain_in Q n h = plain_decimal n (omega arith)
plain_in D n h = plain_decimal n (omega arith)
plain_in X n h = plain_decimal n (omega arith)
plain_in Y n h = plain_decimal n (omega arith)
plain_in Z n h = plain_decimal n (omega arith)
plain_in RIP n h = refl

pub plain_register : (reg : Register) → IsRegister reg → each is_plain (register_text reg) ≡ true
plain_register reg h = plain_in reg.bank reg.num h

pub plain_base : (base : Option Register) → IfSome base IsRegister → each is_plain (base_text base) ≡ true
plain_base None h = refl
plain_base (Some reg) h = plain_register reg h

-- what is cut at the first byte c
pub cut_at : (c : ℕ) (front bs : List ℕ) → each (λ b. not (b == c)) front ≡ true
    → cut c (front ++ c ∷ bs) ≡ Some (front, bs)
unfolding cut
cut_at c [] bs h = rw (eq-eqb c c refl) refl
cut_at c (a ∷ front) bs h =
    let parts : (not (a == c) ≡ true) × (each (λ b. not (b == c)) front ≡ true) = and_parts _ _ h in
    let no : (a == c) ≡ false = grind (arith, parts.0) in
    rw (no, cut_at c front bs parts.1) refl

pub cut_found : (c : ℕ) (bs : List ℕ) (p : List ℕ × List ℕ) → cut c bs ≡ Some p → bs ≡ p.0 ++ c ∷ p.1
unfolding cut
cut_found c [] p e = cc
cut_found c (b ∷ bs) p e = elim (chosen (b == c) _ _ _ e) as (λ _. (b ∷ bs) ≡ p.0 ++ c ∷ p.1) [
  | inl w ↦ let same : ([], bs) ≡ p = same_Some _ _ w.1 in rw (← same) (ap (λ x. x ∷ bs) (eqb-true _ _ w.0))
  | inr w ↦
      let found = bind_found _ _ _ w.1 in
      let same : (b ∷ found.0.0, found.0.1) ≡ p = same_Some _ _ found.2 in
      rw (← same) (ap (λ x. b ∷ x) (cut_found c bs found.0 found.1))
]

not_star : (b : ℕ) → is_plain b ≡ true → not (b == 42) ≡ true
not_star b h = (and_parts _ _ (and_parts _ _ h).1).0

not_slash : (b : ℕ) → is_plain b ≡ true → not (b == 47) ≡ true
not_slash b h = (and_parts _ _ (and_parts _ _ h).1).1

pub not_space : (b : ℕ) → is_plain b ≡ true → not (is_blank b) ≡ true
not_space b h = (and_parts _ _ h).0

with_star_in : (bank : RegisterBank) (n : ℕ) (bs : List ℕ)
    → bytes_eq (register_text_in bank n ++ 42 ∷ bs) (codes "-") ≡ false
with_star_in Q n bs = refl
with_star_in D n bs = refl
with_star_in X n bs = refl
with_star_in Y n bs = refl
with_star_in Z n bs = refl
with_star_in RIP n bs = refl

pub star_text : (index : Index) → index_text (Some index) ≡ register_text index.reg ++ 42 ∷ decimal index.scale
star_text index = rw append_assoc refl

scaled_of-text : (index : Index) → IsIndex index
    → scaled_of (register_text index.reg ++ 42 ∷ decimal index.scale) ≡ Some index
unfolding scaled_of
scaled_of-text index h =
    let free = each-implied is_plain _ not_star (register_text index.reg) (plain_register index.reg h.reg) in
    let split : cut 42 (register_text index.reg ++ 42 ∷ decimal index.scale)
    ≡ Some (register_text index.reg, decimal index.scale) = cut_at 42 _ _ free in
    rw (split, register_of-text index.reg h.reg, byte_of-decimal index.scale h.scale) refl

text-scaled_of : (bs : List ℕ) (index : Index) → scaled_of bs ≡ Some index
    → (bs ≡ index_text (Some index)) × IsIndex index
unfolding scaled_of
text-scaled_of bs index e =
    let parts = bind_found _ _ _ e in
    let reg = bind_found _ _ _ parts.2 in
    let scale = bind_found _ _ _ reg.2 in
    let same : record { reg = reg.0; scale = scale.0 } ≡ index = same_Some _ _ scale.2 in
    let left = text-register_of _ reg.0 reg.1 in
    let right = decimal-byte_of _ scale.0 scale.1 in
    rw (← same) (
      cut_found 42 bs parts.0 parts.1
          ∙ (ap (λ x. x ++ 42 ∷ parts.0.1) left.0
          ∙ (ap (λ x. register_text reg.0 ++ 42 ∷ x) right.0
          ∙ sym (star_text (record { reg = reg.0; scale = scale.0 })))),
      record { reg = left.1; scale = right.1 },
    )

-- an index is read from its text
pub index_of-text : (index : Option Index) → IfSome index IsIndex → index_of (index_text index) ≡ Some index
unfolding index_of
index_of-text None h = refl
index_of-text (Some index) h =
    rw (star_text index, with_star_in index.reg.bank index.reg.num (decimal index.scale), scaled_of-text index h) refl

-- what an index is read from is its text
pub text-index_of : (bs : List ℕ) (index : Option Index) → index_of bs ≡ Some index
    → (bs ≡ index_text index) × IfSome index IsIndex
unfolding index_of
text-index_of bs index e = elim (chosen (bytes_eq bs (codes "-")) _ _ _ e) as
    (λ _. (bs ≡ index_text index) × IfSome index IsIndex) [
      | inl w ↦ let same : None ≡ index = same_Some _ _ w.1 in rw (← same) ((bytes_eq-Decides _ _).0 w.0, tt)
      | inr w ↦ let found = map_found _ _ _ w.1 in rw (← found.2) (text-scaled_of bs found.0 found.1)
    ]

-- the ranges of displacements and of signed immediates
abbrev pub IsDisplacement : ℤ → Type 0
IsDisplacement z = (negsuc 2147483647 ≤ℤ z) × (z ≤ℤ pos 2147483647)

abbrev pub IsSignedByte : ℤ → Type 0
IsSignedByte z = (negsuc 127 ≤ℤ z) × (z ≤ℤ pos 127)

in_word : (z : ℤ) → IsDisplacement z → (int_le (neg_ℤ (pos 2147483648)) z && int_le z (pos 2147483647)) ≡ true
in_word z h = grind arith

in_word_found : (z : ℤ) → (int_le (neg_ℤ (pos 2147483648)) z && int_le z (pos 2147483647)) ≡ true → IsDisplacement z
in_word_found z h = grind arith

in_byte : (z : ℤ) → IsSignedByte z → (int_le (neg_ℤ (pos 128)) z && int_le z (pos 127)) ≡ true
in_byte z h = grind arith

in_byte_found : (z : ℤ) → (int_le (neg_ℤ (pos 128)) z && int_le z (pos 127)) ≡ true → IsSignedByte z
in_byte_found z h = grind arith

pub word_small : (z : ℤ) → IsDisplacement z → mag z < 9999999999
word_small (pos n) h = grind arith
word_small (negsuc n) h = grind arith

pub byte_small : (z : ℤ) → IsSignedByte z → mag z < 9999999999
byte_small (pos n) h = grind arith
byte_small (negsuc n) h = grind arith

-- a displacement is read from its text
pub displacement_of-text : (z : ℤ) → IsDisplacement z → displacement_of (signed_decimal z) ≡ Some z
unfolding displacement_of
displacement_of-text z h = rw (signed_of-decimal z (word_small z h), in_word z h) refl

pub text-displacement_of : (bs : List ℕ) (z : ℤ) → displacement_of bs ≡ Some z
    → (bs ≡ signed_decimal z) × IsDisplacement z
unfolding displacement_of
text-displacement_of bs z e =
    let found = bind_found _ _ _ e in
    let last = cond_some _ _ _ found.2 in
    rw (← last.1) (decimal-signed_of bs found.0 found.1, in_word_found found.0 last.0)

pub signed_byte_of-text : (z : ℤ) → IsSignedByte z → signed_byte_of (signed_decimal z) ≡ Some z
unfolding signed_byte_of
signed_byte_of-text z h = rw (signed_of-decimal z (byte_small z h), in_byte z h) refl

pub text-signed_byte_of : (bs : List ℕ) (z : ℤ) → signed_byte_of bs ≡ Some z → (bs ≡ signed_decimal z) × IsSignedByte z
unfolding signed_byte_of
text-signed_byte_of bs z e =
    let found = bind_found _ _ _ e in
    let last = cond_some _ _ _ found.2 in
    rw (← last.1) (decimal-signed_of bs found.0 found.1, in_byte_found found.0 last.0)

-- the text of an address, from the left
pub slash_text : (a : Address) → address_text a
    ≡ base_text a.base ++ 47 ∷ (index_text a.index ++ 47 ∷ signed_decimal a.disp)
slash_text a = rw (append_assoc, append_assoc, append_assoc) refl

index_free : (index : Option Index) → IfSome index IsIndex → each (λ b. not (b == 47)) (index_text index) ≡ true
index_free None h = refl
index_free (Some index) h = rw (star_text index)
    (each-append _ (register_text index.reg) (42 ∷ decimal index.scale)
    (each-implied is_plain _ not_slash (register_text index.reg) (plain_register index.reg h.reg))
    (each-implied is_plain _ not_slash (decimal index.scale) (plain_decimal index.scale (omega (arith, h.scale)))))

-- an address is read from its text
pub address_of-text : (a : Address) → IsAddress a → address_of (address_text a) ≡ Some a
unfolding address_of
address_of-text a h =
    let back : List ℕ = index_text a.index ++ 47 ∷ signed_decimal a.disp in
    let first : cut 47 (base_text a.base ++ 47 ∷ (index_text a.index ++ 47 ∷ signed_decimal a.disp))
    ≡ Some (base_text a.base, index_text a.index ++ 47 ∷ signed_decimal a.disp)
    = cut_at 47 (base_text a.base) _ (each-implied is_plain _ not_slash (base_text a.base) (plain_base a.base h.base))
    in
    let second : cut 47 (index_text a.index ++ 47 ∷ signed_decimal a.disp)
    ≡ Some (index_text a.index, signed_decimal a.disp)
    = cut_at 47 (index_text a.index) _ (index_free a.index h.index) in
    rw (
      slash_text a,
      first,
      second,
      base_of-text a.base h.base,
      index_of-text a.index h.index,
      displacement_of-text a.disp (h.low, h.high),
    ) refl

-- what an address is read from is its text
pub text-address_of : (bs : List ℕ) (a : Address) → address_of bs ≡ Some a → (bs ≡ address_text a) × IsAddress a
unfolding address_of
text-address_of bs a e =
    let front = bind_found _ _ _ e in
    let back = bind_found _ _ _ front.2 in
    let base = bind_found _ _ _ back.2 in
    let index = bind_found _ _ _ base.2 in
    let disp = bind_found _ _ _ index.2 in
    let same : record { base = base.0; index = index.0; disp = disp.0 } ≡ a = same_Some _ _ disp.2 in
    let one = text-base_of _ base.0 base.1 in
    let two = text-index_of _ index.0 index.1 in
    let three = text-displacement_of _ disp.0 disp.1 in
    rw (← same) (
      cut_found 47 bs front.0 front.1
          ∙ (ap (λ x. front.0.0 ++ 47 ∷ x) (cut_found 47 front.0.1 back.0 back.1)
          ∙ (ap (λ x. x ++ 47 ∷ (back.0.0 ++ 47 ∷ back.0.1)) one.0
          ∙ (ap (λ x. base_text base.0 ++ 47 ∷ (x ++ 47 ∷ back.0.1)) two.0
          ∙ (ap (λ x. base_text base.0 ++ 47 ∷ (index_text index.0 ++ 47 ∷ x)) three.0
          ∙ sym (slash_text (record { base = base.0; index = index.0; disp = disp.0 })))))),
      record { base = one.1; index = two.1; low = three.1.0; high = three.1.1 },
    )
