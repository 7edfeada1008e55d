-- Registers and addresses: what is read is what is printed.
use Rattle.std.proofs.Common.{◌≡◌, ◌≤◌, ◌==◌, ℕ, Bool, true, false, cond, ◌⊎◌, inl, inr, List, [], ◌∷◌, Option, Some}
use Rattle.std.proofs.Common.{None, nat_lt, nat_le, refl, sym, ap, ◌∙◌, arith, decimal, codes, bytes_eq, IfSome}
use Rattle.std.proofs.lemmas.Bool.{eqb-true}
use Rattle.std.proofs.lemmas.Option.{same_Some, cond_some}
use Rattle.std.proofs.lemmas.Slice.Eq.{bytes_eq-Decides}
use Rattle.x86_operand.specs.declared.register.RegisterBank.{RegisterBank}
use Rattle.x86_operand.specs.declared.register.RegisterBank.TheVariants.{Q, D, X, Y, Z, RIP}
use Rattle.x86_operand.specs.Register.{Register, greatest}
use Rattle.x86_operand.specs.Range.{IsRegister}
use Rattle.vex_asm.specs.Text.{register_text_in, register_text, base_text}
use Rattle.vex_asm.specs.Parsed.{◌>>=◌, byte_of, bank_of, in_bank, lettered_of, register_of, base_of}
use Rattle.vex_asm.proofs.Numbers.{number_of-decimal, decimal-number_of, bind_found, map_found, chosen}

small_enough : (n m : ℕ) → n ≤ m → nat_le n m ≡ true
small_enough n m h = grind arith

-- a byte is read from its decimal text
pub byte_of-decimal : (n : ℕ) → n ≤ 255 → byte_of (decimal n) ≡ Some n
unfolding byte_of
byte_of-decimal n h =
    let small : nat_lt n 256 ≡ true = grind arith in
    rw (number_of-decimal n (omega arith), small) refl

-- what a byte is read from is its decimal text
pub decimal-byte_of : (bs : List ℕ) (n : ℕ) → byte_of bs ≡ Some n → (bs ≡ decimal n) × (n ≤ 255)
unfolding byte_of
decimal-byte_of bs n e =
    let found = bind_found _ _ _ e in
    let last = cond_some _ _ _ found.2 in
    (rw (← last.1) (decimal-number_of bs found.0 found.1).0, grind (arith, last.0, last.1))

numbered : (bank : RegisterBank) (n : ℕ) → n ≤ greatest bank
    → (byte_of (decimal n) >>= in_bank bank) ≡ Some (record { bank = bank; num = n })
numbered Q n h = rw (byte_of-decimal n (omega arith), small_enough n 15 h) refl
numbered D n h = rw (byte_of-decimal n (omega arith), small_enough n 15 h) refl
numbered X n h = rw (byte_of-decimal n (omega arith), small_enough n 31 h) refl
numbered Y n h = rw (byte_of-decimal n (omega arith), small_enough n 31 h) refl
numbered Z n h = rw (byte_of-decimal n (omega arith), small_enough n 31 h) refl
numbered RIP n h = rw (byte_of-decimal n (omega arith), small_enough n 0 h) refl

of-text : (bank : RegisterBank) (n : ℕ) → n ≤ greatest bank
    → register_of (register_text_in bank n) ≡ Some (record { bank = bank; num = n })
unfolding register_of lettered_of
of-text Q n h = numbered Q n h
of-text D n h = numbered D n h
of-text X n h = numbered X n h
of-text Y n h = numbered Y n h
of-text Z n h = numbered Z n h
of-text RIP n h = let none : n ≡ 0 = omega arith in rw none refl

-- a register is read from its text
pub register_of-text : (reg : Register) → IsRegister reg → register_of (register_text reg) ≡ Some reg
register_of-text reg h = of-text reg.bank reg.num h

letter : (b c : ℕ) (x : RegisterBank) (rest : Option RegisterBank) (y : RegisterBank) {P : Type 0}
    → cond (b == c) (Some x) rest ≡ Some y → (b ≡ c → x ≡ y → P) → (rest ≡ Some y → P) → P
letter b c x rest y {P} e f g = elim (chosen (b == c) _ _ _ e) as (λ _. P) [
  | inl w ↦ f (eqb-true _ _ w.0) (same_Some _ _ w.1)
  | inr w ↦ g w.1
]

-- the letter of a bank begins the text of its registers
bank_of-text : (b : ℕ) (bank : RegisterBank) (n : ℕ) → bank_of b ≡ Some bank → (b ∷ decimal n) ≡ register_text_in bank n
bank_of-text b bank n e =
    letter b 113 Q _ bank e (λ q s. rw (q, ← s) refl) (λ e.
    letter b 100 D _ bank e (λ q s. rw (q, ← s) refl) (λ e.
    letter b 120 X _ bank e (λ q s. rw (q, ← s) refl) (λ e.
    letter b 121 Y _ bank e (λ q s. rw (q, ← s) refl) (λ e.
    letter b 122 Z _ bank e (λ q s. rw (q, ← s) refl) (λ e. cc)))))

text-lettered_of : (bs : List ℕ) (reg : Register) → lettered_of bs ≡ Some reg
    → (bs ≡ register_text reg) × IsRegister reg
unfolding lettered_of
text-lettered_of [] reg e = cc
text-lettered_of (b ∷ bs) reg e =
    let bank = bind_found _ _ _ e in
    let number = bind_found _ _ _ bank.2 in
    let last = cond_some _ _ _ number.2 in
    let text : bs ≡ decimal number.0 = (decimal-byte_of bs number.0 number.1).0 in
    rw (← last.1) (ap (λ ds. b ∷ ds) text ∙ bank_of-text b bank.0 number.0 bank.1, grind (arith, last.0))

-- what a register is read from is its text
pub text-register_of : (bs : List ℕ) (reg : Register) → register_of bs ≡ Some reg
    → (bs ≡ register_text reg) × IsRegister reg
unfolding register_of
text-register_of bs reg e = elim (chosen (bytes_eq bs (codes "rip")) _ _ _ e) as
    (λ _. (bs ≡ register_text reg) × IsRegister reg) [
      | inl w ↦
          let same : record { bank = RIP; num = 0 } ≡ reg = same_Some _ _ w.1 in
          rw (← same) ((bytes_eq-Decides _ _).0 w.0, omega arith)
      | inr w ↦ text-lettered_of bs reg w.1
    ]

pub same_or_not : (b : Bool) → (b ≡ true) ⊎ (b ≡ false)
same_or_not true = inl refl
same_or_not false = inr refl

-- what is read from one text and not from another, tells them apart
pub other_text : {A : Type 0} (f : List ℕ → Option A) (bs t : List ℕ) (x : A) → f t ≡ None → f bs ≡ Some x
    → bytes_eq bs t ≡ false
other_text f bs t x n s = elim (same_or_not (bytes_eq bs t)) as (λ _. bytes_eq bs t ≡ false) [
  | inl w ↦ let same : bs ≡ t = (bytes_eq-Decides bs t).0 w in let no : Some x ≡ None = sym s ∙ (ap f same ∙ n) in cc
  | inr w ↦ w
]

pub none_from_dash : register_of (codes "-") ≡ None
unfolding register_of lettered_of
none_from_dash = refl

-- a base is read from its text
pub base_of-text : (base : Option Register) → IfSome base IsRegister → base_of (base_text base) ≡ Some base
unfolding base_of
base_of-text None h = refl
base_of-text (Some reg) h =
    let read : register_of (register_text reg) ≡ Some reg = register_of-text reg h in
    rw (other_text register_of _ _ reg none_from_dash read, read) refl

-- what a base is read from is its text
pub text-base_of : (bs : List ℕ) (base : Option Register) → base_of bs ≡ Some base
    → (bs ≡ base_text base) × IfSome base IsRegister
unfolding base_of
text-base_of bs base e = elim (chosen (bytes_eq bs (codes "-")) _ _ _ e) as
    (λ _. (bs ≡ base_text base) × IfSome base IsRegister) [
      | inl w ↦ let same : None ≡ base = same_Some _ _ w.1 in rw (← same) ((bytes_eq-Decides _ _).0 w.0, tt)
      | inr w ↦ let found = map_found _ _ _ w.1 in rw (← found.2) (text-register_of bs found.0 found.1)
    ]
