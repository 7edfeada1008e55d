-- Operands, the memory size and what stands behind the name: what is read is what is printed.
use Rattle.std.proofs.Common.{◌≡◌, ◌≤◌, ◌==◌, ◌++◌, ℕ, true, false, inl, inr, List, [], ◌∷◌, map, Option, Some, None}
use Rattle.std.proofs.Common.{option_map, unwrap_or, length, nat_le, refl, ap, ◌∙◌, arith, decimal, codes, bytes_eq}
use Rattle.std.proofs.Common.{IfSome}
use Rattle.std.proofs.lemmas.Bool.{eqb-true}
use Rattle.std.proofs.lemmas.Option.{same_Some, cond_some}
use Rattle.std.proofs.lemmas.List.{append_assoc, append-nil, length-append}
use Rattle.std.proofs.lemmas.Slice.Eq.{bytes_eq-Decides}
use Rattle.std.specs.List.{AllByRecursion}
use Rattle.x86_operand.specs.declared.register.RegisterBank.{RegisterBank}
use Rattle.x86_operand.specs.declared.register.RegisterBank.TheVariants.{Q, D, X, Y, Z, RIP}
use Rattle.x86_operand.specs.Meaning.{OperandMeaning, register, signed, unsigned, memory, nothing}
use Rattle.x86_operand.specs.Range.{IsOperand}
use Rattle.vex_asm.specs.Text.{register_text_in, operand_text}
use Rattle.vex_asm.specs.Parsed.{◌>>=◌, register_of, byte_of, signed_byte_of, address_of, begun_of, operand_of, size_of}
use Rattle.vex_asm.specs.Parsed.{rest_of, few, behind}
use Rattle.vex_asm.proofs.Numbers.{bind_found, map_found, chosen}
use Rattle.vex_asm.proofs.Registers.{byte_of-decimal, decimal-byte_of, register_of-text, text-register_of}
use Rattle.vex_asm.proofs.Addresses.{signed_byte_of-text, text-signed_byte_of, address_of-text, text-address_of}

of-register : (bank : RegisterBank) (n : ℕ)
    → operand_of (register_text_in bank n) ≡ option_map register (register_of (register_text_in bank n))
unfolding operand_of begun_of
of-register Q n = refl
of-register D n = refl
of-register X n = refl
of-register Y n = refl
of-register Z n = refl
of-register RIP n = refl

-- an operand is read from its text
pub operand_of-text : (o : OperandMeaning) → IsOperand o → operand_of (operand_text o) ≡ Some o
unfolding operand_of begun_of
operand_of-text (register reg) h = of-register reg.bank reg.num ∙ ap (option_map register) (register_of-text reg h)
operand_of-text (signed imm) h = ap (option_map signed) (signed_byte_of-text imm h)
operand_of-text (unsigned imm) h = ap (option_map unsigned) (byte_of-decimal imm h)
operand_of-text (memory a) h = ap (option_map memory) (address_of-text a h)
operand_of-text nothing h = refl

abbrev Reads : List ℕ → OperandMeaning → Type 0
Reads bs o = (bs ≡ operand_text o) × IsOperand o

read_signed : (bs : List ℕ) (o : OperandMeaning) → option_map signed (signed_byte_of bs) ≡ Some o → Reads (105 ∷ bs) o
read_signed bs o e =
    let found = map_found _ _ _ e in
    let text = text-signed_byte_of bs found.0 found.1 in rw (← found.2) (ap (λ x. 105 ∷ x) text.0, text.1)

read_unsigned : (bs : List ℕ) (o : OperandMeaning) → option_map unsigned (byte_of bs) ≡ Some o → Reads (117 ∷ bs) o
read_unsigned bs o e =
    let found = map_found _ _ _ e in
    let text = decimal-byte_of bs found.0 found.1 in rw (← found.2) (ap (λ x. 117 ∷ x) text.0, text.1)

read_memory : (bs : List ℕ) (o : OperandMeaning) → option_map memory (address_of bs) ≡ Some o → Reads (109 ∷ bs) o
read_memory bs o e =
    let found = map_found _ _ _ e in
    let text = text-address_of bs found.0 found.1 in rw (← found.2) (ap (λ x. 109 ∷ x) text.0, text.1)

read_register : (bs : List ℕ) (o : OperandMeaning) → option_map register (register_of bs) ≡ Some o → Reads bs o
read_register bs o e =
    let found = map_found _ _ _ e in
    let text = text-register_of bs found.0 found.1 in rw (← found.2) text

begins : (b c : ℕ) (bs : List ℕ) (o : OperandMeaning) → (b == c) ≡ true → Reads (c ∷ bs) o → Reads (b ∷ bs) o
begins b c bs o h r = rw (eqb-true b c h) r

text-begun_of : (bs : List ℕ) (o : OperandMeaning) → begun_of bs ≡ Some o → Reads bs o
unfolding begun_of
text-begun_of [] o e = cc
text-begun_of (b ∷ bs) o e = elim (chosen (b == 105) _ _ _ e) as (λ _. Reads (b ∷ bs) o) [
  | inl v ↦ begins b 105 bs o v.0 (read_signed bs o v.1)
  | inr v ↦ elim (chosen (b == 117) _ _ _ v.1) as (λ _. Reads (b ∷ bs) o) [
    | inl u ↦ begins b 117 bs o u.0 (read_unsigned bs o u.1)
    | inr u ↦ elim (chosen (b == 109) _ _ _ u.1) as (λ _. Reads (b ∷ bs) o) [
      | inl t ↦ begins b 109 bs o t.0 (read_memory bs o t.1)
      | inr t ↦ read_register (b ∷ bs) o t.1
    ]
  ]
]

-- what an operand is read from is its text
pub text-operand_of : (bs : List ℕ) (o : OperandMeaning) → operand_of bs ≡ Some o → Reads bs o
unfolding operand_of
text-operand_of bs o e = elim (chosen (bytes_eq bs (codes "nothing")) _ _ _ e) as (λ _. Reads bs o) [
  | inl w ↦ let same : nothing ≡ o = same_Some _ _ w.1 in rw (← same) ((bytes_eq-Decides _ _).0 w.0, tt)
  | inr w ↦ text-begun_of bs o w.1
]

abbrev pub IsSize : Option ℕ → Type 0
IsSize size = IfSome size (λ n. (1 ≤ n) × (n ≤ 64))

-- a memory size is read from its text
pub size_of-text : (size : Option ℕ) → IsSize size → size_of (decimal (unwrap_or size 0)) ≡ Some size
unfolding size_of
size_of-text None h = rw (byte_of-decimal 0 (omega arith)) refl
size_of-text (Some n) h =
    let filled : (n == 0) ≡ false = grind (arith, h.0) in
    let small : nat_le n 64 ≡ true = grind (arith, h.1) in
    rw (byte_of-decimal n (omega (arith, h.1)), filled, small) refl

-- what a memory size is read from is its text
pub text-size_of : (bs : List ℕ) (size : Option ℕ) → size_of bs ≡ Some size
    → (bs ≡ decimal (unwrap_or size 0)) × IsSize size
unfolding size_of
text-size_of bs size e =
    let found = bind_found _ _ _ e in
    let text : bs ≡ decimal found.0 = (decimal-byte_of bs found.0 found.1).0 in
    elim (chosen (found.0 == 0) _ _ _ found.2) as (λ _. (bs ≡ decimal (unwrap_or size 0)) × IsSize size) [
      | inl w ↦ let same : None ≡ size = same_Some _ _ w.1 in rw (← same) (text ∙ ap decimal (eqb-true _ _ w.0), tt)
      | inr w ↦ let last = cond_some _ _ _ w.1 in rw (← last.1) (text, (grind (arith, w.0), grind (arith, last.0)))
    ]

-- what stands behind the name is read from its text
pub rest_of-text : (os : List OperandMeaning) (size : Option ℕ) → AllByRecursion IsOperand os → IsSize size
    → rest_of (map operand_text os ++ decimal (unwrap_or size 0) ∷ []) ≡ Some (os, size)
unfolding rest_of
rest_of-text [] size h k = rw (size_of-text size k) refl
rest_of-text (o ∷ []) size h k = rw (operand_of-text o h.0, size_of-text size k) refl
rest_of-text (o ∷ p ∷ os) size h k = rw (operand_of-text o h.0, rest_of-text (p ∷ os) size h.1 k) refl

abbrev pub Behind : List (List ℕ) → List OperandMeaning × Option ℕ → Type 0
Behind ws found = (ws ≡ map operand_text found.0 ++ decimal (unwrap_or found.1 0) ∷ [])
    × AllByRecursion IsOperand found.0 × IsSize found.1

-- what it is read from is its text
pub text-rest_of : (ws : List (List ℕ)) (found : List OperandMeaning × Option ℕ) → rest_of ws ≡ Some found
    → Behind ws found
unfolding rest_of
text-rest_of [] found e = cc
text-rest_of (w ∷ []) found e =
    let size = bind_found _ _ _ e in
    let same : ([], size.0) ≡ found = same_Some _ _ size.2 in
    let text = text-size_of w size.0 size.1 in
    rw (← same) (ap (λ x. x ∷ []) text.0, tt, text.1)
text-rest_of (w ∷ v ∷ ws) found e =
    let one = bind_found _ _ _ e in
    let two = bind_found _ _ _ one.2 in
    let same : (one.0 ∷ two.0.0, two.0.1) ≡ found = same_Some _ _ two.2 in
    let text = text-operand_of w one.0 one.1 in
    let more = text-rest_of (v ∷ ws) two.0 two.1 in
    rw (← same) (ap (λ x. x ∷ v ∷ ws) text.0 ∙ ap (λ x. operand_text one.0 ∷ x) more.0, (text.1, more.1), more.2)

-- at most four operands
few-found : (read : Option (List OperandMeaning × Option ℕ)) (found : List OperandMeaning × Option ℕ)
    → few read ≡ Some found → (read ≡ Some found) × (length found.0 ≤ 4)
few-found read found e =
    let one = bind_found _ _ _ e in
    let last = cond_some _ _ _ one.2 in
    (one.1 ∙ ap (λ x. Some x) last.1, grind (arith, last.0, last.1))

pub text-few : (ws : List (List ℕ)) (found : List OperandMeaning × Option ℕ) → few (rest_of ws) ≡ Some found
    → Behind ws found × (length found.0 ≤ 4)
text-few ws found e = let parts = few-found _ _ e in (text-rest_of ws found parts.0, parts.1)

pub few-text : (os : List OperandMeaning) (size : Option ℕ) → AllByRecursion IsOperand os → IsSize size → length os ≤ 4
    → few (rest_of (map operand_text os ++ decimal (unwrap_or size 0) ∷ [])) ≡ Some (os, size)
few-text os size h k n =
    let small : nat_le (length os) 4 ≡ true = grind arith in
    rw (rest_of-text os size h k, small) refl

-- the steps of the loop over the operands
regroup : (front : List OperandMeaning) (o : OperandMeaning) (read : Option (List OperandMeaning × Option ℕ))
    → behind (front ++ o ∷ []) read ≡ behind front (read >>= λ found. Some (o ∷ found.0, found.1))
regroup front o None = refl
regroup front o (Some found) = ap (λ x. Some (x, found.1)) (append_assoc front (o ∷ []) found.0)

pub behind-more : (front : List OperandMeaning) (o : OperandMeaning) (w v : List ℕ) (ws : List (List ℕ))
    → Some o ≡ operand_of w → behind (front ++ o ∷ []) (rest_of (v ∷ ws)) ≡ behind front (rest_of (w ∷ v ∷ ws))
unfolding rest_of
behind-more front o w v ws e = regroup front o (rest_of (v ∷ ws))
    ∙ ap (λ r. behind front (r >>= λ operand. rest_of (v ∷ ws) >>= λ found. Some (operand ∷ found.0, found.1))) e

pub behind-no_operand : (front : List OperandMeaning) (w v : List ℕ) (ws : List (List ℕ)) → None ≡ operand_of w
    → None ≡ few (behind front (rest_of (w ∷ v ∷ ws)))
unfolding rest_of
behind-no_operand front w v ws e = ap (λ r. few
    (behind front (r >>= λ operand. rest_of (v ∷ ws) >>= λ found. Some (operand ∷ found.0, found.1)))) e

too_many : (front : List OperandMeaning) (o : OperandMeaning) (read : Option (List OperandMeaning × Option ℕ))
    → 4 ≤ length front → None ≡ few (behind (front ++ o ∷ []) read)
too_many front o None h = refl
too_many front o (Some found) h =
    let long : nat_le (length (front ++ o ∷ [] ++ found.0)) 4 ≡ false =
    grind (arith, length-append (front ++ o ∷ []) found.0, length-append front (o ∷ [])) in
    rw long refl

pub behind-too_many : (front : List OperandMeaning) (o : OperandMeaning) (w v : List ℕ) (ws : List (List ℕ))
    → Some o ≡ operand_of w → 4 ≤ length front → None ≡ few (behind front (rest_of (w ∷ v ∷ ws)))
behind-too_many front o w v ws e h = too_many front o (rest_of (v ∷ ws)) h ∙ ap few (behind-more front o w v ws e)

pub behind-last : (front : List OperandMeaning) (w : List ℕ) (size : Option ℕ) → length front ≤ 4
    → Some size ≡ size_of w → Some (front, size) ≡ few (behind front (rest_of (w ∷ [])))
unfolding rest_of
behind-last front w size h e =
    let small : nat_le (length front) 4 ≡ true = grind arith in
    rw (← e, append-nil front, small) refl

pub behind-no_size : (front : List OperandMeaning) (w : List ℕ) → None ≡ size_of w
    → None ≡ few (behind front (rest_of (w ∷ [])))
unfolding rest_of
behind-no_size front w e = rw (← e) refl

pub behind-no_word : None ≡ few (rest_of [])
unfolding rest_of
behind-no_word = refl
