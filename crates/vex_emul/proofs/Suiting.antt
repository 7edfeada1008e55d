-- What the operands of an instruction of the subset are, by its slots, and that it then has something that it does
-- exactly where no base is rip.
use Rattle.std.specs.Prelude.{◌≡◌, refl, ◌↔◌, ℕ, ◌+◌, ◌<◌, ◌*◌, Bool, true, false, ◌&&◌, ◌||◌, nat_lt, cond, List, []}
use Rattle.std.specs.Prelude.{◌∷◌, map, Option, Some, None, option_map, is_some}
use Rattle.std.specs.List.{list_any}
use Rattle.std.proofs.Common.{sym, ap, subst, ◌∙◌, arith}
use Rattle.std.proofs.lemmas.Bool.Decides.{nat_tests}
use Rattle.x86_operand.specs.declared.register.RegisterBank.{RegisterBank}
use Rattle.x86_operand.specs.declared.register.RegisterBank.TheVariants.{Q, X, Y}
use Rattle.x86_operand.specs.Instruction.{operand_at}
use Rattle.x86_operand.specs.Meaning.{OperandMeaning, register}
use Rattle.x86_address.specs.Place.{Target, NoTarget, Number, At, PlainAddress, Base, NoBase, Rip, Numbered}
use Rattle.x86_address.specs.Shortest.{in_banks, base_register, index_register}
use Rattle.vex_forms.specs.declared.slot.Slot.{Slot}
use Rattle.vex_forms.specs.declared.slot.Slot.TheVariants.{G, V, E}
use Rattle.vex_forms.specs.Gives.{slot_operand, target_operand}
use Rattle.vex_emul.specs.Machine.{general, base_part, index_part, sum_of, place_of}
use Rattle.vex_emul.specs.Subset.{vector_in, source_of, same_width, combine_of, combine_in, combine_on, move_of}
use Rattle.vex_emul.specs.Subset.{move_to, move_from, work_of_kind, has_rip, is_rip_base}
use Rattle.vex_emul.specs.declared.operation.Operation.{Operation}
use Rattle.vex_emul.specs.declared.work.Location.{Location}
use Rattle.vex_emul.specs.declared.work.Location.TheVariants.{Memory}
use Rattle.vex_emul.specs.declared.subset.Kind.{Kind}
use Rattle.vex_emul.specs.declared.subset.Kind.TheVariants.{ZeroesUpper, ZeroesAll, Moves, Combines}

-- the bank of a vector
abbrev pub bank_of : Bool → RegisterBank
bank_of false = X
bank_of true = Y

-- ---- the slots that the opcodes of a kind have

-- whether two banks are one of vectors that the machine has
abbrev pub are_vectors : RegisterBank → RegisterBank → Bool
are_vectors X X = true
are_vectors Y Y = true
are_vectors _ _ = false

-- whether these are slots of the kind
abbrev pub slots_suit : Kind → List Slot → Bool
slots_suit ZeroesUpper [] = true
slots_suit ZeroesAll [] = true
slots_suit Moves (G a ∷ E b ∷ []) = are_vectors a b
slots_suit Moves (E a ∷ G b ∷ []) = are_vectors a b
slots_suit (Combines operation) (G a ∷ V b ∷ E c ∷ []) = are_vectors a b && are_vectors a c
slots_suit _ _ = false

-- what a slot E names there: something, and a register that the machine has
abbrev pub IsHeld : Target → Type 0
IsHeld NoTarget = ⊥
IsHeld (Number n) = n < 16
IsHeld (At a) = Unit {0}

-- whether instructions of the kind have a slot E
abbrev pub needs_held : Kind → Bool
needs_held ZeroesUpper = false
needs_held ZeroesAll = false
needs_held Moves = true
needs_held (Combines operation) = true

-- ---- operands

below-true : (n : ℕ) → n < 16 → nat_lt n 16 ≡ true
below-true n h = grind (arith, nat_tests)

vector-there : (wide : Bool) (n : ℕ) → n < 16 → vector_in (bank_of wide) n ≡ Some (wide, n)
unfolding vector_in
vector-there false n h = ap (λ b. cond b (Some (false, n)) None) (below-true n h)
vector-there true n h = ap (λ b. cond b (Some (true, n)) None) (below-true n h)

-- an address has a place exactly where its base isn't rip
place-exactly : (q : List ℕ) (a : PlainAddress)
    → is_some (place_of q (in_banks Q a)) ≡ cond (is_rip_base (base_register a.base)) false true
unfolding place_of general base_part index_part
place-exactly q a = by a.base a.index
  where
    by : (base : Base) (index : Option (ℕ × ℕ))
        → is_some (sum_of (base_part q (base_register base)) (index_part q (index_register Q index)) a.disp)
        ≡ cond (is_rip_base (base_register base)) false true
    by NoBase None = refl
    by NoBase (Some i) = refl
    by Rip None = refl
    by Rip (Some i) = refl
    by (Numbered n) None = refl
    by (Numbered n) (Some i) = refl

-- a truth value is true exactly where another is false
abbrev pub Opposite : Bool → Bool → Type 0
Opposite a b = (a ≡ true) ↔ (b ≡ false)

opposite : (b : Bool) → Opposite (cond b false true) b
opposite true = ((λ e. cc), (λ e. cc))
opposite false = ((λ e. refl), (λ e. refl))

always : Opposite true false
always = ((λ e. refl), (λ e. refl))

-- the same where the first is another truth value
opposite-as : (a b c : Bool) → a ≡ c → Opposite c b → Opposite a b
opposite-as a b c e h = subst (λ d. Opposite d b) (sym e) h

-- a test behind one more test that fails
or_false : (a b : Bool) → Opposite a b → Opposite a (b || false)
or_false a true h = h
or_false a false h = h

some-mapped : {A B : Type 0} (f : A → B) (o : Option A) → is_some (option_map f o) ≡ is_some o
some-mapped f None = refl
some-mapped f (Some a) = refl

-- the operand of the slot E is there exactly where its base isn't rip
source-exactly : (q : List ℕ) (wide : Bool) (e : Target) → IsHeld e
    → Opposite (is_some (source_of q wide (target_operand (bank_of wide) Q e)))
    (has_rip (target_operand (bank_of wide) Q e))
unfolding source_of
source-exactly q wide NoTarget held = absurd held
source-exactly q wide (Number n) held = opposite-as _ false true
    (ap (λ v. is_some (same_width wide v)) (vector-there wide n held) ∙ same wide) always
  where
    same : (wide : Bool) → is_some (same_width wide (Some (wide, n))) ≡ true
    same true = refl
    same false = refl
source-exactly q wide (At a) held =
    opposite-as _ (is_rip_base (base_register a.base)) (cond (is_rip_base (base_register a.base)) false true)
    (some-mapped Memory (place_of q (in_banks Q a)) ∙ place-exactly q a) (opposite (is_rip_base (base_register a.base)))

-- ---- instructions

module _ (q : List ℕ) (r v reg : ℕ) (e : Target) (imm : ℕ) (is_g : reg + 8 * r < 16) (is_v : v < 16) where
  -- the operands of slots
  abbrev pub given : List Slot → List OperandMeaning
  given ss = map (slot_operand Q r v reg e imm) ss

  -- it has something that it does
  abbrev pub works : Kind → List Slot → Bool
  works kind ss = is_some (work_of_kind q (Some kind) (operand_at (given ss) 0) (operand_at (given ss) 1)
      (operand_at (given ss) 2))

  abbrev pub Exact : Kind → List Slot → Type 0
  Exact kind ss = Opposite (works kind ss) (list_any has_rip (given ss))

  combines : (operation : Operation) (wide : Bool) → IsHeld e
      → Exact (Combines operation) (G (bank_of wide) ∷ V (bank_of wide) ∷ E (bank_of wide) ∷ [])
  unfolding combine_of
  combines operation wide held =
      let source = source_of q wide (target_operand (bank_of wide) Q e) in
      let first = vector-there wide (reg + 8 * r) is_g in
      let second = vector-there wide v is_v in
      or_false _ _
      (opposite-as _ _ (is_some source)
      (ap (λ d. is_some (combine_in q operation d (vector_in (bank_of wide) v) (target_operand (bank_of wide) Q e)))
      first
      ∙ ap (λ d. is_some (combine_in q operation (Some (wide, reg + 8 * r)) d (target_operand (bank_of wide) Q e)))
      second
      ∙ on wide source)
      (source-exactly q wide e held))
    where
      on : (wide : Bool) (o : Option Location)
          → is_some (combine_on operation (wide, reg + 8 * r) (wide, v) o) ≡ is_some o
      on true None = refl
      on true (Some o) = refl
      on false None = refl
      on false (Some o) = refl

  moves-to : (wide : Bool) → IsHeld e → Exact Moves (G (bank_of wide) ∷ E (bank_of wide) ∷ [])
  unfolding move_of
  moves-to wide held =
      let source = source_of q wide (target_operand (bank_of wide) Q e) in
      or_false _ _
      (opposite-as _ _ (is_some source)
      (ap (λ d. is_some (move_to q d (target_operand (bank_of wide) Q e))) (vector-there wide (reg + 8 * r) is_g)
      ∙ some-mapped _ source)
      (source-exactly q wide e held))

  moves-from : (wide : Bool) (e' : Target) → e ≡ e' → IsHeld e'
      → Opposite (is_some (move_of q (target_operand (bank_of wide) Q e')
      (register (record { bank = bank_of wide; num = reg + 8 * r })))) (has_rip (target_operand (bank_of wide) Q e'))
  unfolding move_of source_of
  moves-from wide NoTarget is held = absurd held
  moves-from wide (Number n) is held =
      opposite-as _ false true
      (ap (λ d. is_some (move_to q d (register (record { bank = bank_of wide; num = reg + 8 * r }))))
      (vector-there wide n held)
      ∙ some-mapped _ (same_width wide (vector_in (bank_of wide) (reg + 8 * r)))
      ∙ ap (λ v. is_some (same_width wide v)) (vector-there wide (reg + 8 * r) is_g)
      ∙ same wide) always
    where
      same : (wide : Bool) → is_some (same_width wide (Some (wide, reg + 8 * r))) ≡ true
      same true = refl
      same false = refl
  moves-from wide (At a) is held =
      let place = place_of q (in_banks Q a) in
      opposite-as _ (is_rip_base (base_register a.base)) (cond (is_rip_base (base_register a.base)) false true)
      (ap (λ v. is_some (move_from place v)) (vector-there wide (reg + 8 * r) is_g)
      ∙ on place
      ∙ place-exactly q a) (opposite (is_rip_base (base_register a.base)))
    where
      on : (place : Option ℕ) → is_some (move_from place (Some (wide, reg + 8 * r))) ≡ is_some place
      on None = refl
      on (Some at) = refl

  moves-out : (wide : Bool) → IsHeld e → Exact Moves (E (bank_of wide) ∷ G (bank_of wide) ∷ [])
  moves-out wide held = or_false _ _ (moves-from wide e refl held)

  -- ---- by the slots

  both : (a b : Bool) → (a && b) ≡ true → (a ≡ true) × (b ≡ true)
  both true b h = (refl, h)
  both false b h = cc

  one_bank : (a b : RegisterBank) → are_vectors a b ≡ true → (wide : Bool) × (a ≡ bank_of wide) × (b ≡ bank_of wide)
  one_bank X X h = (false, refl, refl)
  one_bank Y Y h = (true, refl, refl)
  one_bank _ _ h = cc

  banks-distinct : (wide other : Bool) → bank_of wide ≡ bank_of other → wide ≡ other
  banks-distinct true true e = refl
  banks-distinct false false e = refl
  banks-distinct true false e = cc
  banks-distinct false true e = cc

  pub exactly : (kind : Kind) (ss : List Slot) → slots_suit kind ss ≡ true → (needs_held kind ≡ true → IsHeld e)
      → Exact kind ss
  exactly ZeroesUpper [] h held = always
  exactly ZeroesAll [] h held = always
  exactly Moves (G a ∷ E b ∷ []) h held =
      let k = one_bank a b h in
      subst (λ c. Exact Moves (G c ∷ E b ∷ [])) (sym k.1)
      (subst (λ c. Exact Moves (G (bank_of k.0) ∷ E c ∷ [])) (sym k.2) (moves-to k.0 (held refl)))
  exactly Moves (E a ∷ G b ∷ []) h held =
      let k = one_bank a b h in
      subst (λ c. Exact Moves (E c ∷ G b ∷ [])) (sym k.1)
      (subst (λ c. Exact Moves (E (bank_of k.0) ∷ G c ∷ [])) (sym k.2) (moves-out k.0 (held refl)))
  exactly (Combines operation) (G a ∷ V b ∷ E c ∷ []) h held =
      let parts = both (are_vectors a b) (are_vectors a c) h in
      let k = one_bank a b parts.0 in
      let l = one_bank a c parts.1 in
      let same = banks-distinct l.0 k.0 (sym l.1 ∙ k.1) in
      let last : c ≡ bank_of k.0 = l.2 ∙ ap bank_of same in
      subst (λ d. Exact (Combines operation) (G d ∷ V b ∷ E c ∷ [])) (sym k.1)
      (subst (λ d. Exact (Combines operation) (G (bank_of k.0) ∷ V d ∷ E c ∷ [])) (sym k.2)
      (subst (λ d. Exact (Combines operation) (G (bank_of k.0) ∷ V (bank_of k.0) ∷ E d ∷ [])) (sym last)
      (combines operation k.0 (held refl))))
  exactly _ _ h held = cc
