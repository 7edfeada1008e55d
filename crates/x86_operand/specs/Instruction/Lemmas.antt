-- Lemmas that the model of `Instruction` needs, and that no contract cites: the four places of an instruction give back
-- the operands that they hold.
use Rattle.std.proofs.Common.{◌≡◌, ℕ, zero, suc, ◌≤◌, ℤ, pos, negsuc, List, [], ◌∷◌, Option, Some, None, ◌+◌, ◌<◌, ◌++◌}
use Rattle.std.proofs.Common.{length, take, set, map, get_or, refl, ap, sym, ◌∙◌, arith}
use Rattle.std.proofs.lemmas.List.{length-map, length-take-le, map-append, take_more_set}
use Rattle.x86_operand.specs.declared.address.Index.{Index}
use Rattle.x86_operand.specs.declared.address.Operand.{Operand}
use Rattle.x86_operand.specs.declared.address.Operand.TheVariants.{Nothing}
use Rattle.x86_operand.specs.Register.{Register}
use Rattle.x86_operand.specs.Meaning.{OperandMeaning, register, signed, unsigned, memory, nothing, operand_meaning}
use Rattle.x86_operand.specs.Instruction.{kept_address, kept_operand, operand_at, four_places}

meaning-kept_address : (base : Option Register) (index : Option Index) (disp : ℤ)
    → operand_meaning (kept_address base index disp) ≡ memory (record { base = base; index = index; disp = disp })
meaning-kept_address (Some base) None (pos zero) = refl
meaning-kept_address (Some base) None (pos (suc n)) = refl
meaning-kept_address (Some base) None (negsuc n) = refl
meaning-kept_address (Some base) (Some index) disp = refl
meaning-kept_address None index disp = refl

-- the kept form of an operand means what the operand does
pub meaning-kept_operand : (m : OperandMeaning) → operand_meaning (kept_operand m) ≡ m
meaning-kept_operand (register reg) = refl
meaning-kept_operand (signed imm) = refl
meaning-kept_operand (unsigned imm) = refl
meaning-kept_operand (memory address) = meaning-kept_address address.base address.index address.disp
meaning-kept_operand nothing = refl

pub length-four_places : (xs : List OperandMeaning) → length (four_places xs) ≡ 4
unfolding four_places
length-four_places xs = refl

-- what the places mean, up to the number of operands, is the operands
pub meanings-four_places : (xs : List OperandMeaning) → length xs ≤ 4
    → map operand_meaning (take (length xs) (four_places xs)) ≡ xs
unfolding four_places
meanings-four_places [] h = refl
meanings-four_places (a ∷ []) h = λ i. meaning-kept_operand a i ∷ []
meanings-four_places (a ∷ b ∷ []) h = λ i. meaning-kept_operand a i ∷ meaning-kept_operand b i ∷ []
meanings-four_places (a ∷ b ∷ c ∷ []) h =
    λ i. meaning-kept_operand a i ∷ meaning-kept_operand b i ∷ meaning-kept_operand c i ∷ []
meanings-four_places (a ∷ b ∷ c ∷ d ∷ []) h =
    λ i. meaning-kept_operand a i ∷ meaning-kept_operand b i ∷ meaning-kept_operand c i ∷ meaning-kept_operand d i ∷ []
meanings-four_places (a ∷ b ∷ c ∷ d ∷ e ∷ xs) h = absurd (omega arith)

-- each place has the kept form of what stands there
pub get_or-four_places : (xs : List OperandMeaning) (i : ℕ) → length xs ≤ 4
    → get_or (four_places xs) i Nothing ≡ kept_operand (operand_at xs i)
unfolding four_places
get_or-four_places xs zero h = refl
get_or-four_places xs (suc zero) h = refl
get_or-four_places xs (suc (suc zero)) h = refl
get_or-four_places xs (suc (suc (suc zero))) h = refl
get_or-four_places [] (suc (suc (suc (suc i)))) h = refl
get_or-four_places (a ∷ []) (suc (suc (suc (suc i)))) h = refl
get_or-four_places (a ∷ b ∷ []) (suc (suc (suc (suc i)))) h = refl
get_or-four_places (a ∷ b ∷ c ∷ []) (suc (suc (suc (suc i)))) h = refl
get_or-four_places (a ∷ b ∷ c ∷ d ∷ []) (suc (suc (suc (suc i)))) h = refl
get_or-four_places (a ∷ b ∷ c ∷ d ∷ e ∷ xs) (suc (suc (suc (suc i)))) h = absurd (omega arith)

-- the list of the operands that places keep is as long as their count
pub length-kept : (count : ℕ) (places : List Operand) → count ≤ 4
    → places ≡ four_places (map operand_meaning (take count places))
    → length (map operand_meaning (take count places)) ≡ count
length-kept count places within kept =
    let long : length places ≡ 4 = ap length kept ∙ length-four_places (map operand_meaning (take count places)) in
    length-map (take count places) operand_meaning ∙ length-take-le count places (omega arith)

-- the places made of operands hold those operands
pub meanings-kept : (operands places : List Operand) → length operands ≤ 4
    → places ≡ four_places (map operand_meaning operands)
    → map operand_meaning (take (length operands) places) ≡ map operand_meaning operands
meanings-kept operands places within kept =
    let long = length-map operands operand_meaning in
    rw (kept, ← long) (meanings-four_places (map operand_meaning operands) (omega arith))

-- what stands at a place is the kept form of the operand there
pub get_or-kept : (count : ℕ) (places : List Operand) (i : ℕ) → count ≤ 4
    → places ≡ four_places (map operand_meaning (take count places))
    → get_or places i Nothing ≡ kept_operand (operand_at (map operand_meaning (take count places)) i)
get_or-kept count places i within kept =
    let long = length-kept count places within kept in
    ap (λ xs. get_or xs i Nothing) kept ∙ get_or-four_places (map operand_meaning (take count places)) i (omega arith)

-- and means that operand
pub meaning-kept : (count : ℕ) (places : List Operand) (i : ℕ) → count ≤ 4
    → places ≡ four_places (map operand_meaning (take count places))
    → operand_meaning (get_or places i Nothing) ≡ operand_at (map operand_meaning (take count places)) i
meaning-kept count places i within kept =
    ap operand_meaning (get_or-kept count places i within kept)
    ∙ meaning-kept_operand (operand_at (map operand_meaning (take count places)) i)

-- one more operand stands in the first free place
set-four_places : (xs : List OperandMeaning) (m : OperandMeaning) → length xs < 4
    → set (four_places xs) (length xs) (kept_operand m) ≡ four_places (xs ++ m ∷ [])
unfolding four_places
set-four_places [] m h = refl
set-four_places (a ∷ []) m h = refl
set-four_places (a ∷ b ∷ []) m h = refl
set-four_places (a ∷ b ∷ c ∷ []) m h = refl
set-four_places (a ∷ b ∷ c ∷ d ∷ xs) m h = absurd (omega arith)

-- the operands with one more are those before, and that one
pub meanings-more : (count : ℕ) (places : List Operand) (m : OperandMeaning) → count < 4
    → places ≡ four_places (map operand_meaning (take count places))
    → map operand_meaning (take (count + 1) (set places count (kept_operand m)))
    ≡ map operand_meaning (take count places) ++ m ∷ []
meanings-more count places m within kept =
    let long : length places ≡ 4 = ap length kept ∙ length-four_places (map operand_meaning (take count places)) in
    ap (map operand_meaning) (take_more_set places count (kept_operand m) (omega arith))
    ∙ map-append operand_meaning (take count places) (kept_operand m ∷ [])
    ∙ ap (λ last. map operand_meaning (take count places) ++ last ∷ []) (meaning-kept_operand m)

-- and they are kept as operands are
pub kept-more : (count : ℕ) (places : List Operand) (m : OperandMeaning) → count < 4
    → places ≡ four_places (map operand_meaning (take count places))
    → set places count (kept_operand m) ≡ four_places
    (map operand_meaning (take (count + 1) (set places count (kept_operand m))))
kept-more count places m within kept =
    let before = map operand_meaning (take count places) in
    let long = length-kept count places (omega arith) kept in
    ap (λ these. set these count (kept_operand m)) kept
    ∙ ap (λ n. set (four_places before) n (kept_operand m)) (sym long)
    ∙ set-four_places before m (rw long within)
    ∙ ap four_places (sym (meanings-more count places m within kept))

pub ruleset places = (length-kept, meanings-kept, get_or-kept, meaning-kept, meanings-more, kept-more)
