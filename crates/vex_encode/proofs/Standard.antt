-- The standard bytes of a meaning by a row spell it, and are there and no longer wherever anything spells it by the
-- row.
use Rattle.std.specs.Prelude.{◌≡◌, refl, ◌⊎◌, ℕ, ◌+◌, ◌%◌, ◌<◌, ◌≤◌, Bool, true, false, not, ◌&&◌, ◌||◌, nat_le, nat_lt}
use Rattle.std.specs.Prelude.{◌==◌, List, [], ◌∷◌, ◌++◌, map, length, Option, Some, None, if◌then◌else◌}
use Rattle.std.specs.List.{list_any}
use Rattle.std.proofs.Common.{arith, ap, sym, ◌∙◌, inl, inr, subst, subst₂, length-append}
use Rattle.std.proofs.lemmas.Bool.Decides.{nat_tests}
use Rattle.x86_opcode.specs.declared.Opcode.{Opcode}
use Rattle.x86_operand.specs.Kind.{Kind, WithoutModRM, InRegister, InMemory, VectorIndexed, is_vector, plain_kind}
use Rattle.x86_operand.specs.Meaning.{number_of, OperandMeaning, register, signed, unsigned, memory, nothing, Meaning}
use Rattle.x86_operand.specs.Same.{same_meaning}
use Rattle.x86_operand.specs.Same.Lemmas.{same_meaning_equal, same_meaning_refl}
use Rattle.x86_address.specs.Place.{Place, NoPlace, Direct, Based, RipBased, Scaled, Baseless, IsPlace, IsOfKind}
use Rattle.x86_address.specs.Place.{has_sib, kind_of_target, target, place_bytes}
use Rattle.x86_address.specs.Shortest.{shortest_in, shortest, x_of, b_of, IsSpellable}
use Rattle.x86_address.specs.Shortest.Lemmas.{is_place-shortest, kind_of-shortest, kind_of_target-target, sib-shortest}
use Rattle.x86_address.specs.Shortest.Lemmas.{IsSpellable-target, shortest-least, x_of-target, b_of-target}
use Rattle.x86_address.specs.Place.Lemmas.{vector_in_memory}
use Rattle.vex_rows.specs.declared.key.Map.{Map}
use Rattle.vex_rows.specs.declared.key.Map.TheVariants.{Map0F, Map0F38, Map0F3A}
use Rattle.vex_rows.specs.Rules.{map_number}
use Rattle.vex_rows.specs.declared.steps.Check.{Check}
use Rattle.vex_rows.specs.Steps.{steps}
use Rattle.vex_rows.specs.WellFormed.{is_none}
use Rattle.vex_rows.specs.Groups.{groups}
use Rattle.vex_rows.specs.Row.{Row, IsRow, mark_of, opcode_of, Among, group_choices, has_groups, is_group_check}
use Rattle.vex_rows.specs.Row.{has_imm}
use Rattle.vex_rows.specs.Row.Lists.{both-parts, parts-both, from-list_all, from-map}
use Rattle.vex_rows.specs.Row.Lemmas.{Chosen, chosen-row}
use Rattle.vex_rows.specs.Groups.Lemmas.{small_groups}
use Rattle.vex_forms.specs.declared.slot.VvvvRule.{VvvvRule}
use Rattle.vex_forms.specs.declared.slot.VvvvRule.TheVariants.{Named, Zero, Free}
use Rattle.vex_forms.specs.Slots.{slots, index_bank, size_of, v_rule, names_g, names_v, names_e, names_imm}
use Rattle.vex_forms.specs.Gives.{gives, slot_operand}
use Rattle.vex_forms.specs.WellFormed.{immediates}
use Rattle.vex_forms.specs.Slots.Lemmas.{sound_row, v_rule-zero}
use Rattle.vex_forms.specs.Fields.{Fields}
use Rattle.vex_decode.specs.Fields.{PrefixForm, C4, C5, FitsTwoBytes, CanSay, prefix_bytes, fits_two_bytes}
use Rattle.vex_decode.specs.Fields.{shortest_form}
use Rattle.vex_decode.specs.Spelling.{Syntax, imm_bytes, bytes_of, meant, FitsRule, FitsGroup, FitsReg, FitsImm}
use Rattle.vex_decode.specs.Spelling.{IsSyntax, SpellsBy}
use Rattle.vex_forms.specs.FormWalk.Lemmas.{ordered}
use Rattle.vex_encode.specs.Standard.{operand_of_kind, imm_of, target_of, fields_for, reg_for, candidate}
use Rattle.vex_encode.specs.Standard.{is_placed, is_given, standard}
use Rattle.vex_encode.specs.Standard.Lemmas.{first_or_none, e_given}
use Rattle.vex_encode.proofs.Candidate.{no_operand, map_same, slot_again}

-- a form of prefix is chosen only where it can say the fields
map_one : (map : Map) → (map_number map == 1) ≡ true → map ≡ Map0F
map_one Map0F h = refl
map_one Map0F38 h = cc
map_one Map0F3A h = cc

not_false : (b : Bool) → not b ≡ true → b ≡ false
not_false true h = cc
not_false false h = refl

false_not : (b : Bool) → b ≡ false → not b ≡ true
false_not true h = cc
false_not false h = refl

two_bytes_fit : (f : Fields) → fits_two_bytes f ≡ true → FitsTwoBytes f
two_bytes_fit f h =
    let at_b = both-parts (map_number f.map == 1 && not f.w && not f.x) (not f.b) h in
    let at_x = both-parts (map_number f.map == 1 && not f.w) (not f.x) at_b.0 in
    let at_w = both-parts (map_number f.map == 1) (not f.w) at_x.0 in
    record { map = map_one f.map at_w.0; w = not_false f.w at_w.1; x = not_false f.x at_x.1; b = not_false f.b at_b.1 }

can_say : (f : Fields) → CanSay (shortest_form f) f
can_say f = by (fits_two_bytes f) refl where
  by : (b : Bool) → fits_two_bytes f ≡ b → CanSay (if b then C5 else C4) f
  by true h = two_bytes_fit f h
  by false h = tt

-- the group of a row is a value of three bits
small_group : (row : Row) (group : ℕ) → Among (Some group) (group_choices row.entry.form row.l) → group < 8
small_group row group m = by (has_groups row.entry.form) m where
  by : (has : Bool) → Among (Some group) (if has then map (λ g. Some g.0) (groups row.entry.form row.l) else None ∷ [])
      → group < 8
  by true k =
      let from = from-map (λ g. Some g.0) (Some group) (groups row.entry.form row.l) k in
      let same : group ≡ from.0.0 = cc in
      let small = from-list_all (λ g. nat_lt g.0 8) from.0 (groups row.entry.form row.l)
      (small_groups row.entry.form row.l) from.1 in
      grind (arith, nat_tests)
  by false (inl e) = cc
  by false (inr e) = absurd e

reg_fits : (modrm : Bool) (row : Row) (group : Option ℕ) (g : ℕ) → Among group (group_choices row.entry.form row.l)
    → (modrm ≡ false → (g ≡ 0) × (group ≡ None)) → FitsReg modrm (reg_for group g)
reg_fits true row None g m alone = omega arith
reg_fits true row (Some group) g m alone = small_group row group m
reg_fits false row None g m alone = ap (λ n. n % 8) (alone refl).0
reg_fits false row (Some group) g m alone = cc ((alone refl).1)

group_fits : (group : Option ℕ) (g : ℕ) → FitsGroup group (reg_for group g)
group_fits None g = tt
group_fits (Some group) g = refl

pub kind_asked : (kind : Kind) (operand : OperandMeaning) → kind_of_target (target_of kind operand) ≡ plain_kind kind
kind_asked WithoutModRM operand = refl
kind_asked InRegister operand = refl
kind_asked InMemory (memory a) = refl
kind_asked InMemory _ = refl
kind_asked VectorIndexed (memory a) = refl
kind_asked VectorIndexed _ = refl

rule_fits : (rule : VvvvRule) (v : ℕ) → (rule ≡ Zero → v ≡ 0) → FitsRule rule (v % 16)
rule_fits Named v h = tt
rule_fits Zero v h = ap (λ n. n % 16) (h refl)
rule_fits Free v h = tt

imm_below : (operand : OperandMeaning) → imm_of operand < 256
imm_below (register reg) = omega arith
imm_below (signed imm) = omega arith
imm_below (unsigned imm) = omega arith
imm_below (memory address) = omega arith
imm_below nothing = omega arith

imm_fits : (has : Bool) (operand : OperandMeaning) → (has ≡ false → operand ≡ nothing) → FitsImm has (imm_of operand)
imm_fits true operand h = imm_below operand
imm_fits false operand h = ap imm_of (h refl)

-- without an immediate byte no slot reads one
no_immediates : (slots : List _) → immediates slots ≤ 0 → list_any names_imm slots ≡ false
no_immediates [] h = refl
no_immediates (slot ∷ slots) h = by (names_imm slot) refl h (no_immediates slots) where
  by : (b : Bool) → names_imm slot ≡ b → (if b then 1 else 0) + immediates slots ≤ 0
      → (immediates slots ≤ 0 → list_any names_imm slots ≡ false) → (b || list_any names_imm slots) ≡ false
  by true e few next = absurd (omega arith)
  by false e few next = next (omega arith)

few_by : (has : Bool) (n : ℕ) → nat_le n (if has then 1 else 0) ≡ true → has ≡ false → n ≤ 0
few_by true n h e = cc
few_by false n h e = grind (arith, nat_tests)

pub few_at_most : (has : Bool) (n : ℕ) → nat_le n (if has then 1 else 0) ≡ true → n ≤ 1
few_at_most true n h = grind (arith, nat_tests)
few_at_most false n h = grind (arith, nat_tests)

pub or_false : (a b : Bool) → (a || not b) ≡ true → a ≡ false → b ≡ false
or_false true b h e = cc
or_false false b h e = not_false b h

-- a form without ModRM has no group
pub group_none : (has : Bool) (gs : List (ℕ × Opcode)) (group : Option ℕ) → has ≡ false
    → Among group (if has then map (λ g. Some g.0) gs else None ∷ []) → group ≡ None
group_none true gs group h m = cc
group_none false gs group h (inl e) = e
group_none false gs group h (inr e) = absurd e

-- so that it checks none
no_group_check : (checks : List Check) → is_none checks ≡ true → list_any is_group_check checks ≡ false
no_group_check [] h = refl
no_group_check (c ∷ checks) h = cc

alone_checks : (modrm p : Bool) (checks : List Check) (q r : Bool)
    → (if modrm then p else is_none checks && q && r) ≡ true → modrm ≡ false → is_none checks ≡ true
alone_checks true p checks q r h e = cc
alone_checks false p checks q r h e = (both-parts (is_none checks) q (both-parts (is_none checks && q) r h).0).0

group_alone : (row : Row) → Chosen row → (steps row.entry.form).modrm ≡ false → row.group ≡ None
unfolding has_groups
group_alone row chosen alone =
    let none : list_any is_group_check (steps row.entry.form).after_modrm ≡ false =
    no_group_check (steps row.entry.form).after_modrm
    (alone_checks _ _ (steps row.entry.form).after_modrm _ _ (ordered row.entry).rest alone) in
    group_none (has_groups row.entry.form) (groups row.entry.form row.l) row.group none chosen.group

-- where the index is a vector register there is a SIB byte
with_sib : (kind : Kind) (place : Place) → is_placed kind place ≡ true → is_vector kind ≡ true → has_sib place ≡ true
with_sib kind place placed vector = by (is_vector kind) vector placed where
  by : (v : Bool) → v ≡ true → (not v || has_sib place) ≡ true → has_sib place ≡ true
  by true e h = h
  by false e h = cc

pub placed_with : (kind : Kind) (place : Place) → (is_vector kind ≡ true → has_sib place ≡ true)
    → is_placed kind place ≡ true
placed_with kind place sib = by (is_vector kind) sib where
  by : (v : Bool) → (v ≡ true → has_sib place ≡ true) → (not v || has_sib place) ≡ true
  by true h = h refl
  by false h = refl

module _ (row : Row) (m : Meaning) (is_row : IsRow row) where
  chosen : Chosen row
  chosen = chosen-row row is_row

  -- the parts that are put together are those of a spelling by the row, where their place is of its kind
  pub candidate_is : is_placed row.kind (candidate row m).place ≡ true → IsSyntax row (candidate row m)
  unfolding candidate slots has_imm
  candidate_is placed =
      let operands = m.operands in
      let g = number_of (operand_of_kind names_g (slots row) operands) in
      let v = number_of (operand_of_kind names_v (slots row) operands) in
      let e = target_of row.kind (operand_of_kind names_e (slots row) operands) in
      let sound = sound_row row in
      record {
        prefix = record {
          l = chosen.one_bit;
          r = omega arith;
          v = omega arith;
          can_say =
              can_say (fields_for row g v e);
        };
        map = refl;
        pp = refl;
        w = refl;
        l = refl;
        reg = reg_fits (steps row.entry.form).modrm row row.group g chosen.group
            (λ alone. (
              ap number_of (no_operand names_g (slots row) operands (or_false _ _ sound.alone alone)),
              group_alone row chosen alone,
            ));
        place = is_place-shortest e (inl refl);
        kind = record {
          plain = kind_of-shortest 1 e ∙ kind_asked row.kind (operand_of_kind names_e (slots row) operands);
          sib = with_sib row.kind (shortest e) placed;
        };
        group = group_fits row.group g;
        v = rule_fits (v_rule row) v (λ zero. ap number_of
            (no_operand names_v (slots row) operands (v_rule-zero row zero).0));
        imm = imm_fits (steps row.entry.form).imm (operand_of_kind names_imm (slots row) operands)
            (λ none. no_operand names_imm (slots row) operands
            (no_immediates (slots row) (few_by _ _ sound.immediates none)));
      }

pub reg_below : (modrm : Bool) (reg : ℕ) → FitsReg modrm reg → reg < 8
reg_below true reg h = h
reg_below false reg h = omega arith

pub imm_byte : (has : Bool) (imm : ℕ) → FitsImm has imm → imm < 256
imm_byte true imm h = h
imm_byte false imm h = omega arith

-- what the row means by some parts, it means by the parts that are put together for that meaning
means_again : (row : Row) (s : Syntax) → IsRow row → IsSyntax row s
    → meant row (candidate row (meant row s)) ≡ meant row s
unfolding candidate slots gives has_imm
means_again row s is_row is =
    let sound = sound_row row in
    let again = slot_again (index_bank row) (slots row) row.kind row.group s.fields.r s.fields.v s.reg s.place
    s.fields.x s.fields.b s.imm
    (few_at_most (steps row.entry.form).imm _ sound.immediates) is.prefix.r is.prefix.v (reg_below _ _ is.reg)
    (imm_byte _ _ is.imm) is.place is.kind is.group in
    let operands = map_same _ _ (slots row) again in
    λ i. record { evex = mark_of row; opcode = opcode_of row; operands = operands i; size = size_of row }

-- what the parts that are put together ask of the place of E: what was read, or nothing
asked : (row : Row) (s : Syntax) → IsSyntax row s →
    let operands = map (slot_operand (index_bank row) s.fields.r s.fields.v s.reg
    (target (is_vector row.kind) s.place s.fields.x s.fields.b) s.imm) (slots row) in
    (target_of row.kind (operand_of_kind names_e (slots row) operands)
    ≡ target (is_vector row.kind) s.place s.fields.x s.fields.b)
    ⊎ (operand_of_kind names_e (slots row) operands ≡ nothing)
asked row s is =
    elim (first_or_none names_e (slot_operand (index_bank row) s.fields.r s.fields.v s.reg
    (target (is_vector row.kind) s.place s.fields.x s.fields.b) s.imm) (slots row)) [
      | inl first ↦ inl (ap (target_of row.kind) first.operand
          ∙ e_given (index_bank row) s.fields.r s.fields.v s.reg
          (target (is_vector row.kind) s.place s.fields.x s.fields.b) s.imm row.kind first.slot first.passes
          (kind_of_target-target 1 (is_vector row.kind) s.place s.fields.x s.fields.b ∙ is.kind.plain))
      | inr none ↦ inr none.0
    ]

-- nothing is asked for by a place with SIB, where the index is a vector register
pub least_sib : (kind : Kind) → is_vector kind ≡ true → has_sib (shortest (target_of kind nothing)) ≡ true
unfolding shortest_in
least_sib WithoutModRM vector = cc
least_sib InRegister vector = cc
least_sib InMemory vector = cc
least_sib VectorIndexed vector = refl

-- and what was read has one
asked_sib : (kind : Kind) (place : Place) (x b : Bool) → IsPlace place → IsOfKind kind place → is_vector kind ≡ true
    → has_sib (shortest (target (is_vector kind) place x b)) ≡ true
asked_sib kind place x b ok is vector =
    sib-shortest 1 (target (is_vector kind) place x b)
    (kind_of_target-target 1 (is_vector kind) place x b ∙ is.plain ∙ vector_in_memory kind vector)
    (subst (λ v. IsSpellable v (target (is_vector kind) place x b)) vector
    (IsSpellable-target (is_vector kind) place x b (inl refl) ok is.sib))

-- so the place of the parts that are put together is of the row's kind
placed_again : (row : Row) (s : Syntax) → IsSyntax row s → is_placed row.kind (candidate row (meant row s)).place ≡ true
unfolding candidate gives
placed_again row s is = placed_with row.kind _ (λ vector.
    elim (asked row s is) [
      | inl e ↦ subst (λ e. has_sib (shortest e) ≡ true) (sym e)
          (asked_sib row.kind s.place s.fields.x s.fields.b is.place is.kind vector)
      | inr none ↦ subst (λ o. has_sib (shortest (target_of row.kind o)) ≡ true) (sym none) (least_sib row.kind vector)
    ])

module _ (row : Row) (m : Meaning) (is_row : IsRow row) where
  -- they mean it where anything of the row does
  pub candidate_means : (bytes : List ℕ) → SpellsBy bytes m row → meant row (candidate row m) ≡ m
  candidate_means bytes by = subst (λ n. meant row (candidate row n) ≡ n) (sym by.means)
      (means_again row by.parts is_row by.fits)

  given_there : (bytes : List ℕ) → SpellsBy bytes m row → is_given row m ≡ true
  given_there bytes by = parts-both _ _ (subst (λ n. is_placed row.kind (candidate row n).place ≡ true) (sym by.means)
      (placed_again row by.parts by.fits)) (ap (λ n. same_meaning n m) (candidate_means bytes by) ∙ same_meaning_refl m)

  -- where something of the row spells a meaning, its standard bytes are there
  pub standard_there : (bytes : List ℕ) → SpellsBy bytes m row → standard row m ≡ Some (bytes_of row (candidate row m))
  unfolding standard
  standard_there bytes by = rw (given_there bytes by) refl

  -- standard bytes spell the meaning by the row
  pub standard_spells : (bytes : List ℕ) → standard row m ≡ Some bytes → SpellsBy bytes m row
  unfolding standard
  standard_spells bytes e = by (is_given row m) refl e where
    by : (b : Bool) → is_given row m ≡ b → (if b then Some (bytes_of row (candidate row m)) else None) ≡ Some bytes
        → SpellsBy bytes m row
    by true h e =
        let same : bytes_of row (candidate row m) ≡ bytes = cc in
        let both = both-parts (is_placed row.kind (candidate row m).place)
        (same_meaning (meant row (candidate row m)) m) h in
        record {
          parts = candidate row m;
          fits = candidate_is row m is_row both.0;
          written = sym same;
          means =
              sym (same_meaning_equal _ _ both.1);
        }
    by false h e = cc

-- what is asked where there is no operand: the least place, and neither X nor B
no_x : (kind : Kind) → x_of (target_of kind nothing) ≡ false
no_x WithoutModRM = refl
no_x InRegister = refl
no_x InMemory = refl
no_x VectorIndexed = refl

no_b : (kind : Kind) → b_of (target_of kind nothing) ≡ false
no_b WithoutModRM = refl
no_b InRegister = refl
no_b InMemory = refl
no_b VectorIndexed = refl

least_place : (kind : Kind) (reg reg' : ℕ) (p : Place) → IsOfKind kind p
    → length (place_bytes reg (shortest (target_of kind nothing))) ≤ length (place_bytes reg' p)
unfolding shortest_in
least_place WithoutModRM reg reg' p h = omega arith
least_place InRegister reg reg' NoPlace h = cc (h.plain)
least_place InMemory reg reg' NoPlace h = cc (h.plain)
least_place VectorIndexed reg reg' NoPlace h = cc (h.plain)
least_place InRegister reg reg' (Direct rm) h = omega arith
least_place InRegister reg reg' (Based rm d) h = omega arith
least_place InRegister reg reg' (RipBased n) h = omega arith
least_place InRegister reg reg' (Scaled k i j d) h = omega arith
least_place InRegister reg reg' (Baseless k i n) h = omega arith
least_place InMemory reg reg' (Direct rm) h = omega arith
least_place InMemory reg reg' (Based rm d) h = omega arith
least_place InMemory reg reg' (RipBased n) h = omega arith
least_place InMemory reg reg' (Scaled k i j d) h = omega arith
least_place InMemory reg reg' (Baseless k i n) h = omega arith
least_place VectorIndexed reg reg' (Direct rm) h = cc (h.plain)
least_place VectorIndexed reg reg' (Based rm d) h = cc (h.sib refl)
least_place VectorIndexed reg reg' (RipBased n) h = cc (h.sib refl)
least_place VectorIndexed reg reg' (Scaled k i j d) h = omega arith
least_place VectorIndexed reg reg' (Baseless k i n) h = omega arith

true_or_false : (b c : Bool) → (b ≡ true → c ≡ true) → c ≡ false → b ≡ false
true_or_false true c h e = cc (h refl)
true_or_false false c h e = refl

-- a two-byte prefix is chosen wherever the two-byte prefix said the fields
shorter_prefix : (f g : Fields) (form : PrefixForm) → CanSay form g → (FitsTwoBytes g → fits_two_bytes f ≡ true)
    → length (prefix_bytes (shortest_form f) f) ≤ length (prefix_bytes form g)
shorter_prefix f g C5 can fits = rw (fits can) (omega arith)
shorter_prefix f g C4 can fits = by (fits_two_bytes f) where
  by : (b : Bool) → length (prefix_bytes (if b then C5 else C4) f) ≤ 3
  by true = omega arith
  by false = omega arith

pub imm_length : (has : Bool) (a b : ℕ) → length (imm_bytes has a) ≡ length (imm_bytes has b)
imm_length true a b = refl
imm_length false a b = refl

pub bytes_length : (row : Row) (s : Syntax)
    → length (bytes_of row s) ≡ length (prefix_bytes s.form s.fields)
    + (1 + (length (place_bytes s.reg s.place) + length (imm_bytes (has_imm row) s.imm)))
bytes_length row s =
    let tail : List ℕ = place_bytes s.reg s.place ++ imm_bytes (has_imm row) s.imm in
    length-append (prefix_bytes s.form s.fields) (row.entry.byte ∷ tail)
    ∙ ap (λ n. length (prefix_bytes s.form s.fields) + n)
    (omega (arith, length-append (place_bytes s.reg s.place) (imm_bytes (has_imm row) s.imm)))

module _ (row : Row) (s : Syntax) (is_row : IsRow row) (is : IsSyntax row s) where
  place_no_longer : length (place_bytes (candidate row (meant row s)).reg (candidate row (meant row s)).place) ≤ length
      (place_bytes s.reg s.place)
  unfolding candidate gives
  place_no_longer =
      let reg = (candidate row (meant row s)).reg in
      elim (asked row s is) [
        | inl e ↦ subst (λ e. length (place_bytes reg (shortest e)) ≤ length (place_bytes s.reg s.place)) (sym e)
            (shortest-least (is_vector row.kind) s.place s.fields.x s.fields.b reg s.reg (inl refl) is.place)
        | inr none ↦ subst (λ o. length (place_bytes reg (shortest (target_of row.kind o))) ≤ length
            (place_bytes s.reg s.place)) (sym none) (least_place row.kind reg s.reg s.place is.kind)
      ]

  x_false : s.fields.x ≡ false → (candidate row (meant row s)).fields.x ≡ false
  unfolding candidate gives
  x_false none = elim (asked row s is) [
    | inl e ↦ ap x_of e ∙ true_or_false (x_of (target (is_vector row.kind) s.place s.fields.x s.fields.b)) s.fields.x
        (x_of-target 1 (is_vector row.kind) s.place s.fields.x s.fields.b is.place) none
    | inr e ↦ ap (λ o. x_of (target_of row.kind o)) e ∙ no_x row.kind
  ]

  b_false : s.fields.b ≡ false → (candidate row (meant row s)).fields.b ≡ false
  unfolding candidate gives
  b_false none = elim (asked row s is) [
    | inl e ↦ ap b_of e ∙ true_or_false (b_of (target (is_vector row.kind) s.place s.fields.x s.fields.b)) s.fields.b
        (b_of-target 1 (is_vector row.kind) s.place s.fields.x s.fields.b is.place) none
    | inr e ↦ ap (λ o. b_of (target_of row.kind o)) e ∙ no_b row.kind
  ]

  fits_again : FitsTwoBytes s.fields → fits_two_bytes (candidate row (meant row s)).fields ≡ true
  unfolding candidate
  fits_again fits =
      let map : (map_number row.entry.map == 1) ≡ true = ap (λ m. map_number m == 1) (sym is.map ∙ fits.map) in
      let w : not row.w ≡ true = false_not row.w (sym is.w ∙ fits.w) in
      parts-both _ _ (parts-both _ _ (parts-both _ _ map w) (false_not _ (x_false fits.x)))
      (false_not _ (b_false fits.b))

  prefix_no_longer : length (prefix_bytes (candidate row (meant row s)).form (candidate row (meant row s)).fields) ≤
      length (prefix_bytes s.form s.fields)
  unfolding candidate
  prefix_no_longer = shorter_prefix (candidate row (meant row s)).fields s.fields s.form is.prefix.can_say fits_again

  -- the standard bytes are no longer than any that spell the meaning by the row
  no_longer : length (bytes_of row (candidate row (meant row s))) ≤ length (bytes_of row s)
  no_longer = omega (
    arith,
    bytes_length row s,
    bytes_length row (candidate row (meant row s)),
    place_no_longer,
    prefix_no_longer,
    imm_length (has_imm row) (candidate row (meant row s)).imm s.imm,
  )

-- the standard bytes are no longer than any that spell the meaning by the row
pub standard_least : (row : Row) (m : Meaning) (bytes : List ℕ) → IsRow row → SpellsBy bytes m row
    → length (bytes_of row (candidate row m)) ≤ length bytes
standard_least row m bytes is_row by =
    subst₂ (λ n b. length (bytes_of row (candidate row n)) ≤ length b) (sym by.means) (sym by.written)
    (no_longer row by.parts is_row by.fits)
