-- Whatever parts of a row mean a meaning are made by some open choice.
use Rattle.std.specs.Prelude.{◌≡◌, refl, ◌⊎◌, ℕ, zero, suc, ◌+◌, ◌-◌, ◌*◌, ◌<◌, ◌≤◌, ◌==◌, Bool, true, false, not}
use Rattle.std.specs.Prelude.{◌||◌, List, [], ◌∷◌, map, Option, Some, None, if◌then◌else◌}
use Rattle.std.specs.List.{list_any}
use Rattle.std.proofs.Common.{arith, ap, sym, ◌∙◌, inl, inr, subst}
use Rattle.x86_opcode.specs.declared.Opcode.{Opcode}
use Rattle.x86_operand.specs.declared.register.RegisterBank.{RegisterBank}
use Rattle.x86_operand.specs.Kind.{Kind, WithoutModRM, InRegister, InMemory, VectorIndexed, is_vector, plain_kind}
use Rattle.x86_operand.specs.Kind.{memory_kind}
use Rattle.x86_operand.specs.Meaning.{number_of, OperandMeaning, Meaning}
use Rattle.x86_address.specs.Bytes.{bit}
use Rattle.x86_address.specs.Place.{Place, NoPlace, Direct, Based, RipBased, Scaled, Baseless, kind_of, Target}
use Rattle.x86_address.specs.Place.{target}
use Rattle.x86_address.specs.Shortest.{is_upper}
use Rattle.x86_address.specs.Shortest.Lemmas.{kind_of_target-target, is_upper-field}
use Rattle.vex_rows.specs.FormRows.{gathers}
use Rattle.vex_rows.specs.Steps.{steps}
use Rattle.vex_rows.specs.Row.{Row, Among, IsRow, has_groups, has_imm, group_choices}
use Rattle.vex_rows.specs.Groups.{groups}
use Rattle.vex_rows.specs.Row.Lemmas.{Chosen, chosen-row}
use Rattle.vex_forms.specs.declared.slot.Slot.{Slot}
use Rattle.vex_forms.specs.declared.slot.Slot.TheVariants.{G, V, E, U8, I8, R4}
use Rattle.vex_forms.specs.declared.slot.VvvvRule.{VvvvRule}
use Rattle.vex_forms.specs.declared.slot.VvvvRule.TheVariants.{Named, Zero, Free}
use Rattle.vex_forms.specs.Gives.{gives, slot_operand}
use Rattle.vex_forms.specs.Slots.{slots, index_bank, names_g, names_v, names_e, names_imm, v_rule}
use Rattle.vex_decode.specs.Spelling.{Syntax, IsSyntax, meant, FitsGroup, FitsReg, FitsRule, FitsImm}
use Rattle.vex_decode.specs.Fields as fields
use Rattle.vex_encode.specs.Standard.{operand_of_kind, imm_of, target_of, reg_for}
use Rattle.vex_encode.specs.Standard.Lemmas.{First, first_or_none, found, g_given, v_given, e_given, signed_again}
use Rattle.vex_list.specs.declared.choices.PrefixForm as code
use Rattle.vex_list.specs.declared.choices.PrefixForm.TheVariants.{TwoBytes, ThreeBytes}
use Rattle.vex_list.specs.declared.choices.Choices.{Choices}
use Rattle.vex_list.specs.Choices.{made, chosen_fields, imm_operand, place_with, FormFits, Allows, r_fixed, x_fixed}
use Rattle.vex_list.specs.Choices.{b_fixed, v_fixed, lows_of, prefix_form}
use Rattle.vex_list.specs.Laws.{IsMade}
use Rattle.vex_list.proofs.Full.{full_row}
use Rattle.vex_list.proofs.Places.{form_of, place_again, form_fits, is_address_form, x_allowed, b_allowed}

-- ---- what a slot of each kind says

-- a kind without what its index is has no more to lose
plain_again : (kind : Kind) → plain_kind (plain_kind kind) ≡ plain_kind kind
plain_again WithoutModRM = refl
plain_again InRegister = refl
plain_again InMemory = refl
plain_again VectorIndexed = refl

module _ (index_bank : RegisterBank) (r v reg : ℕ) (e : Target) (imm : ℕ) where
  imm_slot : (slot : Slot) → imm < 256 → names_imm slot ≡ true →
      (imm_of (slot_operand index_bank r v reg e imm slot) ≤ imm)
      × (imm < imm_of (slot_operand index_bank r v reg e imm slot)
      + lows_of (slot_operand index_bank r v reg e imm slot))
  imm_slot U8 l h = (omega arith, omega arith)
  imm_slot I8 l h = let again = signed_again imm l in (omega (arith, again), omega (arith, again))
  imm_slot (R4 bank) l h = (omega arith, omega arith)
  imm_slot (G bank) l h = cc
  imm_slot (V bank) l h = cc
  imm_slot (E bank) l h = cc

-- ---- what is there without ModRM, groups and an immediate

-- a test that a condition asks for
asked : (a b : Bool) → (not a || b) ≡ true → a ≡ true → b ≡ true
asked true b h e = h
asked false b h e = cc

or_left : (a b c : Bool) → (not a || b || c) ≡ true → a ≡ true → b ≡ false → c ≡ true
or_left true true c h e n = cc
or_left true false c h e n = h
or_left false b c h e n = cc

-- the only place without ModRM
no_place : (p : Place) → kind_of p ≡ WithoutModRM → p ≡ NoPlace
no_place NoPlace h = refl
no_place (Direct rm) h = cc
no_place (Based rm d) h = cc
no_place (RipBased n) h = cc
no_place (Scaled k i j d) h = cc
no_place (Baseless k i n) h = cc

-- a kind other than that has ModRM
with_modrm : (vector modrm : Bool) (kind : Kind)
    → Among kind (if modrm then InRegister ∷ memory_kind vector ∷ [] else WithoutModRM ∷ [])
    → (kind ≡ WithoutModRM) ⊎ (modrm ≡ true)
with_modrm vector true kind m = inr refl
with_modrm vector false kind (inl e) = inl e
with_modrm vector false kind (inr e) = absurd e

-- a row with no group field has no groups
not_grouped : (has : Bool) (gs : List (ℕ × Opcode)) → Among None (if has then map (λ g. Some g.0) gs else None ∷ [])
    → has ≡ false
not_grouped false gs m = refl
not_grouped true gs m = absurd (none gs m) where
  none : (gs : List (ℕ × Opcode)) → Among None (map (λ g. Some g.0) gs) → ⊥
  none [] m = m
  none (g ∷ gs) (inl e) = cc
  none (g ∷ gs) (inr m) = none gs m

-- the reg field is the group, or what the slot G says
reg_again : (group : Option ℕ) (reg r g : ℕ) → FitsGroup group reg → reg < 8
    → (group ≡ None → (g ≡ reg + 8 * r) ⊎ ((g ≡ 0) × (reg ≡ 0))) → reg_for group g ≡ reg
reg_again (Some group) reg r g fits below named = sym fits
reg_again None reg r g fits below named = elim (named refl) [
  | inl e ↦ omega (arith, e)
  | inr e ↦ omega (arith, e.0, e.1)
]

reg_zero : (modrm : Bool) (reg : ℕ) → FitsReg modrm reg → modrm ≡ false → reg ≡ 0
reg_zero true reg h e = cc
reg_zero false reg h e = h

reg_below : (modrm : Bool) (reg : ℕ) → FitsReg modrm reg → reg < 8
reg_below true reg h = h
reg_below false reg h = omega arith

imm_zero : (has : Bool) (imm : ℕ) → FitsImm has imm → has ≡ false → imm ≡ 0
imm_zero true imm h e = cc
imm_zero false imm h e = h

imm_byte : (has : Bool) (imm : ℕ) → FitsImm has imm → imm < 256
imm_byte true imm h = h
imm_byte false imm h = omega arith

-- ---- the prefix

abbrev code_form : fields.PrefixForm → code.PrefixForm
code_form fields.C5 = TwoBytes
code_form fields.C4 = ThreeBytes

form_again : (form : fields.PrefixForm) → form ≡ prefix_form (code_form form)
form_again fields.C5 = refl
form_again fields.C4 = refl

-- a number of one bit is that of its test
bit_again : (r : ℕ) → r ≤ 1 → r ≡ bit (r == 1)
bit_again zero h = refl
bit_again (suc zero) h = refl
bit_again (suc (suc r)) h = absurd (omega arith)

upper_again : (reg r : ℕ) → reg < 8 → r ≤ 1 → (r == 1) ≡ is_upper (reg + 8 * r)
upper_again reg zero h k = sym (is_upper-field reg false h)
upper_again reg (suc zero) h k = sym (is_upper-field reg true h)
upper_again reg (suc (suc r)) h k = absurd (omega arith)

rule_named : (named demanded : Bool) → (if named then Named else if demanded then Zero else Free) ≡ Named → named ≡ true
rule_named true demanded e = refl
rule_named false true e = cc
rule_named false false e = cc

v_named : (row : Row) → v_rule row ≡ Named → list_any names_v (slots row) ≡ true
unfolding v_rule
v_named row e = rule_named _ _ e

true_false : (b : Bool) → (b ≡ true) ⊎ (b ≡ false)
true_false true = inl refl
true_false false = inr refl

module _ (row : Row) (s : Syntax) (is_row : IsRow row) (is : IsSyntax row s) where
  abbrev e_meant : Target
  e_meant = target (is_vector row.kind) s.place s.fields.x s.fields.b

  abbrev operand : Slot → OperandMeaning
  operand = slot_operand (index_bank row) s.fields.r s.fields.v s.reg e_meant s.imm

  abbrev operand_named : (Slot → Bool) → OperandMeaning
  operand_named is = operand_of_kind is (slots row) (map operand (slots row))

  chosen : Chosen row
  chosen = chosen-row row is_row

  -- the operand of E is what the place names
  e_is : target_of (plain_kind row.kind) (operand_named names_e) ≡ e_meant
  unfolding slots
  e_is = elim (with_modrm (gathers row.entry.form) (steps row.entry.form).modrm row.kind chosen.kind) [
    | inl none ↦
        let kind : plain_kind row.kind ≡ WithoutModRM = ap plain_kind none in
        rw kind (ap (λ p. target (is_vector row.kind) p s.fields.x s.fields.b)
        (sym (no_place s.place (is.kind.plain ∙ kind))))
    | inr modrm ↦
        let first = found names_e operand (slots row) (asked _ _ (full_row row).e modrm) in
        ap (target_of (plain_kind row.kind)) first.operand
        ∙ e_given (index_bank row) s.fields.r s.fields.v s.reg e_meant s.imm (plain_kind row.kind) first.slot
        first.passes (kind_of_target-target 1 (is_vector row.kind) s.place s.fields.x s.fields.b ∙ is.kind.plain
        ∙ sym (plain_again row.kind))
  ]

  below : s.reg < 8
  below = reg_below _ _ is.reg

  g_is : (first : First names_g operand (slots row)) → number_of (operand_named names_g) ≡ s.reg + 8 * s.fields.r
  g_is first = ap number_of first.operand
      ∙ g_given (index_bank row) s.fields.r s.fields.v s.reg e_meant s.imm first.slot first.passes

  reg_named : row.group ≡ None → (number_of (operand_named names_g) ≡ s.reg + 8 * s.fields.r)
      ⊎ ((number_of (operand_named names_g) ≡ 0) × (s.reg ≡ 0))
  unfolding slots
  reg_named none = elim (true_false (steps row.entry.form).modrm) [
    | inl modrm ↦
        let alone = not_grouped (has_groups row.entry.form) (groups row.entry.form row.l)
        (subst (λ group. Among group (group_choices row.entry.form row.l)) none chosen.group) in
        inl (g_is (found names_g operand (slots row) (or_left _ _ _ (full_row row).g modrm alone)))
    | inr without ↦ elim (first_or_none names_g operand (slots row)) [
      | inl first ↦ inl (g_is first)
      | inr empty ↦ inr (ap number_of empty.0, reg_zero _ s.reg is.reg without)
    ]
  ]

  reg_is : reg_for row.group (number_of (operand_named names_g)) ≡ s.reg
  reg_is = reg_again row.group s.reg s.fields.r _ is.group below reg_named

  imm_bounds : let o = operand_named names_imm in (imm_of o ≤ s.imm) × (s.imm < imm_of o + lows_of o)
  unfolding slots has_imm
  imm_bounds =
      let by_slot = λ (first : First names_imm operand (slots row)). subst
      (λ o. (imm_of o ≤ s.imm) × (s.imm < imm_of o + lows_of o)) (sym first.operand)
      (imm_slot (index_bank row) s.fields.r s.fields.v s.reg e_meant s.imm first.slot (imm_byte _ _ is.imm)
      first.passes) in
      elim (true_false (steps row.entry.form).imm) [
        | inl has ↦ by_slot (found names_imm operand (slots row) (asked _ _ (full_row row).imm has))
        | inr without ↦ elim (first_or_none names_imm operand (slots row)) [
          | inl first ↦ by_slot first
          | inr none ↦ subst (λ o. (imm_of o ≤ s.imm) × (s.imm < imm_of o + lows_of o)) (sym none.0)
              (omega arith, omega (arith, imm_zero _ s.imm is.imm without))
        ]
      ]

  r_open : Allows (r_fixed (list_any names_g (slots row)) (number_of (operand_named names_g))) (s.fields.r == 1)
  r_open = by (list_any names_g (slots row)) refl where
    by : (named : Bool) → list_any names_g (slots row) ≡ named
        → Allows (r_fixed named (number_of (operand_named names_g))) (s.fields.r == 1)
    by true h = upper_again s.reg s.fields.r below is.prefix.r
        ∙ ap is_upper (sym (g_is (found names_g operand (slots row) h)))
    by false h = tt

  v_open : Allows (v_fixed (v_rule row) (number_of (operand_named names_v))) s.fields.v
  v_open = by (v_rule row) refl is.v where
    by : (rule : VvvvRule) → v_rule row ≡ rule → FitsRule rule s.fields.v
        → Allows (v_fixed rule (number_of (operand_named names_v))) s.fields.v
    by Named h fits =
        let first = found names_v operand (slots row) (v_named row h) in
        let v_is = ap number_of first.operand
        ∙ v_given (index_bank row) s.fields.r s.fields.v s.reg e_meant s.imm first.slot first.passes in
        omega (arith, v_is, is.prefix.v)
    by Zero h fits = fits
    by Free h fits = tt

  made_again : IsMade row s (meant row s)
  unfolding made gives
  made_again =
      let bounds = imm_bounds in
      let vector = is_vector row.kind in
      let place = ap (place_with (form_of s.place)) e_is ∙ place_again vector s.place s.fields.x s.fields.b is.place in
      let imm : s.imm ≡ imm_of (imm_operand row (meant row s)) + (s.imm - imm_of (imm_operand row (meant row s))) =
      omega (arith, bounds.0) in
      let choices : Choices = record {
        form = code_form s.form;
        r = s.fields.r == 1;
        x = s.fields.x;
        b =
            s.fields.b;
        vvvv = s.fields.v;
        address = form_of s.place;
        low =
            s.imm - imm_of (imm_operand row (meant row s));
      } in
      let fields_are : s.fields ≡ chosen_fields row choices =
      λ t. record {
        map = is.map t;
        pp = is.pp t;
        w = is.w t;
        l = is.l t;
        r =
            bit_again s.fields.r is.prefix.r t;
        x = s.fields.x;
        b = s.fields.b;
        v = s.fields.v;
      } in
      record {
        choices = choices;
        is_open = record {
          fits = record { v = omega (arith, is.prefix.v); address = is_address_form s.place is.place };
          form = subst (λ f. fields.CanSay (prefix_form (code_form s.form)) f) fields_are
              (subst (λ form. fields.CanSay form s.fields) (form_again s.form) is.prefix.can_say);
          r = r_open;
          x = subst (λ e. Allows (x_fixed e) s.fields.x) (sym e_is)
              (x_allowed vector s.place s.fields.x s.fields.b is.place);
          b = subst (λ e. Allows (b_fixed e) s.fields.b) (sym e_is)
              (b_allowed vector s.place s.fields.x s.fields.b is.place);
          v = v_open;
          address = subst (λ e. FormFits e (form_of s.place)) (sym e_is)
              (form_fits vector s.place s.fields.x s.fields.b is.place);
          low = omega (arith, bounds.0, bounds.1);
        };
        is = λ t. record {
          form = form_again s.form t;
          fields = fields_are t;
          reg = sym reg_is t;
          place = sym place t;
          imm = imm t;
        };
      }

pub none_missing : (row : Row) (s : Syntax) (m : Meaning) → IsRow row → IsSyntax row s → m ≡ meant row s
    → IsMade row s m
none_missing row s m is_row is means = subst (IsMade row s) (sym means) (made_again row s is_row is)
