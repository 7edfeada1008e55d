-- Every string that a row spells is among those of the choices.
use Rattle.std.specs.Prelude.{◌≡◌, refl, ℕ, ◌+◌, ◌-◌, ◌<◌, ◌≤◌, Bool, true, false, List, ◌∷◌, ◌++◌}
use Rattle.std.proofs.Common.{zero, suc, arith, ap, sym, ◌∙◌, subst}
use Rattle.x86_operand.specs.Meaning.{Meaning}
use Rattle.x86_address.specs.Place.{place_bytes, Target, NoTarget, Number, At}
use Rattle.vex_rows.specs.Row.{Row, IsRow}
use Rattle.vex_forms.specs.Operands.{target_seen}
use Rattle.vex_decode.specs.Spelling.{bytes_of, imm_bytes, SpellsBy}
use Rattle.vex_decode.specs.Fields.{prefix_bytes, CanSay}
use Rattle.vex_list.specs.declared.choices.PrefixForm.{PrefixForm}
use Rattle.vex_list.specs.declared.choices.PrefixForm.TheVariants.{TwoBytes, ThreeBytes}
use Rattle.vex_list.specs.declared.choices.Width.{Width}
use Rattle.vex_list.specs.declared.choices.Width.TheVariants.{NoBytes, OneByte, FourBytes}
use Rattle.vex_list.specs.declared.choices.AddressForm.{AddressForm}
use Rattle.vex_list.specs.declared.choices.AddressForm.TheVariants.{WithoutSib, WithSib}
use Rattle.vex_list.specs.declared.choices.Choices.{Choices}
use Rattle.vex_list.specs.declared.choices.RowParts.{RowParts}
use Rattle.vex_list.specs.Choices.{made, prefix_form, place_with, chosen_fields, FormFits, Allows}
use Rattle.vex_list.specs.Next.{Between}
use Rattle.vex_list.specs.Sets.{seen_fields, IsRowParts, ByLow, ByAddress, ByVvvv, ByPrefix, with_address}
use Rattle.vex_list.specs.Sets.{with_vvvv, prefix_choice, address_form, address_forms}
use Rattle.vex_list.specs.Laws.{IsOpen}
use Rattle.vex_list.proofs.Missing.{none_missing}

-- what holds of four numbers holds of each below 4
below_four : (P : ℕ → Type 0) → P 0 → P 1 → P 2 → P 3 → (k : ℕ) → k < 4 → P k
below_four P a b c d zero h = a
below_four P a b c d (suc zero) h = b
below_four P a b c d (suc (suc zero)) h = c
below_four P a b c d (suc (suc (suc zero))) h = d
below_four P a b c d (suc (suc (suc (suc k)))) h = absurd (omega arith)

-- ---- the numbers of the choices

-- the number of the form of this width that has no SIB byte
abbrev width_number : Width → ℕ
width_number NoBytes = 0
width_number OneByte = 5
width_number FourBytes = 10

without_sib : (width : Width) → address_form (width_number width) ≡ WithoutSib width
unfolding address_form
without_sib NoBytes = refl
without_sib OneByte = refl
without_sib FourBytes = refl

with_sib : (width : Width) (k : ℕ) → k < 4 → address_form (width_number width + 1 + k) ≡ WithSib k width
unfolding address_form
with_sib NoBytes = below_four (λ k. address_form (0 + 1 + k) ≡ WithSib k NoBytes) refl refl refl refl
with_sib OneByte = below_four (λ k. address_form (5 + 1 + k) ≡ WithSib k OneByte) refl refl refl refl
with_sib FourBytes = below_four (λ k. address_form (10 + 1 + k) ≡ WithSib k FourBytes) refl refl refl refl

last_width : (width : Width) → width_number width ≤ 10
last_width NoBytes = omega arith
last_width OneByte = omega arith
last_width FourBytes = omega arith

-- each form that fits a target has a number
form_number : (e : Target) (form : AddressForm) → FormFits e form
    → (n : ℕ) × (n < address_forms e) × (address_form n ≡ form)
form_number NoTarget form fits = (0, omega arith, without_sib NoBytes ∙ sym fits)
form_number (Number n) form fits = (0, omega arith, without_sib NoBytes ∙ sym fits)
form_number (At a) (WithoutSib width) fits = (
  width_number width,
  omega (arith, last_width width),
  without_sib width,
)
form_number (At a) (WithSib k width) fits = (
  width_number width + 1 + k,
  omega (arith, last_width width, fits),
  with_sib width k fits,
)

-- each form of a prefix with bits R, X and B has a number
prefix_number : (form : PrefixForm) (r x b : Bool) → (n : ℕ) × (n < 16) × (prefix_choice n
    ≡ record { form = form; r = r; x = x; b = b; vvvv = 0; address = WithoutSib NoBytes; low = 0 })
unfolding prefix_choice
prefix_number ThreeBytes true true true = (0, omega arith, refl)
prefix_number ThreeBytes true true false = (1, omega arith, refl)
prefix_number ThreeBytes true false true = (2, omega arith, refl)
prefix_number ThreeBytes true false false = (3, omega arith, refl)
prefix_number ThreeBytes false true true = (4, omega arith, refl)
prefix_number ThreeBytes false true false = (5, omega arith, refl)
prefix_number ThreeBytes false false true = (6, omega arith, refl)
prefix_number ThreeBytes false false false = (7, omega arith, refl)
prefix_number TwoBytes true true true = (8, omega arith, refl)
prefix_number TwoBytes true true false = (9, omega arith, refl)
prefix_number TwoBytes true false true = (10, omega arith, refl)
prefix_number TwoBytes true false false = (11, omega arith, refl)
prefix_number TwoBytes false true true = (12, omega arith, refl)
prefix_number TwoBytes false true false = (13, omega arith, refl)
prefix_number TwoBytes false false true = (14, omega arith, refl)
prefix_number TwoBytes false false false = (15, omega arith, refl)

module _ (row : Row) (m : Meaning) (parts : RowParts) where
  -- what is written is what the row writes
  pub bytes_made : (c : Choices) → IsRowParts row m parts →
      prefix_bytes (prefix_form c.form) (seen_fields parts c) ++ parts.byte
      ∷ (place_bytes parts.reg (place_with c.address (target_seen parts.e))
      ++ imm_bytes parts.has_imm (parts.imm + c.low))
      ≡ bytes_of row (made row m c)
  unfolding made
  bytes_made c is = λ t.
      prefix_bytes (prefix_form c.form) (record (seen_fields parts c)
      { map = is.map t; pp = is.pp t; w = is.w t; l = is.l t })
      ++ is.byte t ∷ (place_bytes (is.reg t) (place_with c.address (is.target t))
      ++ imm_bytes (is.has_imm t) (is.imm t + c.low))

  -- over the numbers of the forms of an address
  pub by_forms : (c : Choices) (b : List ℕ) → ByAddress row m parts c b
      → Between 0 (address_forms (target_seen parts.e)) (λ n. ByLow row m parts (with_address c (address_form n))) b
  by_forms c b t =
      let at = form_number (target_seen parts.e) t.0 t.1 in
      (at.0, omega arith, at.1, subst (λ form. ByLow row m parts (with_address c form) b) (sym at.2) t.2)

  -- from the last value of vvvv to the first
  pub by_inverted : (c : Choices) (first end : ℕ)
      → ((v : ℕ) → v < 16 → Allows parts.vvvv v → (first ≤ 15 - v) × (15 - v < end)) → (b : List ℕ)
      → ByVvvv row m parts c b → Between first end (λ n. ByAddress row m parts (with_vvvv c (15 - n))) b
  by_inverted c first end all b t =
      let again : t.0 ≡ 15 - (15 - t.0) = omega (arith, t.1) in
      let bounds = all t.0 t.1 t.2 in
      (15 - t.0, bounds.0, bounds.1, subst (λ v. ByAddress row m parts (with_vvvv c v) b) again t.3)

module _ (row : Row) (m : Meaning) (parts : RowParts) (is : IsRowParts row m parts) (b : List ℕ) (d : Choices)
    (is_open : IsOpen row m d) (written : b ≡ bytes_of row (made row m d)) where
  -- the string of an open choice is among those of its form and its bits R, X and B
  by_its_vvvv : ByVvvv row m parts d b
  by_its_vvvv =
      let low : ByLow row m parts d b = (d.low, omega arith, subst (λ n. d.low < n) (sym is.lows) is_open.low, written)
      in
      let address : ByAddress row m parts d b =
      (d.address, subst (λ e. FormFits e d.address) (sym is.target) is_open.address, low) in (
        d.vvvv,
        is_open.fits.v,
        subst (λ o. Allows o d.vvvv) (sym is.v) is_open.v,
        address,
      )

  can_say : (form : PrefixForm) → CanSay (prefix_form form) (chosen_fields row d)
      → CanSay (prefix_form form) (seen_fields parts d)
  can_say TwoBytes say = record { map = is.map ∙ say.map; w = is.w ∙ say.w; x = say.x; b = say.b }
  can_say ThreeBytes say = tt

  again : (form : PrefixForm) → CanSay (prefix_form form) (seen_fields parts d)
      → CanSay (prefix_form form) (seen_fields parts
      (record { form = d.form; r = d.r; x = d.x; b = d.b; vvvv = 0; address = WithoutSib NoBytes; low = 0 }))
  again TwoBytes say = record { map = say.map; w = say.w; x = say.x; b = say.b }
  again ThreeBytes say = tt

  by_number : Between 0 16 (λ n. ByPrefix row m parts (prefix_choice n)) b
  by_number =
      let at = prefix_number d.form d.r d.x d.b in
      let open_there : ByPrefix row m parts
      (record { form = d.form; r = d.r; x = d.x; b = d.b; vvvv = 0; address = WithoutSib NoBytes; low = 0 }) b = (
        record {
          form = again d.form (can_say d.form is_open.form);
          r = subst (λ o. Allows o d.r) (sym is.r) is_open.r;
          x = subst (λ o. Allows o d.x) (sym is.x) is_open.x;
          b = subst (λ o. Allows o d.b) (sym is.b) is_open.b;
        },
        by_its_vvvv,
      ) in
      (at.0, omega arith, at.1, subst (λ c. ByPrefix row m parts c b) (sym at.2) open_there)

-- what the row spells is among the strings of all choices
pub by_all : (row : Row) (m : Meaning) (parts : RowParts) → IsRow row → IsRowParts row m parts → (b : List ℕ)
    → SpellsBy b m row → Between 0 16 (λ n. ByPrefix row m parts (prefix_choice n)) b
by_all row m parts is_row is b spells =
    let found = none_missing row spells.parts m is_row spells.fits spells.means in
    by_number row m parts is b found.choices found.is_open (spells.written ∙ ap (bytes_of row) found.is)
