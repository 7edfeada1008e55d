-- The forms whose rows go by W.
use Rattle.std.specs.Prelude.{◌≡◌, ◌⊎◌, refl, Bool, true, false}
use Rattle.std.proofs.Common.{inl, inr, ap, sym, ◌∙◌}
use Rattle.vex_rows.specs.declared.form.Form.{Form}
use Rattle.vex_rows.specs.declared.form.Form.TheVariants.{Nothing, G_V_E, G_E_V, G_E_Ib, BMI1_F3}
use Rattle.vex_rows.specs.FormRows.{form_row, sizes}
use Rattle.vex_forms.specs.Slots.{goes_by_w}

-- whether a form is one of the four
abbrev pub is_by_w : Form → Bool
is_by_w G_V_E = true
is_by_w G_E_V = true
is_by_w G_E_Ib = true
is_by_w BMI1_F3 = true
is_by_w _ = false

told : (form : Form) → is_by_w form ≡ goes_by_w form
unfolding goes_by_w form_row sizes
told Nothing = refl
told _ = refl

-- one of them goes by W, and no other form does
pub one_told : (form : Form) → (form ≡ G_V_E) ⊎ (form ≡ G_E_V) ⊎ (form ≡ G_E_Ib) ⊎ (form ≡ BMI1_F3)
    → true ≡ goes_by_w form
one_told form (inl e) = ap is_by_w (sym e) ∙ told form
one_told form (inr (inl e)) = ap is_by_w (sym e) ∙ told form
one_told form (inr (inr (inl e))) = ap is_by_w (sym e) ∙ told form
one_told form (inr (inr (inr e))) = ap is_by_w (sym e) ∙ told form

not_by_w : (form : Form) → (form ≡ G_V_E → ⊥) → (form ≡ G_E_V → ⊥) → (form ≡ G_E_Ib → ⊥) → (form ≡ BMI1_F3 → ⊥)
    → false ≡ is_by_w form
not_by_w G_V_E a b c d = absurd (a refl)
not_by_w G_E_V a b c d = absurd (b refl)
not_by_w G_E_Ib a b c d = absurd (c refl)
not_by_w BMI1_F3 a b c d = absurd (d refl)
not_by_w _ a b c d = refl

pub none_told : (form : Form) → (form ≡ G_V_E → ⊥) → (form ≡ G_E_V → ⊥) → (form ≡ G_E_Ib → ⊥)
    → (form ≡ BMI1_F3 → ⊥) → false ≡ goes_by_w form
none_told form a b c d = not_by_w form a b c d ∙ told form
