-- The address that a place names, by its parts.
use Rattle.std.proofs.Common.{◌≡◌, ◌≢◌, ◌⊎◌, Bool, false, Option, Some, None, ℤ, w32, ℕ, ◌+◌, ◌*◌, ◌==◌, ◌&&◌, ap, sym}
use Rattle.std.proofs.Common.{◌∙◌, arith, refl}
use Rattle.std.proofs.lemmas.Bool.Decides.{nat_tests}
use Rattle.std.specs.Int.{cast_signed}
use Rattle.x86_operand.specs.declared.register.RegisterBank.TheVariants.{Q, RIP}
use Rattle.x86_operand.specs.declared.address.Address.{Address}
use Rattle.x86_operand.specs.declared.address.Index.{Index}
use Rattle.x86_operand.specs.Register.{Register}
use Rattle.x86_address.specs.Bytes.{bit, Displacement, displacement_value}
use Rattle.x86_address.specs.Place.{Place, PlainAddress, At, target, Based, RipBased, Scaled, Baseless, index_of}
use Rattle.x86_address.specs.Shortest.{plain, in_banks, index_register}
use Rattle.x86_address.specs.Shortest.Lemmas.{plain-in_banks}
use Rattle.x86_address.specs.Reads.{NamesAddress}

-- a base is named where mod isn't 0 or the number isn't 5
pub not_both : (mode n : ℕ) → (mode ≢ 0) ⊎ (n ≢ 5) → (mode == 0 && n == 5) ≡ false
not_both mode n h = grind (arith, nat_tests)

-- the address that a place names
names_by : {vector x b : Bool} {place : Place} {address : Address} (a : PlainAddress) → target vector place x b ≡ At a
    → address ≡ in_banks Q a → NamesAddress vector x b place address
names_by {address = address} a names banks =
    let same : plain address ≡ a = ap plain banks ∙ plain-in_banks Q a in
    record { names = names ∙ ap At (sym same); banks = banks ∙ ap (in_banks Q) (sym same) }

module _ {vector x b : Bool} {base : Option Register} {index : Option Index} {disp : ℤ} where
  pub names_scaled : {k i j : ℕ} {d : Displacement} → base ≡ Some (record { bank = Q; num = j + 8 * bit b })
      → index ≡ index_register Q (index_of vector k i x) → disp ≡ displacement_value d
      → NamesAddress vector x b (Scaled k i j d) (record { base = base; index = index; disp = disp })
  names_scaled p q r = names_by _ refl (λ t. record { base = p t; index = q t; disp = r t })

  pub names_baseless : {k i n : ℕ} → base ≡ None → index ≡ index_register Q (index_of vector k i x)
      → disp ≡ cast_signed w32 n → NamesAddress vector x b (Baseless k i n)
      (record { base = base; index = index; disp = disp })
  names_baseless p q r = names_by _ refl (λ t. record { base = p t; index = q t; disp = r t })

  pub names_rip : {n : ℕ} → base ≡ Some (record { bank = RIP; num = 0 }) → index ≡ None → disp ≡ cast_signed w32 n
      → NamesAddress vector x b (RipBased n) (record { base = base; index = index; disp = disp })
  names_rip p q r = names_by _ refl (λ t. record { base = p t; index = q t; disp = r t })

  pub names_based : {rm : ℕ} {d : Displacement} → base ≡ Some (record { bank = Q; num = rm + 8 * bit b })
      → index ≡ None → disp ≡ displacement_value d
      → NamesAddress vector x b (Based rm d) (record { base = base; index = index; disp = disp })
  names_based p q r = names_by _ refl (λ t. record { base = p t; index = q t; disp = r t })
