-- What follows from the answer of one step after another.
use Rattle.std.specs.Prelude.{◌≡◌, refl, ℕ, Bool, true, false, List, Result, Ok, Err, if◌then◌else◌, ◌⊎◌}
use Rattle.std.proofs.Common.{inl, inr, ap}
use Rattle.x86_operand.specs.declared.error.DecodeError.{DecodeError}
use Rattle.x86_address.specs.Reading.{Reading, ◌>>=◌}

-- a step that answered, and what the next one answered
pub record Went {A B : Type 0} (step : Reading A) (next : A × List ℕ → Reading B)
    (answer : Result (B × List ℕ) (DecodeError × List ℕ)) : Type 0 where
  pub read : A × List ℕ
  pub was : step ≡ Ok read
  pub after : next read ≡ answer

pub ok_same : {A B : Type 0} {x y : A} → ◌≡◌ {A = Result A B} (Ok x) (Ok y) → x ≡ y
ok_same e = cc

pub err_same : {A B : Type 0} {x y : B} → ◌≡◌ {A = Result A B} (Err x) (Err y) → x ≡ y
err_same e = cc

-- where both answered, the first did
pub went : {A B : Type 0} (step : Reading A) (next : A × List ℕ → Reading B) (y : B × List ℕ) → (step >>= next) ≡ Ok y
    → Went step next (Ok y)
went (Ok read) next y e = record { read = read; was = refl; after = e }
went (Err error) next y e = cc

-- where the two failed, the first did or the second
pub failed : {A B : Type 0} (step : Reading A) (next : A × List ℕ → Reading B) (error : DecodeError × List ℕ)
    → (step >>= next) ≡ Err error → (step ≡ Err error) ⊎ Went step next (Err error)
failed (Ok read) next error e = inr (record { read = read; was = refl; after = e })
failed (Err other) next error e = inl (ap Err (err_same e))

-- which way a test went
pub chosen : {A : Type 0} (b : Bool) (x y z : A) → (if b then x else y) ≡ z
    → ((b ≡ true) × (x ≡ z)) ⊎ ((b ≡ false) × (y ≡ z))
chosen true x y z e = inl (refl, e)
chosen false x y z e = inr (refl, e)
