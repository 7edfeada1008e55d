-- Bytes that a step finds too few go on to bytes that it takes whole.
use Rattle.std.proofs.Common.{◌≡◌, ◌%◌, arith, ◌==◌, ◌&&◌, ℕ, Bool, true, false, List, [], ◌∷◌, ◌++◌, Ok, Err, IsErr}
use Rattle.std.proofs.Common.{if◌then◌else◌, refl}
use Rattle.x86_address.specs.Bytes.{IsBytes, Short, Long}
use Rattle.x86_address.specs.Reading.{Reading, ◌>>=◌, take_byte, take_doubleword, take_displacement, take_baseless}
use Rattle.x86_address.specs.Reading.{take_scaled, take_sib, take_place}

-- bytes that go on from these to ones that the step takes whole
pub record Completes {A : Type 0} (step : List ℕ → Reading A) (bytes : List ℕ) : Type 0 where
  pub missing : List ℕ
  pub are : IsBytes missing
  pub value : A
  pub answers : step (bytes ++ missing) ≡ Ok (value, [])

-- wherever the step fails, there are such bytes
abbrev pub Completable : {A : Type 0} → (List ℕ → Reading A) → Type 0
Completable step = (bytes : List ℕ) → IsErr (step bytes) → Completes step bytes

-- a step whose value is turned into one more fails where it fails
pub fails_before : {A B : Type 0} (f : A → B) (reading : Reading A)
    → IsErr (reading >>= (λ read. Ok (f read.0, read.1))) → IsErr reading
fails_before f (Ok read) h = cc
fails_before f (Err error) h = refl

-- and goes on as it does
completes_as : {A B : Type 0} (f : A → B) (step : List ℕ → Reading A) {bytes : List ℕ} → Completes step bytes
    → Completes (λ bytes. step bytes >>= (λ read. Ok (f read.0, read.1))) bytes
completes_as f step c = record { missing = c.missing; are = c.are; value = f c.value; answers = rw c.answers refl }

completable_as : {A B : Type 0} (f : A → B) (step : List ℕ → Reading A) → Completable step
    → Completable (λ bytes. step bytes >>= (λ read. Ok (f read.0, read.1)))
completable_as f step c bytes h = completes_as f step (c bytes (fails_before f (step bytes) h))

-- one step or another
completes_if : {A : Type 0} (test : Bool) (one other : List ℕ → Reading A) {bytes : List ℕ} → Completes one bytes
    → Completes other bytes → Completes (λ bytes. if test then one bytes else other bytes) bytes
completes_if true one other c d = c
completes_if false one other c d = d

completable_if : {A : Type 0} (test : Bool) (one other : List ℕ → Reading A) → Completable one → Completable other
    → Completable (λ bytes. if test then one bytes else other bytes)
completable_if true one other c d = c
completable_if false one other c d = d

-- a byte that lacks is 0
completable_byte : Completable take_byte
completable_byte [] h = record { missing = 0 ∷ []; are = (omega arith, tt); value = _; answers = refl }
completable_byte (byte ∷ bytes) h = cc

-- and so is each of four
completable_doubleword : Completable take_doubleword
completable_doubleword [] h = record {
  missing = 0 ∷ 0 ∷ 0 ∷ 0 ∷ [];
  are = (omega arith, (omega arith, (omega arith, (omega arith, tt))));
  value = _;
  answers = refl;
}
completable_doubleword (a ∷ []) h = record {
  missing = 0 ∷ 0 ∷ 0 ∷ [];
  are = (omega arith, (omega arith, (omega arith, tt)));
  value = _;
  answers = refl;
}
completable_doubleword (a ∷ b ∷ []) h = record {
  missing = 0 ∷ 0 ∷ [];
  are = (omega arith, (omega arith, tt));
  value = _;
  answers = refl;
}
completable_doubleword (a ∷ b ∷ c ∷ []) h =
    record { missing = 0 ∷ []; are = (omega arith, tt); value = _; answers = refl }
completable_doubleword (a ∷ b ∷ c ∷ d ∷ bytes) h = cc

-- a displacement
completable_displacement : (mode : ℕ) → Completable (take_displacement mode)
completable_displacement mode =
    completable_if (mode == 0) _ _ (λ bytes h. cc)
    (completable_if (mode == 1) _ _ (completable_as Short take_byte completable_byte)
    (completable_as Long take_doubleword completable_doubleword))

-- no bytes go on to a displacement, whatever mod is
displacement_from_none : (mode : ℕ) → Completes (take_displacement mode) []
displacement_from_none mode =
    completes_if (mode == 0) _ _ (record { missing = []; are = tt; value = _; answers = refl })
    (completes_if (mode == 1) _ _ (completes_as Short take_byte (completable_byte [] refl))
    (completes_as Long take_doubleword (completable_doubleword [] refl)))

-- SIB and displacement: SIB is 0 where it lacks
completable_sib : (mode : ℕ) → Completable (take_sib mode)
completable_sib mode [] h =
    let after = completes_if (mode == 0 && 0 % 8 == 5) (take_baseless 0) (take_scaled mode 0)
    (completes_as _ take_doubleword (completable_doubleword [] refl))
    (completes_as _ (take_displacement mode) (displacement_from_none mode)) in
    record { missing = 0 ∷ after.missing; are = (omega arith, after.are); value = after.value; answers = after.answers }
completable_sib mode (sib ∷ bytes) h =
    let after = completable_if (mode == 0 && sib % 8 == 5) (take_baseless sib) (take_scaled mode sib)
    (completable_as _ take_doubleword completable_doubleword)
    (completable_as _ (take_displacement mode) (completable_displacement mode)) bytes h in
    record { missing = after.missing; are = after.are; value = after.value; answers = after.answers }

-- what follows ModRM
pub completable_place : (mode rm : ℕ) → Completable (take_place mode rm)
completable_place mode rm =
    completable_if (mode == 3) _ _ (λ bytes h. cc)
    (completable_if (rm == 4) _ _ (completable_sib mode)
    (completable_if (mode == 0 && rm == 5) _ _ (completable_as _ take_doubleword completable_doubleword)
    (completable_as _ (take_displacement mode) (completable_displacement mode))))
