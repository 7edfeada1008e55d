-- What each step that reads keeps, which no contract cites: which errors it has, and that more bytes after those that
-- it takes change nothing.
use Rattle.std.proofs.Common.{◌≡◌, ◌≢◌, ℕ, List, [], ◌∷◌, ◌++◌, Ok, Err, Bool, true, false, if◌then◌else◌, ◌<◌, refl}
use Rattle.std.proofs.Common.{ap, subst}
use Rattle.x86_operand.specs.declared.error.DecodeError.{DecodeError}
use Rattle.x86_operand.specs.declared.error.DecodeError.TheVariants.{ExhaustedInput}
use Rattle.x86_address.specs.Bytes.{IsBytes}
use Rattle.x86_address.specs.Reading.{Reading, ◌>>=◌, take_byte}

-- two answers that are one hold one value and one rest
pub same_read : {A : Type 0} {x y : A × List ℕ} → ◌≡◌ {A = Reading A} (Ok x) (Ok y) → x ≡ y
same_read h = cc

-- two errors that are one hold one kind and one rest
pub same_error : {A : Type 0} {x y : DecodeError × List ℕ} → ◌≡◌ {A = Reading A} (Err x) (Err y) → x ≡ y
same_error h = cc

-- each error of a step is as `Fails` says; and where more bytes follow, it answers the same value, or the same error
-- other than that the bytes are exhausted
pub record IsReader {A : Type 0} (Fails : DecodeError × List ℕ → Type 0) (reader : List ℕ → Reading A) : Type 0 where
  pub fails : (bytes : List ℕ) (error : DecodeError × List ℕ) → reader bytes ≡ Err error → Fails error
  pub more : (bytes more : List ℕ) (read : A × List ℕ) → reader bytes ≡ Ok read
      → reader (bytes ++ more) ≡ Ok (read.0, read.1 ++ more)
  pub fails_more : (bytes more : List ℕ) (error : DecodeError × List ℕ) → reader bytes ≡ Err error
      → error.0 ≢ ExhaustedInput → reader (bytes ++ more) ≡ Err (error.0, error.1 ++ more)

-- a step that takes nothing
pub IsReader-ok : {A : Type 0} (Fails : DecodeError × List ℕ → Type 0) (value : A)
    → IsReader Fails (λ bytes. Ok (value, bytes))
IsReader-ok {A} Fails value = record {
  fails = λ bytes error h. cc;
  more = λ bytes more read h. subst (λ r. ◌≡◌ {A = Reading A} (Ok (value, bytes ++ more)) (Ok (r.0, r.1 ++ more)))
      (same_read h) refl;
  fails_more = λ bytes more error h e. cc;
}

-- a step that refuses
pub IsReader-err : {A : Type 0} (Fails : DecodeError × List ℕ → Type 0) (e : DecodeError)
    → ((bytes : List ℕ) → Fails (e, bytes)) → IsReader {A = A} Fails (λ bytes. Err (e, bytes))
IsReader-err {A} Fails e fails = record {
  fails = λ bytes error h. subst Fails (same_error h) (fails bytes);
  more = λ bytes more read h. cc;
  fails_more = λ bytes more error h x. subst
      (λ r. ◌≡◌ {A = Reading A} (Err (e, bytes ++ more)) (Err (r.0, r.1 ++ more))) (same_error h) refl;
}

-- one step after another
pub IsReader-bind : {A B : Type 0} (Fails : DecodeError × List ℕ → Type 0) (reader : List ℕ → Reading A)
    (next : A → List ℕ → Reading B) → IsReader Fails reader → ((value : A) → IsReader Fails (next value))
    → IsReader Fails (λ bytes. reader bytes >>= (λ read. next read.0 read.1))
IsReader-bind {A} {B} Fails reader next p q = record {
  fails = λ bytes error. fails (reader bytes) error (p.fails bytes);
  more = λ bytes more read. longer (reader bytes) (reader (bytes ++ more)) more read (p.more bytes more);
  fails_more = λ bytes more error. fails_longer (reader bytes) (reader (bytes ++ more)) more error (p.more bytes more)
      (p.fails_more bytes more);
}
  where
    fails : (step : Reading A) (error : DecodeError × List ℕ) → ((e : DecodeError × List ℕ) → step ≡ Err e → Fails e)
        → (step >>= (λ read. next read.0 read.1)) ≡ Err error → Fails error
    fails (Ok read) error step h = (q read.0).fails read.1 error h
    fails (Err e) error step h = step error cc

    longer : (step again : Reading A) (more : List ℕ) (read : B × List ℕ)
        → ((r : A × List ℕ) → step ≡ Ok r → again ≡ Ok (r.0, r.1 ++ more))
        → (step >>= (λ read. next read.0 read.1)) ≡ Ok read
        → (again >>= (λ read. next read.0 read.1)) ≡ Ok (read.0, read.1 ++ more)
    longer (Ok first) again more read step h = rw (step first refl) ((q first.0).more first.1 more read h)
    longer (Err e) again more read step h = cc

    fails_longer : (step again : Reading A) (more : List ℕ) (error : DecodeError × List ℕ)
        → ((r : A × List ℕ) → step ≡ Ok r → again ≡ Ok (r.0, r.1 ++ more))
        → ((e : DecodeError × List ℕ) → step ≡ Err e → e.0 ≢ ExhaustedInput → again ≡ Err (e.0, e.1 ++ more))
        → (step >>= (λ read. next read.0 read.1)) ≡ Err error → error.0 ≢ ExhaustedInput
        → (again >>= (λ read. next read.0 read.1)) ≡ Err (error.0, error.1 ++ more)
    fails_longer (Ok first) again more error ok err h other =
        rw (ok first refl) ((q first.0).fails_more first.1 more error h other)
    fails_longer (Err e) again more error ok err h other = rw (err error (cc) other) refl

-- one step or another
pub IsReader-if : {A : Type 0} (Fails : DecodeError × List ℕ → Type 0) (test : Bool)
    (reader other : List ℕ → Reading A) → IsReader Fails reader → IsReader Fails other
    → IsReader Fails (λ bytes. if test then reader bytes else other bytes)
IsReader-if Fails true reader other p q = p
IsReader-if Fails false reader other p q = q

-- a step whose errors are all of a wider kind
pub IsReader-wider : {A : Type 0} (Fails Wider : DecodeError × List ℕ → Type 0) (reader : List ℕ → Reading A)
    → ((error : DecodeError × List ℕ) → Fails error → Wider error) → IsReader Fails reader → IsReader Wider reader
IsReader-wider Fails Wider reader wider p = record {
  fails = λ bytes error h. wider error (p.fails bytes error h);
  more = p.more;
  fails_more = p.fails_more;
}

-- whatever a step answers, its value and the rest are so
abbrev pub Answers : {A : Type 0} → (A → List ℕ → Type 0) → Reading A → Type 0
Answers {A} P step = (value : A) (rest : List ℕ) → step ≡ Ok (value, rest) → P value rest

-- a step that takes nothing answers what it is given
pub Answers-ok : {A : Type 0} (P : A → List ℕ → Type 0) (value : A) (rest : List ℕ) → P value rest
    → Answers P (Ok (value, rest))
Answers-ok P value rest p value' rest' h = subst (λ read. P read.0 read.1) (same_read h) p

-- one step after another answers what the second does after the first
pub Answers-bind : {A B : Type 0} (Q : A → List ℕ → Type 0) (P : B → List ℕ → Type 0) (step : Reading A)
    (next : A × List ℕ → Reading B) → Answers Q step
    → ((value : A) (rest : List ℕ) → Q value rest → Answers P (next (value, rest))) → Answers P (step >>= next)
Answers-bind Q P (Ok read) next q p value rest h = p read.0 read.1 (q read.0 read.1 refl) value rest h
Answers-bind Q P (Err error) next q p value rest h = cc

-- one step or another answers what both do
pub Answers-if : {A : Type 0} (P : A → List ℕ → Type 0) (test : Bool) (step other : Reading A)
    → (test ≡ true → Answers P step) → (test ≡ false → Answers P other) → Answers P (if test then step else other)
Answers-if P true step other p q = p refl
Answers-if P false step other p q = q refl

-- the one error of the steps of an address: no byte is left
abbrev pub Exhausts : DecodeError × List ℕ → Type 0
Exhausts error = error ≡ (ExhaustedInput, [])

-- a byte that is there is read whatever follows
take_byte-more : (bytes more : List ℕ) (read : ℕ × List ℕ) → take_byte bytes ≡ Ok read
    → take_byte (bytes ++ more) ≡ Ok (read.0, read.1 ++ more)
take_byte-more [] more read h = cc
take_byte-more (byte ∷ rest) more read h = (IsReader-ok Exhausts byte).more rest more read h

-- only no bytes fail
take_byte-fails : (bytes : List ℕ) (error : DecodeError × List ℕ) → take_byte bytes ≡ Err error → Exhausts error
take_byte-fails [] error h = cc
take_byte-fails (byte ∷ rest) error h = cc

-- a byte is read by a step of an address
pub IsReader-take_byte : IsReader Exhausts take_byte
IsReader-take_byte = record {
  fails = take_byte-fails;
  more = take_byte-more;
  fails_more = λ bytes more error h other. absurd (other (ap (λ e. e.0) (take_byte-fails bytes error h)));
}

-- a byte that was read stood first
pub record ReadsByte (bytes : List ℕ) (n : ℕ) (rest : List ℕ) : Type 0 where
  pub is_byte : n < 256
  pub written : bytes ≡ n ∷ rest
  pub left : IsBytes rest

-- a byte that was read stood first
pub take_byte-written : (bytes : List ℕ) → IsBytes bytes → Answers (ReadsByte bytes) (take_byte bytes)
take_byte-written [] ok value rest h = cc
take_byte-written (byte ∷ after) ok value rest h =
    Answers-ok (ReadsByte (byte ∷ after)) byte after (record { is_byte = ok.0; written = refl; left = ok.1 }) value
    rest h
