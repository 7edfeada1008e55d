-- Lemmas that count the bytes of steps, and that no contract cites.
use Rattle.std.proofs.Common.{ℕ, ◌≤◌, ◌+◌, ◌==◌, ◌&&◌, ◌%◌, Bool, true, false, if◌then◌else◌, List, [], ◌∷◌, length, Ok}
use Rattle.std.proofs.Common.{Err, arith}
use Rattle.x86_operand.specs.declared.error.DecodeError.{DecodeError}
use Rattle.x86_address.specs.Reading.{Reading, ◌>>=◌, take_byte, take_doubleword, take_displacement, take_baseless}
use Rattle.x86_address.specs.Reading.{take_scaled, take_sib, take_place}
use Rattle.x86_address.specs.Most.{left_by, TakesAtMost}

-- a step that takes nothing
pub most_none : {A : Type 0} (value : A) → TakesAtMost 0 (λ bytes. Ok (value, bytes))
most_none value = record { within = λ bytes. omega arith }

-- a step that refuses
pub most_refused : {A : Type 0} (error : DecodeError) → TakesAtMost {A = A} 0 (λ bytes. Err (error, bytes))
most_refused error = record { within = λ bytes. omega arith }

-- one step after another
pub most_then : {A B : Type 0} (m n : ℕ) (step : List ℕ → Reading A) (next : A × List ℕ → Reading B)
    → TakesAtMost m step → ((value : A) → TakesAtMost n (λ bytes. next (value, bytes)))
    → TakesAtMost (m + n) (λ bytes. step bytes >>= next)
most_then {A} {B} m n step next one two = record { within = λ bytes. by (length bytes) (step bytes) (one.within bytes) }
  where
    by : (k : ℕ) (reading : Reading A) → k ≤ m + length (left_by reading)
        → k ≤ m + n + length (left_by (reading >>= next))
    by k (Ok read) h = omega (arith, (two read.0).within read.1)
    by k (Err error) h = omega arith

-- one step or another
pub most_if : {A : Type 0} (n : ℕ) (test : Bool) (one other : List ℕ → Reading A) → TakesAtMost n one
    → TakesAtMost n other → TakesAtMost n (λ bytes. if test then one bytes else other bytes)
most_if n true one other p q = p
most_if n false one other p q = q

-- at most more
pub most_wider : {A : Type 0} (m n : ℕ) (step : List ℕ → Reading A) → m ≤ n → TakesAtMost m step → TakesAtMost n step
most_wider m n step within most = record { within = λ bytes. omega (arith, most.within bytes) }

pub most_byte : TakesAtMost 1 take_byte
most_byte = record { within = by }
  where
    by : (bytes : List ℕ) → length bytes ≤ 1 + length (left_by (take_byte bytes))
    by [] = omega arith
    by (byte ∷ bytes) = omega arith

pub most_doubleword : TakesAtMost 4 take_doubleword
most_doubleword =
    most_then 1 3 take_byte _ most_byte (λ a. most_then 1 2 take_byte _ most_byte
    (λ b. most_then 1 1 take_byte _ most_byte (λ c. most_then 1 0 take_byte _ most_byte (λ d. most_none _))))

pub most_displacement : (mode : ℕ) → TakesAtMost 4 (take_displacement mode)
most_displacement mode =
    most_if 4 (mode == 0) _ _ (most_wider 0 4 _ (omega arith) (most_none _))
    (most_if 4 (mode == 1) _ _ (most_wider 1 4 _ (omega arith)
    (most_then 1 0 take_byte _ most_byte (λ n. most_none _)))
    (most_then 4 0 take_doubleword _ most_doubleword (λ n. most_none _)))

pub most_sib : (mode : ℕ) → TakesAtMost 5 (take_sib mode)
most_sib mode =
    most_then 1 4 take_byte _ most_byte (λ sib. most_if 4 (mode == 0 && sib % 8 == 5) (take_baseless sib)
    (take_scaled mode sib) (most_then 4 0 take_doubleword _ most_doubleword (λ n. most_none _))
    (most_then 4 0 (take_displacement mode) _ (most_displacement mode) (λ d. most_none _)))

-- what follows ModRM
pub most_place : (mode rm : ℕ) → TakesAtMost 5 (take_place mode rm)
most_place mode rm =
    most_if 5 (mode == 3) _ _ (most_wider 0 5 _ (omega arith) (most_none _))
    (most_if 5 (rm == 4) _ _ (most_sib mode)
    (most_if 5 (mode == 0 && rm == 5) _ _
    (most_wider 4 5 _ (omega arith) (most_then 4 0 take_doubleword _ most_doubleword (λ n. most_none _)))
    (most_wider 4 5 _ (omega arith) (most_then 4 0 (take_displacement mode) _ (most_displacement mode)
    (λ d. most_none _)))))
