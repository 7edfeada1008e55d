-- What a decode and the canonical bytes say together.
use Rattle.std.specs.Prelude.{◌≡◌, refl, ◌↔◌, ◌≤◌, ℕ, length, Bool, true, List, take, Some, None, Result, Ok, Err, IsOk}
use Rattle.std.specs.Prelude.{IfOk, IfErr}
use Rattle.std.proofs.Common.{ap, sym}
use Rattle.x86_operand.specs.declared.error.DecodeError.{DecodeError}
use Rattle.x86_operand.specs.Meaning.{Meaning, Decoded}
use Rattle.x86_permit.specs.Permission.{permits}
use Rattle.vex_decode.specs.Spelling.{Spells}
use Rattle.vex_decode.specs.Blocked.{blocked}
use Rattle.vex_encode.specs.Canon.{canon}
use Rattle.vex_encode.specs.Laws.{CanonicalNotBlocked}
use Rattle.vex_encode.specs.Recode.{RecodesAs, Recodes, with_canonical}
use Rattle.vex_encode.proofs.Canon.{canon_spells, canon_least}

-- what was decoded, by the answer of a recoding
pub decoded_of : (first : Result Decoded DecodeError) (decoded : Decoded) (spelling : List ℕ)
    → Ok (decoded, spelling) ≡ with_canonical first → first ≡ Ok decoded
decoded_of (Ok other) decoded spelling e = ap (λ (x : Decoded × List ℕ). Ok x.0) (sym (ok_same e))
  where
    ok_same : {x y : Decoded × List ℕ} → ◌≡◌ {A = Result (Decoded × List ℕ) DecodeError} (Ok x) (Ok y) → x ≡ y
    ok_same k = cc
decoded_of (Err error) decoded spelling e = cc

pub error_of : (first : Result Decoded DecodeError) (error : DecodeError) → Err error ≡ with_canonical first
    → first ≡ Err error
error_of (Ok other) error e = cc
error_of (Err other) error e = cc

-- the canonical bytes of a meaning that bytes spell are there
pub canonical_there : (bytes : List ℕ) (m : Meaning) → Spells bytes m → canon m ≡ None → ⊥
canonical_there bytes m spells none = let least = canon_least m bytes spells in cc (least.1)

pub recodes : CanonicalNotBlocked → (settings : List Bool) (bytes : List ℕ) (decoded : Decoded) (spelling : List ℕ)
    → blocked settings bytes ≡ None → decoded.len ≤ length bytes → Spells (take decoded.len bytes) decoded.meaning
    → permits settings decoded.meaning.evex decoded.meaning.opcode ≡ true → canon decoded.meaning ≡ Some spelling
    → RecodesAs settings bytes decoded spelling
recodes not_blocked settings bytes decoded spelling begun within spelled permitted canonical =
    let spells = canon_spells decoded.meaning spelling canonical in
    record {
      begun = begun;
      within = within;
      spelled = spelled;
      permitted = permitted;
      canonical = canonical;
      same = spells;
      accepted = not_blocked settings decoded.meaning spelling permitted canonical;
    }

module _ (settings : List Bool) (bytes : List ℕ) where
  pub recodes_begun : (result : Result (Decoded × List ℕ) DecodeError) → Recodes settings bytes result
      → IsOk result ↔ (blocked settings bytes ≡ None)
  recodes_begun (Ok r) h = ((λ _. h.begun), (λ _. refl))
  recodes_begun (Err e) h = ((λ k. cc), (λ k. cc (h.1)))

  pub recodes_ok : (P : Decoded × List ℕ → Type 0) (result : Result (Decoded × List ℕ) DecodeError)
      → Recodes settings bytes result → ((r : Decoded × List ℕ) → RecodesAs settings bytes r.0 r.1 → P r)
      → IfOk result P
  recodes_ok P (Ok r) h from = from r h
  recodes_ok P (Err e) h from = tt

  pub recodes_err : (result : Result (Decoded × List ℕ) DecodeError) → Recodes settings bytes result
      → IfErr result (λ error. (n : ℕ) × (blocked settings bytes ≡ Some (error, n)))
  recodes_err (Ok r) h = tt
  recodes_err (Err e) h = h
