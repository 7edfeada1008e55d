-- What a decode answers, by the spelling that begins the bytes or the error that blocks them.
use Rattle.std.specs.Prelude.{◌≡◌, refl, ℕ, Bool, true, false, List, ◌++◌, length, Option, Some, None, Result, Ok}
use Rattle.std.specs.Prelude.{Err, if◌then◌else◌}
use Rattle.std.proofs.Common.{arith, ap, ap₂, sym, ◌∙◌, subst, length-append}
use Rattle.x86_operand.specs.declared.error.DecodeError.{DecodeError}
use Rattle.x86_operand.specs.declared.error.DecodeError.TheVariants.{InvalidOpcode}
use Rattle.x86_operand.specs.Meaning.{Meaning, Decoded}
use Rattle.x86_permit.specs.Permission.{permits}
use Rattle.x86_address.specs.Reading.{Reading}
use Rattle.vex_rows.specs.Row.{Row, mark_of, opcode_of}
use Rattle.vex_forms.specs.FormWalk.{taken}
use Rattle.vex_decode.specs.Spelling.{Syntax, meant}
use Rattle.vex_decode.specs.Walk.{walk}
use Rattle.vex_decode.specs.Blocked.{refused, blocked}
use Rattle.vex_decode.specs.Decode.{decoded_by, decode}
use Rattle.vex_decode.specs.Laws.{Decodes, DecodeOfSpelling, DecodeIsSpelling, DecodeIsBlocked}
use Rattle.vex_decode.proofs.Binds.{ok_same, err_same}
use Rattle.vex_decode.proofs.Spells.{Begun, walk-spelling, permits_meant, not_blocked-spells}
use Rattle.vex_decode.proofs.SpellingLaws.{same_answer}

some_same : {A : Type 0} {x y : A} → Some x ≡ Some y → x ≡ y
some_same e = cc

-- what was read and is permitted
permitted_read : (settings : List Bool) (bytes rest : List ℕ) (row : Row) (parts : Syntax)
    → permits settings (mark_of row) (opcode_of row) ≡ true
    → decoded_by settings bytes (Ok ((row, parts), rest))
    ≡ Ok (record { meaning = meant row parts; len = taken bytes rest })
permitted_read settings bytes rest row parts permitted = rw permitted refl

-- ---- a spelling

pub decode-spelling : DecodeOfSpelling
unfolding decode
decode-spelling settings front rest m spells permitted =
    let row = spells.row in
    let parts = spells.by.parts in
    let left : taken (front ++ rest) rest ≡ length front = omega (arith, length-append front rest) in
    ap (decoded_by settings (front ++ rest)) (walk-spelling front rest m spells)
    ∙ permitted_read settings (front ++ rest) rest row parts
    (sym (permits_meant settings row parts m spells.by.means) ∙ permitted)
    ∙ ap₂ (λ (m : Meaning) (k : ℕ). Ok (record { meaning = m; len = k })) (sym spells.by.means) left

-- ---- an error

pub decode-blocked : (settings : List Bool) (bytes : List ℕ) (error : DecodeError) (n : ℕ)
    → blocked settings bytes ≡ Some (error, n) → decode settings bytes ≡ Err error
unfolding decode
decode-blocked settings bytes error n = by (walk bytes) where
  by : (reading : Reading (Row × Syntax)) → refused settings bytes reading ≡ Some (error, n)
      → decoded_by settings bytes reading ≡ Err error
  by (Ok read) e = on (permits settings (mark_of read.0.0) (opcode_of read.0.0)) e where
    on : (b : Bool) → ◌≡◌ {A = Option (DecodeError × ℕ)} (if b then None else Some (InvalidOpcode, taken bytes read.1))
        (Some (error, n)) → ◌≡◌ {A = Result Decoded DecodeError}
        (if b then Ok (record { meaning = meant read.0.0 read.0.1; len = taken bytes read.1 }) else Err InvalidOpcode)
        (Err error)
    on true k = cc
    on false k = ap (λ (x : DecodeError × ℕ). Err x.0) (some_same k)
  by (Err failed) e = ap (λ (x : DecodeError × ℕ). Err x.0) (some_same e)

blocked-decode : (settings : List Bool) (bytes : List ℕ) (error : DecodeError) → decode settings bytes ≡ Err error
    → (n : ℕ) × (blocked settings bytes ≡ Some (error, n))
unfolding decode
blocked-decode settings bytes error = by (walk bytes) where
  by : (reading : Reading (Row × Syntax)) → decoded_by settings bytes reading ≡ Err error
      → (n : ℕ) × (refused settings bytes reading ≡ Some (error, n))
  by (Ok read) e = on (permits settings (mark_of read.0.0) (opcode_of read.0.0)) e where
    on : (b : Bool) → ◌≡◌ {A = Result Decoded DecodeError}
        (if b then Ok (record { meaning = meant read.0.0 read.0.1; len = taken bytes read.1 }) else Err InvalidOpcode)
        (Err error)
        → (n : ℕ) × (◌≡◌ {A = Option (DecodeError × ℕ)}
        (if b then None else Some (InvalidOpcode, taken bytes read.1)) (Some (error, n)))
    on true k = cc
    on false k = (taken bytes read.1, ap (λ x. Some (x, taken bytes read.1)) (err_same k))
  by (Err failed) e = (taken bytes failed.1, ap (λ x. Some (x, taken bytes failed.1)) (err_same e))

pub decode_is_blocked : DecodeIsBlocked
decode_is_blocked settings bytes error = (
  blocked-decode settings bytes error,
  λ is. decode-blocked settings bytes error is.0 is.1,
)

-- ---- both ways

-- bytes that are not blocked
pub decode-begun : (settings : List Bool) (bytes : List ℕ) (begun : Begun settings bytes)
    → decode settings bytes
    ≡ Ok (record { meaning = meant begun.row begun.parts; len = taken bytes begun.rest })
unfolding decode
decode-begun settings bytes begun = ap (decoded_by settings bytes) begun.walked
    ∙ permitted_read settings bytes begun.rest begun.row begun.parts begun.permitted

not_blocked : (settings : List Bool) (bytes : List ℕ) (decoded : Decoded) → decode settings bytes ≡ Ok decoded
    → blocked settings bytes ≡ None
not_blocked settings bytes decoded e = by (blocked settings bytes) (λ error n. decode-blocked settings bytes error n)
  where
    by : (o : Option (DecodeError × ℕ))
        → ((error : DecodeError) (n : ℕ) → o ≡ Some (error, n) → decode settings bytes ≡ Err error) → o ≡ None
    by None fails = refl
    by (Some error) fails = cc (e, fails error.0 error.1 refl)

-- what a decode of bytes that aren't blocked answers
begun-decodes : (settings : List Bool) (bytes : List ℕ) → blocked settings bytes ≡ None
    → (begun : Begun settings bytes)
    → Decodes settings bytes (meant begun.row begun.parts) (taken bytes begun.rest)
begun-decodes settings bytes none begun =
    record { not_blocked = none; within = omega arith; spells = begun.spells }

pub decode_is_spelling : DecodeIsSpelling
decode_is_spelling settings bytes decoded is = (there, back) where
  there : decode settings bytes ≡ Ok decoded → Decodes settings bytes decoded.meaning decoded.len
  there e =
      let none = not_blocked settings bytes decoded e in
      let begun = not_blocked-spells settings bytes is none in
      subst (λ (d : Decoded). Decodes settings bytes d.meaning d.len)
      (ok_same (sym (decode-begun settings bytes begun) ∙ e)) (begun-decodes settings bytes none begun)

  back : Decodes settings bytes decoded.meaning decoded.len → decode settings bytes ≡ Ok decoded
  back d =
      let begun = not_blocked-spells settings bytes is d.not_blocked in
      let same = same_answer settings settings bytes _ _ _ _ (begun-decodes settings bytes d.not_blocked begun) d in
      decode-begun settings bytes begun
      ∙ ap₂ (λ (m : Meaning) (k : ℕ). Ok (record { meaning = m; len = k })) same.0 same.1
