-- Where bytes are blocked: after how many of them, and by which of them.
use Rattle.std.specs.Prelude.{◌≡◌, ◌≢◌, refl, ℕ, ◌≤◌, ◌==◌, Bool, true, false, List, [], ◌∷◌, ◌++◌, length, take}
use Rattle.std.specs.Prelude.{Option, Some, None, Ok, Err, if◌then◌else◌}
use Rattle.std.proofs.Common.{arith, ap, sym, ◌∙◌, append-nil, length-append}
use Rattle.std.proofs.Math.Seq.{take-append_seam}
use Rattle.std.proofs.lemmas.Bool.{eqb-true, eq-eqb}
use Rattle.x86_operand.specs.declared.error.DecodeError.{DecodeError}
use Rattle.x86_operand.specs.declared.error.DecodeError.TheVariants.{ExhaustedInput, InvalidOpcode, Outside}
use Rattle.x86_permit.specs.Permission.{permits}
use Rattle.x86_address.specs.Bytes.{IsBytes}
use Rattle.x86_address.specs.Reading.{Reading, ◌>>=◌}
use Rattle.x86_address.specs.Most.{left_by}
use Rattle.vex_rows.specs.Row.{Row, mark_of, opcode_of}
use Rattle.vex_forms.specs.FormWalk.{taken, failure}
use Rattle.vex_decode.specs.Spelling.{Syntax, bytes_of, meant}
use Rattle.vex_decode.specs.Walk.{read_fields, walk}
use Rattle.vex_decode.specs.Fields.{PrefixForm, C4, C5}
use Rattle.vex_decode.specs.Blocked.{refused, blocked, fails}
use Rattle.vex_decode.specs.Laws.{FirstBytes, AtMostEleven, SettingsLast, BeginsOutside, OutsideExactly, BeginsRefused}
use Rattle.vex_decode.specs.Laws.{SettingsAlone}
use Rattle.vex_decode.proofs.Fronts.{Any, leaving, Front, FailsBy, walk_on, after_form, walk_fronts}
use Rattle.vex_decode.proofs.Spells.{walk-spelling, permits_meant, spells-parts}
use Rattle.vex_decode.proofs.Walk.{walk-written}

-- any error but that the first byte is another
abbrev Inside : DecodeError → Type 0
Inside e = e ≢ Outside

some_same : {A : Type 0} {x y : A} → Some x ≡ Some y → x ≡ y
some_same e = cc

-- the number is that of the bytes taken
counted : (settings : List Bool) (bytes : List ℕ) (error : DecodeError) (n : ℕ) (reading : Reading (Row × Syntax))
    → refused settings bytes reading ≡ Some (error, n) → n ≡ taken bytes (left_by reading)
counted settings bytes error n (Ok read) e = by (permits settings (mark_of read.0.0) (opcode_of read.0.0)) e where
  by : (b : Bool) → ◌≡◌ {A = Option (DecodeError × ℕ)} (if b then None else Some (InvalidOpcode, taken bytes read.1))
      (Some (error, n)) → n ≡ taken bytes read.1
  by true h = cc
  by false h = sym (ap (λ x. x.1) (some_same h))
counted settings bytes error n (Err failed) e = sym (ap (λ x. x.1) (some_same e))

-- an error after all bytes
same : {error other : DecodeError} (front : List ℕ) → error ≡ other
    → ◌≡◌ {A = Option (DecodeError × ℕ)} (Some (error, taken front [])) (Some (other, length front))
same {error} front is = ap (λ n. Some (error, n)) (omega arith) ∙ ap (λ e. Some (e, length front)) is

-- the same answer over the bytes taken alone
over_front : (settings : List Bool) (bytes front : List ℕ) (error : DecodeError) (n : ℕ)
    (reading : Reading (Row × Syntax)) → refused settings bytes reading ≡ Some (error, n)
    → refused settings front (leaving [] reading) ≡ Some (error, length front)
over_front settings bytes front error n (Ok read) e =
    by (permits settings (mark_of read.0.0) (opcode_of read.0.0)) e where
      by : (b : Bool) → ◌≡◌ {A = Option (DecodeError × ℕ)}
          (if b then None else Some (InvalidOpcode, taken bytes read.1))
          (Some (error, n)) → ◌≡◌ {A = Option (DecodeError × ℕ)}
          (if b then None else Some (InvalidOpcode, taken front []))
          (Some (error, length front))
      by true h = cc
      by false h = same front (ap (λ x. x.0) (some_same h))
over_front settings bytes front error n (Err failed) e = same front (ap (λ x. x.0) (some_same e))

module _ (settings : List Bool) (bytes : List ℕ) (error : DecodeError) (n : ℕ)
    (e : blocked settings bytes ≡ Some (error, n)) where
  f : Front Any 11 walk bytes (walk bytes)
  f = (walk_fronts Any tt tt tt tt).at bytes

  count : n ≡ length f.front
  count =
      let written : length bytes ≡ length (f.front ++ left_by (walk bytes)) = ap length f.written in
      omega (
        arith,
        counted settings bytes error n (walk bytes) e,
        written,
        length-append f.front (left_by (walk bytes)),
      )

  taken_are : take n bytes ≡ f.front
  taken_are = ap (λ k. take k bytes) count ∙ ap (take (length f.front)) f.written
      ∙ take-append_seam f.front (left_by (walk bytes))

  over : walk f.front ≡ leaving [] (walk bytes)
  over = ap walk (sym (append-nil f.front)) ∙ f.again [] (λ h. refl)

  pub alone : blocked settings (take n bytes) ≡ Some (error, n)
  alone =
      ap (blocked settings) taken_are
      ∙ ap (refused settings f.front) over
      ∙ over_front settings bytes f.front error n (walk bytes) e
      ∙ ap (λ k. Some (error, k)) (sym count)

  pub most : (n ≤ length bytes) × (n ≤ 11)
  most = (omega (arith, counted settings bytes error n (walk bytes) e), omega (arith, count, f.most))

pub first_bytes : FirstBytes
first_bytes = alone

pub at_most_eleven : AtMostEleven
at_most_eleven = most

pub settings_last : SettingsLast
settings_last settings bytes error n e = by (walk bytes) e where
  by : (reading : Reading (Row × Syntax)) → failure bytes reading ≡ Some (error, n)
      → refused settings bytes reading ≡ Some (error, n)
  by (Ok read) h = cc
  by (Err failed) h = h

-- ---- the first byte

-- an error that isn't `Outside`
inside : (settings : List Bool) (bytes : List ℕ) (n : ℕ) (reading : Reading (Row × Syntax)) → FailsBy Inside reading
    → refused settings bytes reading ≢ Some (Outside, n)
inside settings bytes n (Ok read) so e = by (permits settings (mark_of read.0.0) (opcode_of read.0.0)) e where
  by : (b : Bool) → ◌≡◌ {A = Option (DecodeError × ℕ)} (if b then None else Some (InvalidOpcode, taken bytes read.1))
      (Some (Outside, n)) → ⊥
  by true h = cc
  by false h = let never : InvalidOpcode ≡ Outside = ap (λ x. x.0) (some_same h) in cc
inside settings bytes n (Err failed) so e = so (ap (λ x. x.0) (some_same e))

outside_only : (settings : List Bool) (bytes : List ℕ) (n : ℕ) → blocked settings bytes ≡ Some (Outside, n)
    → (n ≡ 1) × BeginsOutside bytes
unfolding walk
outside_only settings [] n e = let never : ExhaustedInput ≡ Outside = ap (λ x. x.0) (some_same e) in cc
outside_only settings (first ∷ rest) n e = by (first == 0xC5) (first == 0xC4) refl refl e where
  fronts : (form : PrefixForm) → Front Inside 10
      (λ bytes. (read_fields form bytes >>= (λ fields. Ok ((form, fields.0), fields.1))) >>= walk_on) rest
      ((read_fields form rest >>= (λ fields. Ok ((form, fields.0), fields.1))) >>= walk_on)
  fronts form = (after_form Inside (λ k. cc) (λ k. cc) (λ k. cc) form).at rest

  by : (two three : Bool) → (first == 0xC5) ≡ two → (first == 0xC4) ≡ three
      → refused settings (first ∷ rest) (((if two then Ok (C5, rest) else if three then Ok (C4, rest) else Err
      (Outside, rest)) >>= (λ form. read_fields form.0 form.1 >>= (λ fields. Ok ((form.0, fields.0), fields.1))))
      >>= walk_on) ≡ Some (Outside, n)
      → (n ≡ 1) × BeginsOutside (first ∷ rest)
  by true three is_two is_three h = absurd (inside settings (first ∷ rest) n _ (fronts C5).fails h)
  by false true is_two is_three h = absurd (inside settings (first ∷ rest) n _ (fronts C4).fails h)
  by false false is_two is_three h = (
    omega (arith, ap (λ x. x.1) (some_same h)),
    record {
      first = first;
      rest = rest;
      is = refl;
      not_two = λ k. cc (eq-eqb first 0xC5 k);
      not_three =
          λ k. cc (eq-eqb first 0xC4 k);
    },
  )

pub not_equal : (a b : ℕ) → a ≢ b → (a == b) ≡ false
not_equal a b h = by (a == b) refl where
  by : (t : Bool) → (a == b) ≡ t → (a == b) ≡ false
  by true e = absurd (h (eqb-true a b e))
  by false e = e

outside_there : (settings : List Bool) (bytes : List ℕ) → BeginsOutside bytes
    → blocked settings bytes ≡ Some (Outside, 1)
unfolding walk
outside_there settings bytes at =
    ap (blocked settings) at.is
    ∙ rw (not_equal at.first 0xC5 at.not_two, not_equal at.first 0xC4 at.not_three)
    (ap (λ n. Some (Outside, n)) (omega arith))

pub outside_exactly : OutsideExactly
outside_exactly settings bytes n = (
  outside_only settings bytes n,
  λ at. outside_there settings bytes at.1 ∙ ap (λ k. Some (Outside, k)) (sym at.0),
)

-- ---- the settings

-- where the settings alone refuse
pub record Refuses (settings : List Bool) (bytes : List ℕ) (n : ℕ) (reading : Reading (Row × Syntax)) : Type 0 where
  pub read : (Row × Syntax) × List ℕ
  pub was : reading ≡ Ok read
  pub refused : permits settings (mark_of read.0.0) (opcode_of read.0.0) ≡ false
  pub number : n ≡ taken bytes read.1

refuses : (settings : List Bool) (bytes : List ℕ) (n : ℕ) (reading : Reading (Row × Syntax))
    → failure bytes reading ≡ None → refused settings bytes reading ≡ Some (InvalidOpcode, n)
    → Refuses settings bytes n reading
refuses settings bytes n (Ok read) none e = by (permits settings (mark_of read.0.0) (opcode_of read.0.0)) refl e where
  by : (b : Bool) → permits settings (mark_of read.0.0) (opcode_of read.0.0) ≡ b
      → ◌≡◌ {A = Option (DecodeError × ℕ)} (if b then None else Some (InvalidOpcode, taken bytes read.1))
      (Some (InvalidOpcode, n)) → Refuses settings bytes n (Ok read)
  by true is h = cc
  by false is h = record { read = read; was = refl; refused = is; number = sym (ap (λ x. x.1) (some_same h)) }
refuses settings bytes n (Err failed) none e = cc

begins_refused : (settings : List Bool) (bytes : List ℕ) (n : ℕ) → IsBytes bytes
    → Refuses settings bytes n (walk bytes) → BeginsRefused settings bytes n
begins_refused settings bytes n is at =
    let row = at.read.0.0 in
    let parts = at.read.0.1 in
    let walked = walk-written bytes is at.read.0 at.read.1 at.was in
    let written : length bytes ≡ length (bytes_of row parts ++ at.read.1) = ap length walked.written in
    record {
      front = bytes_of row parts;
      begins = (at.read.1, walked.written);
      whole = omega (arith, at.number, written, length-append (bytes_of row parts) at.read.1);
      m = meant row parts;
      spells = spells-parts row parts walked.is_row walked.is;
      refused = permits_meant settings row parts _ refl ∙ at.refused;
    }

refused_there : (settings : List Bool) (bytes : List ℕ) (n : ℕ) → BeginsRefused settings bytes n
    → (fails bytes ≡ None) × (blocked settings bytes ≡ Some (InvalidOpcode, n))
refused_there settings bytes n at =
    let row = at.spells.row in
    let parts = at.spells.by.parts in
    let rest = at.begins.0 in
    let reads : walk bytes ≡ Ok ((row, parts), rest) =
    ap walk at.begins.1 ∙ walk-spelling at.front rest at.m at.spells in
    let not : permits settings (mark_of row) (opcode_of row) ≡ false =
    sym (permits_meant settings row parts at.m at.spells.by.means) ∙ at.refused in
    let written : length bytes ≡ length (at.front ++ rest) = ap length at.begins.1 in
    let number : taken bytes rest ≡ n = omega (arith, written, length-append at.front rest, at.whole) in
    (ap (failure bytes) reads, ap (refused settings bytes) reads ∙ rw not (ap (λ k. Some (InvalidOpcode, k)) number))

pub settings_alone : SettingsAlone
settings_alone settings bytes n is = (
  λ e. begins_refused settings bytes n is (refuses settings bytes n (walk bytes) e.0 e.1),
  refused_there settings bytes n,
)
