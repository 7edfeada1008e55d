-- The greatest reg field of a row, field by field, and the totals, spelling by spelling.
use Rattle.std.proofs.lemmas.Nat.{mod_below}
use Rattle.std.proofs.Common.{◌≡◌, ℕ, suc, ◌+◌, ◌-◌, ◌/◌, ◌%◌, ◌<◌, ◌≤◌, Bool, true, false, Option, Some, None, sym, ap}
use Rattle.std.proofs.Common.{subst, ◌∙◌, refl, arith, if◌then◌else◌, List, length, slice_get, sum, Result}
use Rattle.x86_operand.specs.declared.error.DecodeError.{DecodeError}
use Rattle.x86_operand.specs.Meaning.{Decoded}
use Rattle.x86_settings.specs.Bits.{all_bits}
use Rattle.vex_rows.specs.declared.entry.Entry.{Entry}
use Rattle.vex_rows.specs.Table.{table}
use Rattle.vex_encode.specs.Recode.{recoded}
use Rattle.vex_lines.specs.declared.make_line.Totals.{Totals}
use Rattle.vex_lines.specs.Generator.{generated, greatest, has_row, made, one_of, read_of, recoding, short_of}
use Rattle.vex_lines.specs.Generator.{recoding_of, spelling_of, sum_of, total}
use Rattle.vex_lines.specs.Internal.Totals.{IsTotals, line_of}

one-less : (above : ℕ) → above < 8 → 8 - above ≡ suc (7 - above)
one-less above h = omega (arith, h)

-- a row of the greatest field that is left
pub greatest-found : (entry : Entry) (w l memory : Bool) (above : ℕ) → above < 8
    → has_row entry w l memory (7 - above) ≡ true
    → greatest entry w l memory (8 - above) ≡ Some (7 - above)
unfolding greatest
greatest-found entry w l memory above h row =
    ap (greatest entry w l memory) (one-less above h)
    ∙ ap (λ b. if b then Some (7 - above) else greatest entry w l memory (7 - above)) row

-- no row of the greatest field that is left
pub greatest-less : (entry : Entry) (w l memory : Bool) (above : ℕ) → above < 8
    → has_row entry w l memory (7 - above) ≡ false
    → greatest entry w l memory (8 - above) ≡ greatest entry w l memory (7 - above)
unfolding greatest
greatest-less entry w l memory above h none =
    ap (greatest entry w l memory) (one-less above h)
    ∙ ap (λ b. if b then Some (7 - above) else greatest entry w l memory (7 - above)) none

pub is-false : (b : Bool) → (b ≡ true → ⊥) → b ≡ false
is-false true h = absurd (h refl)
is-false false h = refl

-- there is an entry
pub some-entries : length table ≡ 434
unfolding table
some-entries = refl

-- no field is left
pub greatest-none : (entry : Entry) (w l memory : Bool) → greatest entry w l memory 0 ≡ None
unfolding greatest
greatest-none entry w l memory = refl

pub entries-there : (count : ℕ) → count ≡ length table → 0 < count
entries-there count is = let all = is ∙ some-entries in omega (arith, all)

-- the place of an entry in its turn
pub entry-place : (i count : ℕ) → count ≡ length table → i % count < length table
entry-place i count is = subst (λ n. i % count < n) is (mod_below i count (entries-there count is))

-- the generated spelling, by the entry in its turn
pub generated-at : (i count : ℕ) (entry : Entry) → count ≡ length table → slice_get table (i % count) ≡ Some entry
    → spelling_of (Some entry) (i / count) ≡ generated i
unfolding generated
generated-at i count entry is at =
    ap (λ e. spelling_of e (i / count)) (sym at) ∙ ap (λ n. spelling_of (slice_get table (i % n)) (i / n)) is

-- a recoding under all settings
pub recoding-is : (settings : List Bool) → settings ≡ all_bits → (bytes : List ℕ)
    (read : Result (Decoded × List ℕ) DecodeError) → read ≡ recoded settings bytes
    → recoding_of read ≡ recoding bytes
unfolding recoding
recoding-is settings all bytes read is = ap recoding_of (is ∙ ap (λ s. recoded s bytes) all)

-- one spelling more
total-more : (f : Option (ℕ × List ℕ) → ℕ) (i : ℕ) → total f (i + 1) ≡ total f i + f (recoding (generated i))
unfolding total
total-more f i = ap (total f) next where
  next : i + 1 ≡ suc i
  next = omega arith

-- nothing is counted yet
pub totals-none : (t : Totals) → t.recoded ≡ 0 → t.read ≡ 0 → t.short ≡ 0 → t.sum ≡ 0 → IsTotals t 0
unfolding total
totals-none t recoded read short sum_ = record {
  recoded = recoded;
  read = read;
  short = short;
  sum = sum_;
  recoded_most = omega (arith, recoded);
  read_most = omega (arith, read);
  short_most = omega (arith, short);
  sum_most = omega (arith, sum_);
}

-- a spelling more that is recoded
pub totals-more : (old new : Totals) (i n : ℕ) (c : List ℕ) → IsTotals old i → recoding (generated i) ≡ Some (n, c)
    → n ≤ 11 → length c ≤ 11 → sum c ≤ 2805
    → new.recoded ≡ old.recoded + 1 → new.read ≡ old.read + n → new.short ≡ old.short + length c
    → new.sum ≡ old.sum + sum c
    → IsTotals new (i + 1)
totals-more old new i n c t is few short low recoded read short_ sum_ = record {
  recoded = recoded ∙ ap (λ k. k + 1) t.recoded ∙ by one_of 1 refl;
  read = read ∙ ap (λ k. k + n) t.read ∙ by read_of n refl;
  short = short_ ∙ ap (λ k. k + length c) t.short ∙ by short_of (length c) refl;
  sum = sum_ ∙ ap (λ k. k + sum c) t.sum ∙ by sum_of (sum c) refl;
  recoded_most = omega (arith, recoded, t.recoded_most);
  read_most = omega (arith, read, t.read_most, few);
  short_most = omega (arith, short_, t.short_most, short);
  sum_most = omega (arith, sum_, t.sum_most, low);
} where
  by : (f : Option (ℕ × List ℕ) → ℕ) (k : ℕ) → f (Some (n, c)) ≡ k → total f i + k ≡ total f (i + 1)
  by f k e = ap (λ m. total f i + m) (sym e ∙ sym (ap f is)) ∙ sym (total-more f i)

-- a spelling more that is blocked
pub totals-same : (t : Totals) (i : ℕ) → IsTotals t i → recoding (generated i) ≡ None → IsTotals t (i + 1)
totals-same t i at is = record {
  recoded = at.recoded ∙ by one_of refl;
  read = at.read ∙ by read_of refl;
  short = at.short ∙ by short_of refl;
  sum = at.sum ∙ by sum_of refl;
  recoded_most = omega (arith, at.recoded_most);
  read_most = omega (arith, at.read_most);
  short_most = omega (arith, at.short_most);
  sum_most = omega (arith, at.sum_most);
} where
  by : (f : Option (ℕ × List ℕ) → ℕ) → f None ≡ 0 → total f i ≡ total f (i + 1)
  by f e = let none : f (recoding (generated i)) ≡ 0 = ap f is ∙ e in omega (arith, none, total-more f i)

-- the line of the totals
pub line-made : (t : Totals) (n : ℕ) → IsTotals t n → line_of n t ≡ made n
unfolding made
line-made t n is = rw (is.recoded, is.read, is.short, is.sum) refl
