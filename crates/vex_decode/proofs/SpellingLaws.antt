-- The laws of spellings.
use Rattle.std.specs.Prelude.{◌≡◌, ◌≢◌, refl, ℕ, Bool, true, false, List, [], ◌++◌, length, take, drop, Option, Some}
use Rattle.std.specs.Prelude.{None, Ok, Err, if◌then◌else◌}
use Rattle.std.proofs.Common.{arith, ap, sym, ◌∙◌, subst, append-nil, length-append, length-take}
use Rattle.std.proofs.lemmas.List.{take-append-drop}
use Rattle.x86_operand.specs.declared.error.DecodeError.{DecodeError}
use Rattle.x86_operand.specs.declared.error.DecodeError.TheVariants.{ExhaustedInput, InvalidOpcode}
use Rattle.x86_operand.specs.Meaning.{Meaning}
use Rattle.x86_permit.specs.Permission.{permits}
use Rattle.x86_address.specs.Bytes.{IsBytes}
use Rattle.x86_address.specs.Reading.{Reading}
use Rattle.vex_rows.specs.Row.{Row, mark_of, opcode_of}
use Rattle.vex_decode.specs.Spelling.{Syntax, bytes_of, meant, Spells}
use Rattle.vex_decode.specs.Walk.{walk}
use Rattle.vex_forms.specs.FormWalk.{taken}
use Rattle.vex_decode.specs.Blocked.{refused, blocked}
use Rattle.vex_decode.specs.Laws.{PrefixFree, OneMeaning, ReadingIsSpelling, BeginsPermitted, BlockedOrBegun, MoreBytes}
use Rattle.vex_decode.specs.Laws.{ExhaustedAtEnd, MoreSettings, SameAnswer}
use Rattle.vex_decode.proofs.Binds.{ok_same}
use Rattle.vex_decode.proofs.Spells.{walk-spelling, begun-not_blocked, not_blocked-spells, permits_meant, spells-parts}
use Rattle.vex_decode.proofs.Spells.{refused-permitted}
use Rattle.vex_decode.proofs.Walk.{walk-again, walk-written}
use Rattle.vex_decode.proofs.Readers.{IsReader-walk}
use Rattle.vex_decode.proofs.Permitted.{permits-more}

-- two spellings that begin one byte string are one, and mean one thing
pub record OneBeginning (a b : List ℕ) (m n : Meaning) : Type 0 where
  pub front : a ≡ b
  pub meaning : m ≡ n

pub one_beginning : (a b left right : List ℕ) (m n : Meaning) → Spells a m → Spells b n → a ++ left ≡ b ++ right
    → OneBeginning a b m n
one_beginning a b left right m n p q e =
    let same : ((p.row, p.by.parts), left) ≡ ((q.row, q.by.parts), right) =
    ok_same (sym (walk-spelling a left m p) ∙ ap walk e ∙ walk-spelling b right n q) in
    record {
      front = p.by.written ∙ ap (λ read. bytes_of read.0.0 read.0.1) same ∙ sym q.by.written;
      meaning = p.by.means ∙ ap (λ read. meant read.0.0 read.0.1) same ∙ sym q.by.means;
    }

pub prefix_free : PrefixFree
prefix_free a b m n p q begins = (one_beginning a b begins.0 [] m n p q (sym begins.1 ∙ sym (append-nil b))).front

pub one_meaning : OneMeaning
one_meaning bytes m n p q = (one_beginning bytes bytes [] [] m n p q refl).meaning

pub reading_is_spelling : ReadingIsSpelling
reading_is_spelling bytes row parts rest is = (
  λ e.
      let was = walk-written bytes is (row, parts) rest e in
      record { is_row = was.is_row; fits = was.is; written = was.written },
  λ at. ap walk at.written ∙ walk-again row parts rest at.is_row at.fits,
)

-- bytes are not blocked exactly where they begin with a permitted spelling
begun : (settings : List Bool) (bytes : List ℕ) → IsBytes bytes → blocked settings bytes ≡ None
    → BeginsPermitted settings bytes
begun settings bytes is e =
    let at = not_blocked-spells settings bytes is e in
    record {
      front = bytes_of at.row at.parts;
      begins = (at.rest, at.written);
      m = meant at.row at.parts;
      spells = spells-parts at.row at.parts at.is_row at.fits;
      permitted = permits_meant settings at.row at.parts _ refl ∙ at.permitted;
    }

not_blocked : (settings : List Bool) (bytes : List ℕ) → BeginsPermitted settings bytes → blocked settings bytes ≡ None
not_blocked settings bytes at =
    subst (λ b. blocked settings b ≡ None) (sym at.begins.1)
    (begun-not_blocked settings at.front at.begins.0 at.m at.spells at.permitted)

pub blocked_or_begun : BlockedOrBegun
blocked_or_begun settings bytes is = (begun settings bytes is, not_blocked settings bytes)

-- the number of bytes taken stays where more bytes follow
taken-more : (bytes rest more : List ℕ) → taken (bytes ++ more) (rest ++ more) ≡ taken bytes rest
taken-more bytes rest more = omega (arith, length-append bytes more, length-append rest more)

-- what the settings make of an answer, and of the same answer where more bytes follow
refused-more : (settings : List Bool) (bytes more : List ℕ) (step again : Reading (Row × Syntax))
    → ((read : (Row × Syntax) × List ℕ) → step ≡ Ok read → again ≡ Ok (read.0, read.1 ++ more))
    → ((error : DecodeError × List ℕ) → step ≡ Err error → error.0 ≢ ExhaustedInput
    → again ≡ Err (error.0, error.1 ++ more))
    → ((n : ℕ) → refused settings bytes step ≢ Some (ExhaustedInput, n))
    → refused settings (bytes ++ more) again ≡ refused settings bytes step
refused-more settings bytes more (Ok read) again ok err other =
    ap (refused settings (bytes ++ more)) (ok read refl)
    ∙ ap (λ n. if permits settings (mark_of read.0.0) (opcode_of read.0.0) then None else Some (InvalidOpcode, n))
    (taken-more bytes read.1 more)
refused-more settings bytes more (Err error) again ok err other =
    ap (refused settings (bytes ++ more)) (err error refl
    (λ e. other (taken bytes error.1) (ap (λ x. Some (x, taken bytes error.1)) e)))
    ∙ ap (λ n. Some (error.0, n)) (taken-more bytes error.1 more)

pub more_bytes : MoreBytes
more_bytes settings bytes more other =
    refused-more settings bytes more (walk bytes) (walk (bytes ++ more)) (IsReader-walk.more bytes more)
    (IsReader-walk.fails_more bytes more) other

some_same : {A : Type 0} {x y : A} → Some x ≡ Some y → x ≡ y
some_same e = cc

-- exhausted input comes at the end
refused-exhausted : (settings : List Bool) (bytes : List ℕ) (n : ℕ) (step : Reading (Row × Syntax))
    → ((error : DecodeError × List ℕ) → step ≡ Err error → error.0 ≡ ExhaustedInput → error.1 ≡ [])
    → refused settings bytes step ≡ Some (ExhaustedInput, n) → n ≡ length bytes
refused-exhausted settings bytes n (Ok read) all e =
    by (permits settings (mark_of read.0.0) (opcode_of read.0.0)) e where
      by : (b : Bool) → ◌≡◌ {A = Option (DecodeError × ℕ)}
          (if b then None else Some (InvalidOpcode, taken bytes read.1))
          (Some (ExhaustedInput, n)) → n ≡ length bytes
      by true h = cc
      by false h = let never : InvalidOpcode ≡ ExhaustedInput = ap (λ x. x.0) (some_same h) in cc
refused-exhausted settings bytes n (Err error) all e =
    let same : (error.0, taken bytes error.1) ≡ (ExhaustedInput, n) = some_same e in
    let left : error.1 ≡ [] = all error refl (ap (λ x. x.0) same) in
    let none : length error.1 ≡ 0 = ap length left in
    omega (arith, ap (λ x. x.1) same, none)

pub exhausted_at_end : ExhaustedAtEnd
exhausted_at_end settings bytes n e = refused-exhausted settings bytes n (walk bytes) (IsReader-walk.fails bytes) e

-- further settings refuse no more
pub more_settings : MoreSettings
more_settings settings more within bytes is e =
    let at = not_blocked-spells settings bytes is e in
    refused-permitted more bytes at.row at.parts at.rest (walk bytes) at.walked
    (permits-more settings more within at.row at.is_row at.permitted)

-- the answer is that of the only spelling that begins the bytes
pub same_answer : SameAnswer
same_answer settings other bytes m m' n n' p q =
    let one = one_beginning (take n bytes) (take n' bytes) (drop n bytes) (drop n' bytes) m m' p.spells q.spells
    (take-append-drop n bytes ∙ sym (take-append-drop n' bytes)) in
    let lengths : length (take n bytes) ≡ length (take n' bytes) = ap length one.front in
    (one.meaning, omega (arith, length-take n bytes, length-take n' bytes, lengths, p.within, q.within))
