-- How the first failing step tells what a byte string begins with.
use Rattle.std.specs.Prelude.{◌≡◌, refl, ℕ, Bool, true, false, List, [], ◌++◌, length, take, Option, Some, None, Ok}
use Rattle.std.specs.Prelude.{Err, if◌then◌else◌}
use Rattle.std.proofs.Common.{arith, ap, ap₂, sym, ◌∙◌, subst, append-nil, length-append}
use Rattle.std.proofs.Math.Seq.{take-append_seam}
use Rattle.x86_operand.specs.declared.error.DecodeError.{DecodeError}
use Rattle.x86_operand.specs.declared.error.DecodeError.TheVariants.{InvalidOpcode}
use Rattle.x86_operand.specs.Meaning.{Meaning}
use Rattle.x86_permit.specs.Permission.{permits}
use Rattle.x86_address.specs.Bytes.{IsBytes}
use Rattle.x86_address.specs.Reading.{Reading}
use Rattle.vex_rows.specs.Row.{Row, IsRow, mark_of, opcode_of}
use Rattle.vex_forms.specs.Gives.{gives}
use Rattle.vex_decode.specs.Spelling.{Syntax, IsSyntax, bytes_of, meant, Spells}
use Rattle.vex_decode.specs.Walk.{walk}
use Rattle.vex_forms.specs.FormWalk.{taken}
use Rattle.vex_decode.specs.Blocked.{refused, blocked}
use Rattle.vex_decode.proofs.Walk.{walk-again, walk-written}

-- the parts of a spelling by a row spell what they mean
pub spells-parts : (row : Row) (parts : Syntax) → IsRow row → IsSyntax row parts
    → Spells (bytes_of row parts) (meant row parts)
spells-parts row parts is_row fits = record
    { row = row; is_row = is_row; by = record { parts = parts; fits = fits; written = refl; means = refl } }

-- a meaning has the opcode of its row
pub opcode_meant : (row : Row) (parts : Syntax) → (meant row parts).opcode ≡ opcode_of row
unfolding gives
opcode_meant row parts = refl

-- and its mark
pub mark_meant : (row : Row) (parts : Syntax) → (meant row parts).evex ≡ mark_of row
unfolding gives
mark_meant row parts = refl

-- so that the settings are asked for these
pub permits_meant : (settings : List Bool) (row : Row) (parts : Syntax) (m : Meaning) → m ≡ meant row parts
    → permits settings m.evex m.opcode ≡ permits settings (mark_of row) (opcode_of row)
permits_meant settings row parts m means =
    ap (λ (m : Meaning). permits settings m.evex m.opcode) means
    ∙ ap₂ (permits settings) (mark_meant row parts) (opcode_meant row parts)

-- what a decode answers where a spelling stands first
pub walk-spelling : (bytes rest : List ℕ) (m : Meaning) (spells : Spells bytes m)
    → walk (bytes ++ rest) ≡ Ok ((spells.row, spells.by.parts), rest)
walk-spelling bytes rest m spells =
    ap (λ front. walk (front ++ rest)) spells.by.written
    ∙ walk-again spells.row spells.by.parts rest spells.is_row spells.by.fits

-- a permitted opcode is not refused
pub refused-permitted : (settings : List Bool) (bytes : List ℕ) (row : Row) (parts : Syntax) (rest : List ℕ)
    (step : Reading (Row × Syntax)) → step ≡ Ok ((row, parts), rest)
    → permits settings (mark_of row) (opcode_of row) ≡ true → refused settings bytes step ≡ None
refused-permitted settings bytes row parts rest step e permitted = ap (refused settings bytes) e ∙ rw permitted refl

-- bytes that begin with a spelling of a permitted meaning are not blocked
pub begun-not_blocked : (settings : List Bool) (bytes rest : List ℕ) (m : Meaning) → Spells bytes m
    → permits settings m.evex m.opcode ≡ true → blocked settings (bytes ++ rest) ≡ None
begun-not_blocked settings bytes rest m spells permitted =
    refused-permitted settings (bytes ++ rest) spells.row spells.by.parts rest (walk (bytes ++ rest))
    (walk-spelling bytes rest m spells)
    (sym (permits_meant settings spells.row spells.by.parts m spells.by.means) ∙ permitted)

-- a spelling of a permitted meaning is not blocked
pub spells-not_blocked : (settings : List Bool) (bytes : List ℕ) (m : Meaning) → Spells bytes m
    → permits settings m.evex m.opcode ≡ true → blocked settings bytes ≡ None
spells-not_blocked settings bytes m spells permitted =
    subst (λ b. blocked settings b ≡ None) (append-nil bytes) (begun-not_blocked settings bytes [] m spells permitted)

-- the spelling of a permitted opcode that a byte string begins with, by its row and its parts, and what follows it
pub record Begun (settings : List Bool) (bytes : List ℕ) : Type 0 where
  pub row : Row
  pub parts : Syntax
  pub rest : List ℕ
  pub is_row : IsRow row
  pub fits : IsSyntax row parts
  pub walked : walk bytes ≡ Ok ((row, parts), rest)
  pub written : bytes ≡ bytes_of row parts ++ rest
  pub left : IsBytes rest
  pub permitted : permits settings (mark_of row) (opcode_of row) ≡ true
  pub front : take (taken bytes rest) bytes ≡ bytes_of row parts
  pub spells : Spells (take (taken bytes rest) bytes) (meant row parts)

-- the bytes that were taken, where what is left is known
pub take-taken : (front rest bytes : List ℕ) → bytes ≡ front ++ rest → take (taken bytes rest) bytes ≡ front
take-taken front rest bytes e =
    let count : taken (front ++ rest) rest ≡ length front = omega (arith, length-append front rest) in
    subst (λ b. take (taken b rest) b ≡ front) (sym e)
    (ap (λ n. take n (front ++ rest)) count ∙ take-append_seam front rest)

-- a reading that is not refused has answered a permitted opcode
pub record Admits (settings : List Bool) (step : Reading (Row × Syntax)) : Type 0 where
  pub read : (Row × Syntax) × List ℕ
  pub was : step ≡ Ok read
  pub permitted : permits settings (mark_of read.0.0) (opcode_of read.0.0) ≡ true

admitted : (settings : List Bool) (bytes : List ℕ) (step : Reading (Row × Syntax)) → refused settings bytes step ≡ None
    → Admits settings step
admitted settings bytes (Ok read) e = record
    { read = read; was = refl; permitted = by (permits settings (mark_of read.0.0) (opcode_of read.0.0)) e } where
      by : (b : Bool) → ◌≡◌ {A = Option (DecodeError × ℕ)}
          (if b then None else Some (InvalidOpcode, taken bytes read.1))
          None → b ≡ true
      by true h = refl
      by false h = cc
admitted settings bytes (Err error) e = cc

-- bytes that are not blocked begin with a spelling of a permitted opcode
pub not_blocked-spells : (settings : List Bool) (bytes : List ℕ) → IsBytes bytes → blocked settings bytes ≡ None
    → Begun settings bytes
not_blocked-spells settings bytes is e =
    let admits = admitted settings bytes (walk bytes) e in
    let row = admits.read.0.0 in
    let parts = admits.read.0.1 in
    let rest = admits.read.1 in
    let walked = walk-written bytes is admits.read.0 rest admits.was in
    let front = take-taken (bytes_of row parts) rest bytes walked.written in
    record {
      row = row;
      parts = parts;
      rest = rest;
      is_row = walked.is_row;
      fits = walked.is;
      walked = admits.was;
      written = walked.written;
      left = walked.left;
      permitted = admits.permitted;
      front = front;
      spells = subst (λ b. Spells b (meant row parts)) (sym front) (spells-parts row parts walked.is_row walked.is);
    }
