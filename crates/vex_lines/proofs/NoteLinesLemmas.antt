-- The notes that a sink keeps are those on the bytes that a decode takes.
use Rattle.std.proofs.Common.{◌≡◌, ℕ, ◌≤◌, Bool, true, false, List, [], ◌++◌, length, take, Some, None, Ok, Err, sym}
use Rattle.std.proofs.Common.{ap, ap₂, ◌∙◌, refl, arith, subst, length-append}
use Rattle.std.specs.Prelude.{IsTrue, IsSome, if◌then◌else◌, OnOk, IfErr, Result}
use Rattle.std.proofs.Math.Seq.{take-append_seam}
use Rattle.std.specs.Io.KnownBytes.{prepend_known}
use Rattle.x86_operand.specs.declared.error.DecodeError.{DecodeError}
use Rattle.x86_operand.specs.declared.note.FieldDescription.{FieldDescription}
use Rattle.x86_operand.specs.Meaning.{Decoded}
use Rattle.x86_address.specs.Bytes.{IsBytes}
use Rattle.x86_reader.specs.Reader.{Passes, marked}
use Rattle.x86_reader.specs.SliceReader.{SliceReader, slice_state}
use Rattle.x86_reader.specs.Sink.{Records, TripleList, list_state}
use Rattle.vex_forms.specs.FormWalk.{taken}
use Rattle.vex_forms.specs.Operands.{made}
use Rattle.vex_decode.specs.Blocked.{blocked}
use Rattle.vex_decode.specs.Decode.{decode}
use Rattle.vex_decode.specs.Notes.{NoteAt, notes}
use Rattle.vex_decode.specs.Decoding.{TakesInstruction, BlocksSlice, AnswersDecode, NotesTaken}
use Rattle.vex_decode.specs.Laws.{DecodeIsSpelling}
use Rattle.vex_lines.specs.NoteLines.{bytes_taken, number_taken}

-- a new list keeps what it was given, where that isn't more than it can keep
pub kept-all : (old new : TripleList FieldDescription) (given : List NoteAt) → old.kept ≡ [] → IsTrue old.whole
    → length given ≤ 11
    → Records (list_state old) (list_state new) given → new.kept ≡ given
kept-all old new given empty whole few records = by old.kept old.whole new.whole empty whole records where
  told : (kept : List NoteAt) (after : Bool) → kept ≡ [] → IsSome (if after then Some new.kept else None)
      → (if after then Some new.kept else None) ≡ Some (kept ++ given) → new.kept ≡ given
  told kept true none some is = let same : new.kept ≡ kept ++ given = cc in same ∙ ap (λ k. k ++ given) none
  told kept false none some is = cc

  by : (kept : List NoteAt) (before after : Bool) → kept ≡ [] → IsTrue before
      → Records (list_state (record { kept = kept; whole = before }))
      (list_state (record { kept = new.kept; whole = after })) given → new.kept ≡ given
  by kept false after none is r = cc
  by kept true after none is r =
      let long : length kept ≡ 0 = ap length none in
      let tells = (r.kept refl (omega (arith, few, long))).0 in
      told kept after none tells (r.appended tells)

-- the bytes that were passed are the front of the slice
front-of : (bytes passed rest : List ℕ) → Some bytes ≡ prepend_known passed (Some rest) → bytes ≡ passed ++ rest
front-of bytes passed rest is = cc

-- what is left tells how many were taken
taken-front : (bytes passed rest : List ℕ) → bytes ≡ passed ++ rest → taken bytes rest ≡ length passed
taken-front bytes passed rest is = let long = ap length is ∙ length-append passed rest in omega (arith, long)

-- those are the bytes that a decode takes, where it takes as many
taken-bytes : (settings : List Bool) (bytes passed rest : List ℕ) → bytes ≡ passed ++ rest
    → number_taken (blocked settings bytes) (decode settings bytes) ≡ taken bytes rest
    → bytes_taken settings bytes ≡ passed
unfolding bytes_taken
taken-bytes settings bytes passed rest split number =
    ap (λ n. take n bytes) (number ∙ taken-front bytes passed rest split) ∙ ap (take (length passed)) split
    ∙ take-append_seam passed rest

-- after a refusal
pub taken-refused : (settings : List Bool) (error : DecodeError) (before after : SliceReader) (passed : List ℕ)
    → Passes (slice_state before) (slice_state after) passed
    → BlocksSlice settings (slice_state before) (slice_state after) error
    → bytes_taken settings before.left ≡ passed
taken-refused settings error before after passed passes blocks =
    taken-bytes settings before.left passed after.left (front-of before.left passed after.left passes.left)
    (ap (λ b. number_taken b (decode settings before.left)) (blocks before after refl refl))

-- after an instruction
pub taken-instruction : (settings : List Bool) (decoded : Decoded) (before after : SliceReader) (passed : List ℕ)
    → DecodeIsSpelling → IsBytes before.left
    → Passes (slice_state before) (slice_state after) passed
    → TakesInstruction settings (slice_state before) (slice_state after) decoded
    → Ok decoded ≡ decode settings before.left
    → bytes_taken settings before.left ≡ passed
taken-instruction settings decoded before after passed law is passes takes answer =
    let bytes = before.left in
    let rest = after.left in
    let none = ((law settings bytes decoded is).0 (sym answer)).not_blocked in
    taken-bytes settings bytes passed rest (front-of bytes passed rest passes.left)
    (ap₂ number_taken none (sym answer) ∙ takes.len
    ∙ sym (taken-front bytes takes.bytes rest (front-of bytes takes.bytes rest takes.takes.passes.left)))

-- the notes that a decode of a slice leaves in a new list
pub noted : (settings : List Bool) (bytes : List ℕ) (result : Result (Unit {0}) DecodeError)
    (before after : SliceReader) (decoded : Decoded) (old new : TripleList FieldDescription)
    → DecodeIsSpelling → IsBytes bytes → before.left ≡ bytes
    → OnOk result (TakesInstruction settings (marked (slice_state before)) (slice_state after) decoded)
    → IfErr result (BlocksSlice settings (marked (slice_state before)) (slice_state after))
    → AnswersDecode settings (marked (slice_state before)) (slice_state after) (made result decoded)
    → NotesTaken (marked (slice_state before)) (slice_state after) (list_state old) (list_state new) → old.kept ≡ []
    → IsTrue old.whole
    → new.kept ≡ notes (bytes_taken settings bytes)
noted settings bytes result before after decoded old new law is left takes blocks answers given empty whole =
    kept-all old new (notes given.bytes) empty whole given.few given.records
    ∙ ap notes (sym (by result takes blocks (answers start after refl refl)) ∙ ap (bytes_taken settings) left) where
      start : SliceReader
      start = record before { since_mark = 0 }

      by : (result : Result (Unit {0}) DecodeError)
          → OnOk result (TakesInstruction settings (slice_state start) (slice_state after) decoded)
          → IfErr result (BlocksSlice settings (slice_state start) (slice_state after))
          → made result decoded ≡ decode settings start.left
          → bytes_taken settings start.left ≡ given.bytes
      by (Ok done) took blocked_by answer = taken-instruction settings decoded start after given.bytes law
          (subst IsBytes (sym left) is) given.passes took answer
      by (Err error) took blocked_by answer = taken-refused settings error start after given.bytes given.passes blocked_by
