-- What follows for a caller from following the walk with its notes.
use Rattle.std.specs.Prelude.{◌≡◌, refl, ℕ, ◌≤◌, Bool, true, false, List, [], ◌++◌, length, Some, Result, Ok, Err, IsOk}
use Rattle.std.specs.Prelude.{IsErr, IfOk, IfErr}
use Rattle.std.specs.Result.{IsErrAnd}
use Rattle.std.proofs.Common.{arith, ap, sym, ◌∙◌, subst, append-nil}
use Rattle.std.proofs.lemmas.List.Elements.{recursion_from_All}
use Rattle.x86_opcode.specs.Vex.{is_vex}
use Rattle.x86_operand.specs.declared.error.DecodeError.{DecodeError}
use Rattle.x86_operand.specs.declared.error.DecodeError.TheVariants.{InvalidOpcode}
use Rattle.x86_operand.specs.declared.note.FieldDescription.{FieldDescription}
use Rattle.x86_operand.specs.Meaning.{Meaning, Decoded}
use Rattle.x86_permit.specs.Permission.{permits}
use Rattle.x86_reader.specs.Reader.{ReaderState, IsByte, Passes}
use Rattle.x86_reader.specs.Sink.{SinkState, Records}
use Rattle.x86_address.specs.Bytes.{IsBytes}
use Rattle.x86_address.specs.Follows.{Follows}
use Rattle.x86_address.specs.Follows.Lemmas.{takes_all, fails_at_end, most_taken, over_told, over_slice, completes}
use Rattle.vex_rows.specs.Row.{Row, mark_of, opcode_of}
use Rattle.vex_forms.specs.FormWalk.{taken}
use Rattle.vex_decode.specs.Spelling.{Syntax, meant, Spells}
use Rattle.vex_decode.specs.Walk.{walk}
use Rattle.vex_decode.specs.Blocked.{refused}
use Rattle.vex_decode.specs.Noting.{FollowsNoting}
use Rattle.vex_decode.specs.NotedWalk.{Step, noted_walk, IsMeant}
use Rattle.vex_decode.specs.Decoding.{TakesInstruction, TakesBlocked, CompletesDecode, BlocksSlice, NotesTaken}
use Rattle.vex_decode.specs.Outcome.{Decodes}
use Rattle.vex_decode.proofs.Binds.{ok_same}
use Rattle.vex_decode.proofs.Fronts.{walk_most}
use Rattle.vex_decode.proofs.NotesTaken.{walk_noted, few_notes, erases_walk}
use Rattle.vex_decode.proofs.Permitted.{is_vex-row}
use Rattle.vex_decode.proofs.Recording.{follows_erased, notes_taken}
use Rattle.vex_decode.proofs.SpellingLaws.{reading_is_spelling}
use Rattle.vex_decode.proofs.Spells.{walk-spelling, opcode_meant, permits_meant}

-- bytes that were taken are bytes
pub are_bytes : {old new : ReaderState} {bytes : List ℕ} → Passes old new bytes → IsBytes bytes
are_bytes {bytes = bytes} passes = recursion_from_All IsByte bytes passes.each

-- bytes that a decode takes whole are a spelling
pub spelled : (bytes : List ℕ) (read : Row × Syntax) (m : Meaning) → IsBytes bytes → walk bytes ≡ Ok (read, [])
    → m ≡ meant read.0 read.1 → Spells bytes m
spelled bytes read m is walked means =
    let begins = (reading_is_spelling bytes read.0 read.1 [] is).0 walked in
    record {
      row = read.0;
      is_row = begins.is_row;
      by =
          record { parts = read.1; fits = begins.fits; written = begins.written ∙ append-nil _; means = means };
    }

-- what the settings refuse
refused-not_permitted : (settings : List Bool) (bytes rest : List ℕ) (read : Row × Syntax)
    → permits settings (mark_of read.0) (opcode_of read.0) ≡ false
    → refused settings bytes (Ok (read, rest)) ≡ Some (InvalidOpcode, taken bytes rest)
refused-not_permitted settings bytes rest read not = rw not refl

all_taken : (bytes : List ℕ) → taken bytes [] ≡ length bytes
all_taken bytes = omega arith

module _ {old new : ReaderState} {s0 s1 : SinkState FieldDescription} where
  -- the walk without its notes
  plain : (result : Result Decoded DecodeError) → FollowsNoting noted_walk IsMeant old new s0 s1 result
      → Follows walk IsMeant old new result
  plain result f = follows_erased result erases_walk f

  notes_told : (result : Result Decoded DecodeError) → FollowsNoting noted_walk IsMeant old new s0 s1 result
      → NotesTaken old new s0 s1
  notes_told result f = record {
    bytes = f.bytes;
    passes = f.passes;
    records = subst (λ notes. Records s0 s1 notes) (notes_taken result f ∙ walk_noted f.bytes) f.records;
    few = few_notes f.bytes;
  }

  -- a permitted instruction stays
  pub vex_read : (bare decoded : Decoded) → decoded.meaning ≡ bare.meaning
      → FollowsNoting noted_walk IsMeant old new s0 s1 (Ok bare) → is_vex decoded.meaning.opcode ≡ true
  vex_read bare decoded same f =
      let e = plain (Ok bare) f in
      let read = e.answers.0 in
      let begins = (reading_is_spelling e.bytes read.0 read.1 [] (are_bytes e.passes)).0 (takes_all bare e) in
      let opcode : decoded.meaning.opcode ≡ opcode_of read.0 =
      ap (λ (m : Meaning). m.opcode) (same ∙ e.answers.1.meaning) ∙ opcode_meant read.0 read.1 in
      ap is_vex opcode ∙ is_vex-row read.0 begins.is_row

  pub length_fits : (bare : Decoded) → old.since_mark ≡ 0 → FollowsNoting noted_walk IsMeant old new s0 s1 (Ok bare)
      → new.since_mark ≤ 11
  length_fits bare zero f =
      let e = plain (Ok bare) f in
      omega (arith, zero, e.passes.since_mark, most_taken 11 walk_most (Ok bare) e)

fails_complete : (settings : List Bool) {old new : ReaderState} (error : DecodeError)
    → Follows walk IsMeant old new (Err error) → CompletesDecode {B = Decoded} settings old new (Err error)
fails_complete settings error e front rest m told spells permitted uncounted =
    let reads : IsOk (walk (front ++ rest)) = rw (walk-spelling front rest m spells) refl in
    completes (Err error) e (front ++ rest) told reads uncounted

-- the settings refused
not_complete : (settings : List Bool) {old new : ReaderState} (bare : Decoded)
    → permits settings bare.meaning.evex bare.meaning.opcode ≡ false → Follows walk IsMeant old new (Ok bare)
    → CompletesDecode {B = Decoded} settings old new (Err InvalidOpcode)
not_complete settings bare not e front rest m told spells permitted uncounted =
    let at = over_told (Ok bare) e (front ++ rest) told in
    let same : (at.0, at.1) ≡ ((spells.row, spells.by.parts), rest) =
    ok_same (sym at.3 ∙ walk-spelling front rest m spells) in
    let means : bare.meaning ≡ m = at.2.meaning ∙ ap (λ read. meant read.0.0 read.0.1) same ∙ sym spells.by.means in
    let both : permits settings m.evex m.opcode ≡ false =
    subst (λ (m : Meaning). permits settings m.evex m.opcode ≡ false) means not in
    absurd (apart (sym permitted ∙ both))
  where
    apart : true ≡ false → ⊥
    apart k = cc

module _ {settings : List Bool} {old new : ReaderState} {s0 s1 : SinkState FieldDescription} where
  -- an instruction that was read, and that the settings permit
  took : (bare decoded : Decoded) → decoded.meaning ≡ bare.meaning → decoded.len ≡ new.since_mark → old.since_mark ≡ 0
      → permits settings decoded.meaning.evex decoded.meaning.opcode ≡ true
      → FollowsNoting noted_walk IsMeant old new s0 s1 (Ok bare) → TakesInstruction settings old new decoded
  took bare decoded same len zero permitted f =
      let e = plain (Ok bare) f in
      record {
        bytes = e.bytes;
        takes = record { passes = e.passes; uncounted = e.counts };
        most = most_taken 11 walk_most (Ok bare) e;
        spells = spelled e.bytes e.answers.0 decoded.meaning (are_bytes e.passes) (takes_all bare e)
            (same ∙ e.answers.1.meaning);
        permitted = permitted;
        len = omega (arith, len, zero, e.passes.since_mark);
      }

  pub decodes : (bare decoded : Decoded) → decoded.meaning ≡ bare.meaning → decoded.len ≡ new.since_mark
      → old.since_mark ≡ 0 → permits settings decoded.meaning.evex decoded.meaning.opcode ≡ true
      → FollowsNoting noted_walk IsMeant old new s0 s1 (Ok bare) → Decodes settings old new s0 s1 (Ok decoded)
  decodes bare decoded same len zero permitted f = record {
    took = took bare decoded same len zero permitted f;
    complete = λ front rest m told spells permitted uncounted. refl;
    noted = notes_told (Ok bare) f;
  }

  -- a step before the settings failed
  blocks : (error : DecodeError) → FollowsNoting noted_walk IsMeant old new s0 s1 (Err error)
      → TakesBlocked settings old new error
  blocks error f =
      let e = plain (Err error) f in
      record {
        bytes = e.bytes;
        passes = e.passes;
        refused = e.counts;
        most = most_taken 11 walk_most (Err error) e;
        blocked = ap (refused settings e.bytes) (fails_at_end error e) ∙ ap (λ n. Some (error, n)) (all_taken e.bytes);
      }

  fails_decode : (error : DecodeError) → FollowsNoting noted_walk IsMeant old new s0 s1 (Err error)
      → Decodes settings old new s0 s1 (Err error)
  fails_decode error f =
      let e = plain (Err error) f in
      record {
        took = (
          blocks error f,
          λ before after is_old is_new. ap (refused settings before.left)
              (over_slice (Err error) e before after is_old is_new),
        );
        complete = fails_complete settings error e;
        noted = notes_told (Err error) f;
      }

  pub fails_again : {error : DecodeError} (result : Result Decoded DecodeError)
      → IsErr result × IsErrAnd result (λ e. e ≡ error) → FollowsNoting noted_walk IsMeant old new s0 s1 (Err error)
      → Decodes settings old new s0 s1 result
  fails_again (Err e) is f = subst (λ e. Decodes settings old new s0 s1 (Err e)) (sym is.1) (fails_decode _ f)
  fails_again (Ok value) is f = cc

  settings_refuse : (bare : Decoded) → permits settings bare.meaning.evex bare.meaning.opcode ≡ false
      → FollowsNoting noted_walk IsMeant old new s0 s1 (Ok bare) → Decodes settings old new s0 s1 (Err InvalidOpcode)
  settings_refuse bare not f =
      let e = plain (Ok bare) f in
      let row : Row = e.answers.0.0 in
      let row_not : permits settings (mark_of row) (opcode_of row) ≡ false =
      sym (permits_meant settings row e.answers.0.1 bare.meaning e.answers.1.meaning) ∙ not in
      record {
        took = (
          record {
            bytes = e.bytes;
            passes = e.passes;
            refused = record { counted = λ k. cc; uncounted = λ k. e.counts };
            most = most_taken 11 walk_most (Ok bare) e;
            blocked = ap (refused settings e.bytes) (takes_all bare e)
                ∙ refused-not_permitted settings e.bytes [] e.answers.0 row_not
                ∙ ap (λ n. Some (InvalidOpcode, n)) (all_taken e.bytes);
          },
          λ before after is_old is_new.
              let at = over_slice (Ok bare) e before after is_old is_new in
              ap (refused settings before.left) at.2
              ∙ refused-not_permitted settings before.left after.left at.0
              (sym (permits_meant settings at.0.0 at.0.1 bare.meaning at.1.meaning) ∙ not),
        );
        complete = not_complete settings bare not e;
        noted = notes_told (Ok bare) f;
      }

  pub refused_again : {error : DecodeError} (bare decoded : Decoded) (result : Result Decoded DecodeError)
      → IsErr result × IsErrAnd result (λ e. e ≡ error) → error ≡ InvalidOpcode → decoded.meaning ≡ bare.meaning
      → permits settings decoded.meaning.evex decoded.meaning.opcode ≡ false
      → FollowsNoting noted_walk IsMeant old new s0 s1 (Ok bare) → Decodes settings old new s0 s1 result
  refused_again bare decoded (Err e) is kind same not f =
      subst (λ e. Decodes settings old new s0 s1 (Err e)) (sym (is.1 ∙ kind))
      (settings_refuse bare (subst (λ (m : Meaning). permits settings m.evex m.opcode ≡ false) same not) f)
  refused_again bare decoded (Ok value) is kind same not f = cc

  -- by the answer
  pub if_taken : (result : Result Decoded DecodeError) → Decodes settings old new s0 s1 result
      → IfOk result (TakesInstruction settings old new)
  if_taken (Ok decoded) h = h.took
  if_taken (Err error) h = tt

  pub if_blocked : (result : Result Decoded DecodeError) → Decodes settings old new s0 s1 result
      → IfErr result (TakesBlocked settings old new)
  if_blocked (Ok decoded) h = tt
  if_blocked (Err error) h = h.took.0

  pub if_slice : (result : Result Decoded DecodeError) → Decodes settings old new s0 s1 result
      → IfErr result (BlocksSlice settings old new)
  if_slice (Ok decoded) h = tt
  if_slice (Err error) h = h.took.1

-- a reader that was marked
pub noting_from : {A B : Type 0} {step : Step A} {IsSo : A → B → Type 0} {other old new : ReaderState}
    {s0 s1 : SinkState FieldDescription} {result : Result B DecodeError} → other ≡ old
    → FollowsNoting step IsSo other new s0 s1 result → FollowsNoting step IsSo old new s0 s1 result
noting_from {step = step} {IsSo = IsSo} {new = new} {s0 = s0} {s1 = s1} {result = result} same follows =
    subst (λ s. FollowsNoting step IsSo s new s0 s1 result) same follows
