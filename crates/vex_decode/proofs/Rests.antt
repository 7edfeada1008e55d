-- What follows for a caller that has taken the first byte.
use Rattle.std.specs.Prelude.{◌≡◌, refl, ℕ, ◌≤◌, ◌<◌, List, [], ◌∷◌, Some, Result, Ok, Err, IsSome}
use Rattle.std.proofs.Common.{arith, ap, ◌∙◌, subst}
use Rattle.x86_operand.specs.declared.error.DecodeError.{DecodeError}
use Rattle.x86_operand.specs.declared.note.FieldDescription.{FieldDescription}
use Rattle.x86_operand.specs.Meaning.{Decoded}
use Rattle.x86_reader.specs.Reader.{ReaderState}
use Rattle.x86_reader.specs.Sink.{SinkState, Records}
use Rattle.x86_address.specs.Follows.{Follows}
use Rattle.x86_address.specs.Follows.Lemmas.{takes_all, fails_at_end, most_taken}
use Rattle.vex_forms.specs.FormWalk.{failure}
use Rattle.vex_decode.specs.Fields.{PrefixForm, C4, C5}
use Rattle.vex_decode.specs.Walk.{form_of, walk}
use Rattle.vex_decode.specs.Notes.{notes}
use Rattle.vex_decode.specs.Noting.{FollowsNoting}
use Rattle.vex_decode.specs.NotedWalk.{noted_rest, IsMeant}
use Rattle.vex_decode.specs.Decoding.{TakesRest, FailsRest, NotesRest, NotesTaken}
use Rattle.vex_decode.proofs.Decoding.{are_bytes, spelled}
use Rattle.vex_decode.proofs.Fronts.{rest_of, rest_most}
use Rattle.vex_decode.proofs.NotesTaken.{two_byte_rest, three_byte_rest, few_notes, erases_rest, walk_first}
use Rattle.vex_decode.proofs.Recording.{follows_erased, notes_taken}

-- a first byte, and the form of prefix that it begins
pub record Begins (form : PrefixForm) (first : ℕ) : Type 0 where
  pub is : (bytes : List ℕ) → form_of first bytes ≡ Ok (form, bytes)
  pub noted : (bytes : List ℕ) → (noted_rest form bytes).0 ≡ notes (first ∷ bytes)
  pub byte : first < 256

pub two : Begins C5 0xC5
two = record { is = λ bytes. refl; noted = two_byte_rest; byte = omega arith }

pub three : Begins C4 0xC4
three = record { is = λ bytes. refl; noted = three_byte_rest; byte = omega arith }

module _ {form : PrefixForm} {first : ℕ} (begins : Begins form first) {old new : ReaderState}
    {s0 s1 : SinkState FieldDescription} where
  plain : (result : Result Decoded DecodeError) → FollowsNoting (noted_rest form) IsMeant old new s0 s1 result
      → Follows (rest_of form) IsMeant old new result
  plain result f = follows_erased result (erases_rest form) f

  pub rest_length : (bare : Decoded) → old.since_mark ≡ 1
      → FollowsNoting (noted_rest form) IsMeant old new s0 s1 (Ok bare) → new.since_mark ≤ 11
  rest_length bare one f =
      let e = plain (Ok bare) f in
      omega (arith, one, e.passes.since_mark, most_taken 10 (rest_most form) (Ok bare) e)

  pub rest_taken : (bare decoded : Decoded) → decoded.meaning ≡ bare.meaning → decoded.len ≡ new.since_mark
      → old.since_mark ≡ 1 → FollowsNoting (noted_rest form) IsMeant old new s0 s1 (Ok bare)
      → TakesRest first old new decoded
  rest_taken bare decoded same len one f =
      let e = plain (Ok bare) f in
      let walked : walk (first ∷ e.bytes) ≡ Ok (e.answers.0, []) =
      walk_first form first e.bytes (begins.is e.bytes) ∙ takes_all bare e in
      record {
        bytes = e.bytes;
        takes = record { passes = e.passes; uncounted = e.counts };
        most = most_taken 10 (rest_most form) (Ok bare) e;
        spells = spelled (first ∷ e.bytes) e.answers.0 decoded.meaning (begins.byte, are_bytes e.passes) walked
            (same ∙ e.answers.1.meaning);
        len = omega (arith, len, one, e.passes.since_mark);
      }

  pub rest_fails : (error : DecodeError) → FollowsNoting (noted_rest form) IsMeant old new s0 s1 (Err error)
      → FailsRest first old new error
  rest_fails error f =
      let e = plain (Err error) f in
      let walked : walk (first ∷ e.bytes) ≡ Err (error, []) =
      walk_first form first e.bytes (begins.is e.bytes) ∙ fails_at_end error e in
      record {
        bytes = e.bytes;
        passes = e.passes;
        refused = e.counts;
        most = most_taken 10 (rest_most form) (Err error) e;
        fails = ap (failure (first ∷ e.bytes)) walked ∙ ap (λ n. Some (error, n)) (omega arith);
      }

  pub rest_noted : (result : Result Decoded DecodeError) → FollowsNoting (noted_rest form) IsMeant old new s0 s1 result
      → NotesRest first old new s0 s1
  rest_noted result f = record {
    bytes = f.bytes;
    passes = f.passes;
    records = subst (λ notes. Records s0 s1 notes) (notes_taken result f ∙ begins.noted f.bytes) f.records;
    few = few_notes (first ∷ f.bytes);
  }

-- a sink with room for all of them
pub rest_kept : {first : ℕ} {old new : ReaderState} {s0 s1 : SinkState FieldDescription}
    → NotesRest first old new s0 s1 → IsSome s0.told → 11 ≤ s0.room → IsSome s1.told
rest_kept noted told room = (noted.records.kept told (omega (arith, noted.few))).0

pub notes_kept : {old new : ReaderState} {s0 s1 : SinkState FieldDescription} → NotesTaken old new s0 s1
    → IsSome s0.told → 11 ≤ s0.room → IsSome s1.told
notes_kept noted told room = (noted.records.kept told (omega (arith, noted.few))).0
