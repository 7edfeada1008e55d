-- A decode over a `U8Reader`.
use Rattle.std.specs.Prelude.{◌≡◌, ◌↔◌, refl, ℕ, ◌≤◌, Bool, true, List, ◌++◌, length, take, Some, None, Result, Ok, Err}
use Rattle.std.specs.Prelude.{IsOk, IfOk, IfErr}
use Rattle.std.proofs.Common.{arith, ap, sym, ◌∙◌, subst, length-append}
use Rattle.std.proofs.Math.Seq.{take-append_seam}
use Rattle.x86_operand.specs.declared.error.DecodeError.{DecodeError}
use Rattle.x86_operand.specs.Meaning.{Decoded}
use Rattle.x86_permit.specs.Permission.{permits}
use Rattle.std.specs.Io.KnownBytes.{prepend_known}
use Rattle.x86_reader.specs.Reader.{ReaderState, marked}
use Rattle.x86_reader.specs.SliceReader.{SliceReader, slice_state}
use Rattle.vex_forms.specs.FormWalk.{taken}
use Rattle.vex_decode.specs.Spelling.{Spells}
use Rattle.vex_decode.specs.Blocked.{blocked}
use Rattle.vex_decode.specs.Decode.{decode}
use Rattle.vex_decode.specs.Decoding.{TakesInstruction, BlocksSlice, AnswersDecode}
use Rattle.vex_decode.proofs.Answering.{decode-spelling, decode-blocked}
use Rattle.vex_decode.proofs.Spells.{begun-not_blocked}

some_same : {xs ys : List ℕ} → Some xs ≡ Some ys → xs ≡ ys
some_same e = cc

-- the answer is that of a decode of the bytes that were left
pub answers_decode : (settings : List Bool) {old new : ReaderState} (result : Result Decoded DecodeError)
    → IfOk result (TakesInstruction settings old new) → IfErr result (BlocksSlice settings old new)
    → AnswersDecode settings old new result
answers_decode settings {old} {new} (Ok decoded) took blocks before after is_old is_new =
    let bytes = took.bytes in
    let split : before.left ≡ bytes ++ after.left =
    some_same (sym (ap (λ (s : ReaderState). s.left) is_old) ∙ took.takes.passes.left
    ∙ ap (λ (s : ReaderState). prepend_known bytes s.left) is_new) in
    sym (ap (decode settings) split
    ∙ decode-spelling settings bytes after.left decoded.meaning took.spells took.permitted
    ∙ ap (λ (n : ℕ). Ok (record { meaning = decoded.meaning; len = n })) (sym took.len))
answers_decode settings (Err error) took blocks before after is_old is_new =
    sym (decode-blocked settings before.left error _ (blocks before after is_old is_new))

-- what a decode of a slice answers
pub record DecodesAs (settings : List Bool) (bytes : List ℕ) (decoded : Decoded) : Type 0 where
  pub begun : blocked settings bytes ≡ None
  pub within : decoded.len ≤ length bytes
  pub most : decoded.len ≤ 11
  pub spelled : Spells (take decoded.len bytes) decoded.meaning
  pub permitted : permits settings decoded.meaning.evex decoded.meaning.opcode ≡ true

abbrev pub DecodesSlice : List Bool → List ℕ → Result Decoded DecodeError → Type 0
DecodesSlice settings bytes (Ok decoded) = DecodesAs settings bytes decoded
DecodesSlice settings bytes (Err error) = (n : ℕ) × (blocked settings bytes ≡ Some (error, n))

module _ (settings : List Bool) (bytes : List ℕ) (before after : SliceReader) (is : before.left ≡ bytes) where
  decoded_as : (decoded : Decoded) → TakesInstruction settings (marked (slice_state before)) (slice_state after)
      decoded → DecodesAs settings bytes decoded
  decoded_as decoded t =
      let written : bytes ≡ t.bytes ++ after.left = sym is ∙ some_same t.takes.passes.left in
      let lengths : length bytes ≡ length (t.bytes ++ after.left) = ap length written in
      let front : take decoded.len bytes ≡ t.bytes =
      ap (λ n. take n bytes) t.len ∙ ap (take (length t.bytes)) written ∙ take-append_seam t.bytes after.left in
      record {
        begun = ap (blocked settings) written
            ∙ begun-not_blocked settings t.bytes after.left decoded.meaning t.spells t.permitted;
        within = omega (arith, lengths, length-append t.bytes after.left, t.len);
        most = omega (arith, t.len, t.most);
        spelled = subst (λ b. Spells b decoded.meaning) (sym front) t.spells;
        permitted = t.permitted;
      }

  pub over_bytes : (result : Result Decoded DecodeError)
      → IfOk result (TakesInstruction settings (marked (slice_state before)) (slice_state after))
      → IfErr result (BlocksSlice settings (marked (slice_state before)) (slice_state after))
      → DecodesSlice settings bytes result
  over_bytes (Ok decoded) took blocks = decoded_as decoded took
  over_bytes (Err error) took blocks = (
    taken before.left after.left,
    ap (blocked settings) (sym is)
        ∙ blocks (record before { since_mark = 0 }) after refl refl,
  )

module _ (settings : List Bool) (bytes : List ℕ) where
  pub slice_begun : (result : Result Decoded DecodeError) → DecodesSlice settings bytes result
      → IsOk result ↔ (blocked settings bytes ≡ None)
  slice_begun (Ok decoded) h = ((λ _. h.begun), (λ _. refl))
  slice_begun (Err error) h = ((λ k. cc), (λ k. cc (h.1)))

  pub slice_ok : (P : Decoded → Type 0) (result : Result Decoded DecodeError) → DecodesSlice settings bytes result
      → ((decoded : Decoded) → DecodesAs settings bytes decoded → P decoded) → IfOk result P
  slice_ok P (Ok decoded) h from = from decoded h
  slice_ok P (Err error) h from = tt

  pub slice_refused : (result : Result Decoded DecodeError) → DecodesSlice settings bytes result
      → IfErr result (λ error. (n : ℕ) × (blocked settings bytes ≡ Some (error, n)))
  slice_refused (Ok decoded) h = tt
  slice_refused (Err error) h = h
