-- Two decodes of the same bytes give one answer.
use Rattle.std.specs.Prelude.{◌≡◌, refl, ℕ, Bool, List, ◌++◌, length, take, Some, None, Ok, Err}
use Rattle.std.proofs.Common.{arith, ap, ap₂, sym, ◌∙◌, subst, length-append}
use Rattle.std.proofs.Math.Seq.{take-append_seam}
use Rattle.x86_operand.specs.declared.error.DecodeError.{DecodeError}
use Rattle.x86_operand.specs.Meaning.{Meaning, Decoded}
use Rattle.x86_reader.specs.Reader.{marked, Passes}
use Rattle.x86_reader.specs.SliceReader.{SliceReader, slice_state}
use Rattle.vex_forms.specs.FormWalk.{taken}
use Rattle.vex_decode.specs.Blocked.{blocked}
use Rattle.vex_decode.specs.Decoding.{TakesInstruction, TakesBlocked, BlocksSlice}
use Rattle.vex_decode.specs.Laws.{TakeTheSame, NotesChangeNothing}
use Rattle.vex_decode.proofs.SpellingLaws.{one_beginning}
use Rattle.vex_decode.proofs.Spells.{begun-not_blocked}

some_same : {A : Type 0} {x y : A} → Some x ≡ Some y → x ≡ y
some_same e = cc

-- the first bytes of two byte strings that are one are one where they are as many
same_front : (front front' rest rest' : List ℕ) → front ++ rest ≡ front' ++ rest' → length front ≡ length front'
    → front ≡ front'
same_front front front' rest rest' e n =
    sym (take-append_seam front rest) ∙ ap₂ (λ k bytes. take k bytes) n e ∙ take-append_seam front' rest'

-- instructions of one meaning and one length are one
same_decoded : (a b : Decoded) → a.meaning ≡ b.meaning → a.len ≡ b.len → a ≡ b
same_decoded a b e n = ap₂ (λ (m : Meaning) (k : ℕ). record { meaning = m; len = k }) e n

-- the bytes that were left are those that were taken and those that are left
written : (before after : SliceReader) (bytes : List ℕ)
    → Passes (marked (slice_state before)) (slice_state after) bytes → before.left ≡ bytes ++ after.left
written before after bytes passes = some_same passes.left

module _ (settings : List Bool) (before after before' after' : SliceReader) (is : before.left ≡ before'.left) where
  same_taken : (bytes bytes' : List ℕ) → Passes (marked (slice_state before)) (slice_state after) bytes
      → Passes (marked (slice_state before')) (slice_state after') bytes' → bytes ≡ bytes'
      → TakeTheSame before after before' after'
  same_taken bytes bytes' p q e = record {
    bytes = bytes;
    passes = p;
    other = subst (Passes (marked (slice_state before')) (slice_state after')) (sym e) q;
  }

  both : (bytes bytes' : List ℕ) → Passes (marked (slice_state before)) (slice_state after) bytes
      → Passes (marked (slice_state before')) (slice_state after') bytes' → bytes ++ after.left ≡ bytes' ++ after'.left
  both bytes bytes' p q = sym (written before after bytes p) ∙ is ∙ written before' after' bytes' q

  -- both decode an instruction
  decoded_twice : (d d' : Decoded) → TakesInstruction settings (marked (slice_state before)) (slice_state after) d
      → TakesInstruction settings (marked (slice_state before')) (slice_state after') d'
      → (d ≡ d') × TakeTheSame before after before' after'
  decoded_twice d d' t u =
      let one = one_beginning t.bytes u.bytes after.left after'.left d.meaning d'.meaning t.spells u.spells
      (both t.bytes u.bytes t.takes.passes u.takes.passes) in (
        same_decoded d d' one.meaning (t.len ∙ ap length one.front ∙ sym u.len),
        same_taken t.bytes u.bytes t.takes.passes u.takes.passes one.front,
      )

  -- both are blocked
  blocked_twice : (error error' : DecodeError)
      → TakesBlocked settings (marked (slice_state before)) (slice_state after) error
      → TakesBlocked settings (marked (slice_state before')) (slice_state after') error'
      → BlocksSlice settings (marked (slice_state before)) (slice_state after) error
      → BlocksSlice settings (marked (slice_state before')) (slice_state after') error'
      → (error ≡ error') × TakeTheSame before after before' after'
  blocked_twice error error' t u s s' =
      let one : Some (error, taken before.left after.left) ≡ Some (error', taken before'.left after'.left) =
      sym (s (record before { since_mark = 0 }) after refl refl) ∙ ap (blocked settings) is
      ∙ s' (record before' { since_mark = 0 }) after' refl refl in
      let pair : (error, taken before.left after.left) ≡ (error', taken before'.left after'.left) = some_same one in
      let lengths : length before.left ≡ length (t.bytes ++ after.left) =
      ap length (written before after t.bytes t.passes) in
      let lengths' : length before'.left ≡ length (u.bytes ++ after'.left) =
      ap length (written before' after' u.bytes u.passes) in
      let many : length t.bytes ≡ length u.bytes =
      omega (
        arith,
        ap (λ x. x.1) pair,
        lengths,
        lengths',
        length-append t.bytes after.left,
        length-append u.bytes after'.left,
      ) in (
        ap (λ x. x.0) pair,
        same_taken t.bytes u.bytes t.passes u.passes
            (same_front t.bytes u.bytes after.left after'.left (both t.bytes u.bytes t.passes u.passes) many),
      )

-- one decodes and the other is blocked: never
never : (settings : List Bool) (before after before' after' : SliceReader) (d : Decoded) (error : DecodeError)
    → before.left ≡ before'.left
    → TakesInstruction settings (marked (slice_state before)) (slice_state after) d
    → BlocksSlice settings (marked (slice_state before')) (slice_state after') error → ⊥
never settings before after before' after' d error is t s =
    let free : blocked settings before.left ≡ None =
    ap (blocked settings) (written before after t.bytes t.takes.passes)
    ∙ begun-not_blocked settings t.bytes after.left d.meaning t.spells t.permitted in
    let not_free = s (record before' { since_mark = 0 }) after' refl refl in
    apart (sym free ∙ ap (blocked settings) is ∙ not_free)
  where
    apart : {A : Type 0} {x : A} → None ≡ Some x → ⊥
    apart e = cc

pub notes_change_nothing : NotesChangeNothing
notes_change_nothing settings before after before' after' (Ok x) (Ok y) d d' is a b =
    let t = decoded_twice settings before after before' after' is d d' a.decoded b.decoded in (refl, t.0, t.1)
notes_change_nothing settings before after before' after' (Ok x) (Err y) d d' is a b =
    absurd (never settings before after before' after' d y is a.decoded b.slice)
notes_change_nothing settings before after before' after' (Err x) (Ok y) d d' is a b =
    absurd (never settings before' after' before after d' x (sym is) b.decoded a.slice)
notes_change_nothing settings before after before' after' (Err x) (Err y) d d' is a b =
    let t = blocked_twice settings before after before' after' is x y a.refused b.refused a.slice b.slice in
    (ap Err t.0, a.fresh ∙ sym b.fresh, t.1)
