-- What a call that follows the walk of a form says to its caller.
use Rattle.std.specs.Prelude.{◌≡◌, ◌≢◌, refl, ◌⊎◌, ℕ, ◌/◌, ◌%◌, Bool, true, false, ◌||◌, ◌==◌, List, [], ◌∷◌, ◌++◌}
use Rattle.std.specs.Prelude.{Some, Result, Ok, Err, IfOk, IfErr, if◌then◌else◌}
use Rattle.std.specs.List.{list_all, list_any}
use Rattle.std.proofs.Common.{ap, sym, ◌∙◌, inl, inr, subst, arith, append-nil}
use Rattle.std.proofs.lemmas.Bool.{eqb-true}
use Rattle.std.proofs.lemmas.List.Elements.{recursion_from_All}
use Rattle.x86_operand.specs.declared.error.DecodeError.{DecodeError}
use Rattle.x86_operand.specs.declared.error.DecodeError.TheVariants.{Outside}
use Rattle.x86_operand.specs.Kind.{Kind, WithoutModRM}
use Rattle.x86_operand.specs.Meaning.{Decoded}
use Rattle.x86_reader.specs.Reader.{ReaderState, IsByte}
use Rattle.x86_address.specs.Bytes.{IsBytes}
use Rattle.x86_address.specs.Place.{place_bytes}
use Rattle.x86_address.specs.Laws.{ReadingIsSpelling, ReadingFails}
use Rattle.x86_address.specs.Reading.{Reading, ◌>>=◌, take_byte, take_place}
use Rattle.x86_address.specs.Follows.{Follows}
use Rattle.x86_address.specs.Follows.Lemmas.{takes_all, fails_at_end, most_taken}
use Rattle.vex_rows.specs.declared.entry.Entry.{Entry}
use Rattle.vex_rows.specs.declared.key.Prefix.{Prefix}
use Rattle.vex_rows.specs.declared.steps.Check.{Check}
use Rattle.vex_rows.specs.declared.steps.Check.TheVariants.{V0, L0, Reg, Mem, Group, VifMem}
use Rattle.vex_rows.specs.Steps.{FormSteps, steps}
use Rattle.vex_rows.specs.Table.{table}
use Rattle.vex_rows.specs.Row.{Among, IsRow, exists, has_imm, is_memory}
use Rattle.vex_rows.specs.WellFormed.{is_prefix_check, is_late_check}
use Rattle.vex_rows.specs.Row.Lists.{both-parts}
use Rattle.vex_forms.specs.declared.slot.VvvvRule.{VvvvRule}
use Rattle.vex_forms.specs.declared.slot.VvvvRule.TheVariants.{Named, Zero, Free}
use Rattle.vex_forms.specs.Slots.{demands_v, v_rule}
use Rattle.vex_forms.specs.Fields.{Fields, fields_of}
use Rattle.vex_forms.specs.FormWalk.{Operands, passes, refusal, check_all, kind_by, take_imm, place_by, walk_modrm}
use Rattle.vex_forms.specs.FormWalk.{walk_form, row_of}
use Rattle.vex_forms.specs.FormWalk.Lemmas.{Passed, ordered, walk_form-passed, chosen_exists, most_form}
use Rattle.vex_forms.specs.FormWalk.Lemmas.{walk_form-written}
use Rattle.vex_forms.specs.Written.{FitsRule, WritesForm}
use Rattle.vex_forms.specs.Reads.{HasPrefix, IsInstruction, TakesForm, FailsForm}
use Rattle.vex_forms.proofs.Choosing.{choice-is_row}
use Rattle.vex_forms.proofs.Instructing.{row_again, may_again}
use Rattle.vex_forms.specs.Slots.Lemmas.{demanded, v_rule-zero}

-- ---- after an error

module _ {B : Type 0} (entry : Entry) (f : Fields) {IsSo : Operands → B → Type 0} {old new : ReaderState} where
  fails_form : (error : DecodeError) → Follows (walk_form entry f) IsSo old new (Err error)
      → FailsForm entry f old new error
  fails_form error follows = record {
    bytes = follows.bytes;
    passes = follows.passes;
    refused = follows.counts;
    most = most_taken 7 (most_form entry f) (Err error) follows;
    fails = rw (fails_at_end error follows) (ap (λ n. Some (error, n)) (omega arith));
  }

  pub if_fails_form : (result : Result B DecodeError) → Follows (walk_form entry f) IsSo old new result
      → IfErr result (FailsForm entry f old new)
  if_fails_form (Ok answer) follows = tt
  if_fails_form (Err error) follows = fails_form error follows

-- an error of the step isn't that the bytes are outside
abbrev Inside : {A : Type 0} → (List ℕ → Reading A) → Type 0
Inside {A} step = (bytes : List ℕ) (error : DecodeError × List ℕ) → step bytes ≡ Err error → error.0 ≢ Outside

inside_ok : {A : Type 0} (value : A) → Inside (λ bytes. Ok (value, bytes))
inside_ok value bytes error e = cc

same_error : {A : Type 0} {x y : DecodeError × List ℕ} → ◌≡◌ {A = Reading A} (Err x) (Err y) → x ≡ y
same_error e = cc

inside_then : {A B : Type 0} (step : List ℕ → Reading A) (next : A × List ℕ → Reading B) → Inside step
    → ((value : A) → Inside (λ bytes. next (value, bytes))) → Inside (λ bytes. step bytes >>= next)
inside_then {A} step next one two bytes error = by (step bytes) (one bytes) where
  by : (reading : Reading A) → ((error : DecodeError × List ℕ) → reading ≡ Err error → error.0 ≢ Outside)
      → (reading >>= next) ≡ Err error → error.0 ≢ Outside
  by (Ok read) first e = two read.0 read.1 error e
  by (Err other) first e = first error (ap Err (same_error e))

inside_if : {A : Type 0} (test : Bool) (one other : List ℕ → Reading A) → Inside one → Inside other
    → Inside (λ bytes. if test then one bytes else other bytes)
inside_if true one other p q = p
inside_if false one other p q = q

inside_byte : Inside take_byte
inside_byte [] error e = subst (λ error. error.0 ≢ Outside) (same_error e) (λ o. cc)
inside_byte (byte ∷ bytes) error e = cc

inside_place : ReadingFails → (mode rm : ℕ) → Inside (take_place mode rm)
inside_place fails mode rm bytes error e =
    subst (λ error. error.0 ≢ Outside) (sym (fails mode rm bytes error e)) (λ o. cc)

refusal_inside : (c : Check) → refusal c ≢ Outside
refusal_inside V0 e = cc
refusal_inside L0 e = cc
refusal_inside Reg e = cc
refusal_inside Mem e = cc
refusal_inside Group e = cc
refusal_inside VifMem e = cc

inside_checks : (entry : Entry) (f : Fields) (kind : Kind) (reg : ℕ) (checks : List Check)
    → Inside (check_all entry f kind reg checks)
inside_checks entry f kind reg [] = inside_ok _
inside_checks entry f kind reg (c ∷ checks) =
    inside_if (passes entry f kind reg c) _ _ (inside_checks entry f kind reg checks)
    (λ bytes error e. subst (λ error. error.0 ≢ Outside) (same_error e) (refusal_inside c))

inside_imm : (has : Bool) → Inside (take_imm has)
inside_imm has = inside_if has _ _ inside_byte (inside_ok _)

inside_modrm : ReadingFails → (entry : Entry) (f : Fields) (form : FormSteps) → Inside (walk_modrm entry f form)
inside_modrm fails entry f form =
    inside_then take_byte _ inside_byte (λ modrm.
    inside_then (check_all entry f (kind_by entry modrm) ((modrm / 8) % 8) form.after_modrm) _
    (inside_checks entry f _ _ form.after_modrm) (λ second.
    inside_then (place_by form.address (modrm / 64) (modrm % 8)) _
    (inside_if form.address _ _ (inside_place fails (modrm / 64) (modrm % 8)) (inside_ok _)) (λ place.
    inside_then (check_all entry f (kind_by entry modrm) ((modrm / 8) % 8) form.after_address) _
    (inside_checks entry f _ _ form.after_address) (λ third.
    inside_then (take_imm form.imm) _ (inside_imm form.imm) (λ imm. inside_ok _)))))

inside_form : ReadingFails → (entry : Entry) (f : Fields) → Inside (walk_form entry f)
unfolding walk_form
inside_form fails entry f =
    inside_then (check_all entry f WithoutModRM 0 (steps entry.form).before_modrm) _
    (inside_checks entry f WithoutModRM 0 (steps entry.form).before_modrm) (λ first.
    inside_if (steps entry.form).modrm _ _ (inside_modrm fails entry f (steps entry.form))
    (inside_then (take_imm (steps entry.form).imm) _ (inside_imm (steps entry.form).imm) (λ imm. inside_ok _)))

pub if_inside : ReadingFails → {B : Type 0} (entry : Entry) (f : Fields) {IsSo : Operands → B → Type 0}
    {old new : ReaderState} (result : Result B DecodeError) → Follows (walk_form entry f) IsSo old new result
    → IfErr result (λ error. error ≢ Outside)
if_inside fails entry f (Ok answer) follows = tt
if_inside fails entry f (Err error) follows =
    inside_form fails entry f follows.bytes (error, []) (fails_at_end error follows)

-- ---- after an answer

-- a check that demands that vvvv is 0, and has passed
v_before : (entry : Entry) (f : Fields) (kind : Kind) (checks : List Check) → list_all is_prefix_check checks ≡ true
    → list_any (demands_v kind) checks ≡ true → list_all (passes entry f WithoutModRM 0) checks ≡ true → f.v ≡ 0
v_before entry f kind [] ok any all = cc
v_before entry f kind (V0 ∷ checks) ok any all = eqb-true _ _ (both-parts (f.v == 0) _ all).0
v_before entry f kind (L0 ∷ checks) ok any all =
    v_before entry f kind checks (both-parts (is_prefix_check L0) _ ok).1 any
    (both-parts (passes entry f WithoutModRM 0 L0) _ all).1
v_before entry f kind (_ ∷ checks) ok any all = cc

v_after : (entry : Entry) (f : Fields) (kind : Kind) (reg : ℕ) (checks : List Check)
    → list_all is_late_check checks ≡ true → list_any (demands_v kind) checks ≡ true
    → list_all (passes entry f kind reg) checks ≡ true → f.v ≡ 0
v_after entry f kind reg [] ok any all = cc
v_after entry f kind reg (Reg ∷ checks) ok any all =
    v_after entry f kind reg checks (both-parts (is_late_check Reg) _ ok).1 any
    (both-parts (passes entry f kind reg Reg) _ all).1
v_after entry f kind reg (VifMem ∷ checks) ok any all =
    by (is_memory kind) any (both-parts (if is_memory kind then f.v == 0 else true)
    (list_all (passes entry f kind reg) checks) all)
    (λ later. v_after entry f kind reg checks (both-parts (is_late_check VifMem) _ ok).1 later)
  where
    by : (b : Bool) → (b || list_any (demands_v kind) checks) ≡ true
        → ((if b then f.v == 0 else true) ≡ true) × (list_all (passes entry f kind reg) checks ≡ true)
        → (list_any (demands_v kind) checks ≡ true → list_all (passes entry f kind reg) checks ≡ true → f.v ≡ 0)
        → f.v ≡ 0
    by true h k next = eqb-true _ _ k.0
    by false h k next = next h k.1
v_after entry f kind reg (_ ∷ checks) ok any all = cc

either_true : (a b : Bool) → (a || b) ≡ true → (a ≡ true) ⊎ (b ≡ true)
either_true true b h = inl refl
either_true false b h = inr h

fits_rule : (rule : VvvvRule) (v : ℕ) → (rule ≡ Zero → v ≡ 0) → FitsRule rule v
fits_rule Named v h = tt
fits_rule Zero v h = h refl
fits_rule Free v h = tt

module _ (place_read : ReadingIsSpelling) (entry : Entry) (prefix : Prefix) (listed : Among entry table)
    (has : HasPrefix entry (fields_of prefix)) where
  module _ (operands : Operands) (passed : Passed entry (fields_of prefix) operands) where
    v_demanded : demanded (row_of entry (fields_of prefix) operands) ≡ true → prefix.vvvv ≡ 0
    v_demanded h = elim (either_true (list_any (demands_v operands.kind) (steps entry.form).before_modrm)
        (list_any (demands_v operands.kind) (steps entry.form).after_address) h) [
          | inl k ↦ v_before entry (fields_of prefix) operands.kind (steps entry.form).before_modrm
              (ordered entry).before_modrm k passed.before_modrm
          | inr k ↦ v_after entry (fields_of prefix) operands.kind operands.reg (steps entry.form).after_address
              (ordered entry).after_address k passed.after_address
        ]

    row_is_row : IsRow (row_of entry (fields_of prefix) operands)
    row_is_row =
        let is = row_again entry prefix operands passed.kind in
        let there = ap exists is ∙ chosen_exists entry (fields_of prefix) operands passed has.w has.l in
        subst IsRow is (choice-is_row entry prefix.w prefix.l (is_memory operands.kind) operands.reg listed
        (may_again entry operands passed.kind) there)

  writes_form : (bytes : List ℕ) (operands : Operands) → IsBytes bytes
      → walk_form entry (fields_of prefix) bytes ≡ Ok (operands, [])
      → WritesForm entry (fields_of prefix) operands bytes
  unfolding has_imm
  writes_form bytes operands is e =
      let passed = walk_form-passed entry (fields_of prefix) bytes (operands, []) e in
      let writes = walk_form-written place_read entry (fields_of prefix) bytes (operands, []) is e in
      record {
        is_row = row_is_row operands passed;
        reg = writes.reg;
        place = writes.place;
        kind = passed.place;
        v = fits_rule (v_rule (row_of entry (fields_of prefix) operands)) prefix.vvvv
            (λ zero. v_demanded operands passed (v_rule-zero (row_of entry (fields_of prefix) operands) zero).1);
        imm = writes.imm;
        written = writes.written ∙ ap (λ last. place_bytes operands.reg operands.place ++ last) (append-nil _);
      }

  takes_form : {old new : ReaderState} (instruction : Decoded)
      → Follows (walk_form entry (fields_of prefix)) (IsInstruction entry (fields_of prefix)) old new (Ok instruction)
      → TakesForm entry (fields_of prefix) old new instruction
  takes_form instruction follows =
      let whole = takes_all instruction follows in
      record {
        bytes = follows.bytes;
        takes = record { passes = follows.passes; uncounted = follows.counts };
        most = most_taken 7 (most_form entry (fields_of prefix)) (Ok instruction) follows;
        none_fails = rw whole refl;
        operands = follows.answers.0;
        writes = writes_form follows.bytes follows.answers.0
            (recursion_from_All IsByte follows.bytes follows.passes.each) whole;
        is = follows.answers.1;
      }

  pub if_takes_form : {old new : ReaderState} (result : Result Decoded DecodeError)
      → Follows (walk_form entry (fields_of prefix)) (IsInstruction entry (fields_of prefix)) old new result
      → IfOk result (TakesForm entry (fields_of prefix) old new)
  if_takes_form (Ok instruction) follows = takes_form instruction follows
  if_takes_form (Err error) follows = tt
