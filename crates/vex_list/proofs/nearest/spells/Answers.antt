-- The bytes are all taken and mean it exactly where they spell it.
use Rattle.std.proofs.Common.{◌≡◌, true, false, sym, ap, ◌∙◌, eqb-true, Result, Ok, Err}
use Rattle.x86_operand.specs.declared.error.DecodeError.{DecodeError}
use Rattle.x86_operand.specs.Meaning.{Decoded}
use Rattle.vex_list.proofs.Whole.{whole, its_answer, its_instruction}
use Rattle.vex_list.proofs.nearest.spells.Goals as goal

pub returns-then-from-bytes : goal.returns-then-from-bytes
returns-then-from-bytes c = (
  λ h. whole c.args.bytes.now c.args.instruction.now.meaning c.in-Ok.decoded.len c.in-Ok.decoded.meaning
      c.in-Ok.ensures.spelled
      (sym c.len.ensures ∙ sym c.from.ensures ∙ c.if-from-bytes.true) (c.has_same_meaning.ensures.0 h),
  λ s. c.has_same_meaning.ensures.1 (ap (λ (d : Decoded). d.meaning) (its_instruction c.decode_answers.ensures.first
      c.all_settings_permit_all.ensures c.default.result c.default.ensures c.args.bytes.now _ c.in-Ok.decoded
      c.in-Ok.ensures.answer s)),
)

pub returns-else-from-bytes : goal.returns-else-from-bytes
returns-else-from-bytes c = (
  λ h. absurd (c.if-from-bytes.false (eqb-true _ _ h)),
  λ s. absurd (c.if-from-bytes.false (c.from.ensures ∙ c.len.ensures
      ∙ ap (λ (d : Decoded). d.len) (its_instruction c.decode_answers.ensures.first
      c.all_settings_permit_all.ensures c.default.result c.default.ensures c.args.bytes.now _ c.in-Ok.decoded
      c.in-Ok.ensures.answer s))),
)

false_true : {P : Type 0} → false ≡ true → P
false_true h = cc

err_ok : {P : Type 0} {error : DecodeError} {d : Decoded} → ◌≡◌ {A = Result Decoded DecodeError} (Err error) (Ok d) → P
err_ok e = cc

pub returns-in-Err : goal.returns-in-Err
returns-in-Err c = (
  λ h. false_true h,
  λ s. err_ok (its_answer c.decode_answers.ensures.first c.all_settings_permit_all.ensures c.default.result
      c.default.ensures c.args.bytes.now c.args.instruction.now.meaning (Err c.in-Err.field-0) c.in-Err.ensures.answer
      s),
)
