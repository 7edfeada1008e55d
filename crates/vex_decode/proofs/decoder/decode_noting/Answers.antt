use Rattle.std.proofs.Common.{◌≡◌, true, arith, refl, ap, sym, subst, ◌∙◌}
use Rattle.x86_operand.specs.Meaning.{Decoded}
use Rattle.x86_permit.specs.Permission.{permits}
use Rattle.vex_decode.proofs.Recording.{made_fails}
use Rattle.vex_decode.proofs.Decoding.{decodes, fails_again, refused_again, vex_read, length_fits, noting_from}
use Rattle.vex_decode.proofs.decoder.decode_noting.Goals as goal

pub returns-in_err-read_instruction : goal.returns-in_err-read_instruction
returns-in_err-read_instruction g c = fails_again _ (made_fails _ c.from_residual.result _ c.from_residual.ensures)
    (noting_from c.mark.ensures c.in_err-read_instruction.ensures)

pub overflow_cast-offset : goal.overflow_cast-offset
overflow_cast-offset g c = omega (
  arith,
  length_fits c.read_instruction.new.instruction refl (noting_from c.mark.ensures c.in_ok-read_instruction.ensures),
  c.offset.ensures,
)

pub returns-in_err-revise_instruction : goal.returns-in_err-revise_instruction
returns-in_err-revise_instruction g c =
    refused_again c.read_instruction.new.instruction c.set_len.new.self _
    (made_fails _ c.from_residual-in_err-revise_instruction.result _
    c.from_residual-in_err-revise_instruction.ensures) c.in_err-revise_instruction.ensures.error
    (ap (λ (d : Decoded). d.meaning) c.set_len.ensures) (c.in_err-revise_instruction.ensures.refused.0 refl)
    (noting_from c.mark.ensures c.in_ok-read_instruction.ensures)

pub returns : goal.returns
returns g c =
    let follows = noting_from c.mark.ensures c.in_ok-read_instruction.ensures in
    let bare : Decoded = c.read_instruction.new.instruction in
    let decoded : Decoded = c.revise_instruction.new.inst in
    let stays : decoded ≡ c.set_len.new.self =
    c.revise_instruction.ensures.vex_stays
    (vex_read bare c.set_len.new.self (ap (λ (d : Decoded). d.meaning) c.set_len.ensures) follows) in
    let permitted : permits c.args.settings.now decoded.meaning.evex decoded.meaning.opcode ≡ true =
    subst (λ (d : Decoded). permits c.args.settings.now d.meaning.evex d.meaning.opcode ≡ true) (sym stays)
    (c.in_ok-revise_instruction.ensures.permitted.0 refl) in
    decodes bare decoded (ap (λ (d : Decoded). d.meaning) (stays ∙ c.set_len.ensures))
    (ap (λ (d : Decoded). d.len) (stays ∙ c.set_len.ensures) ∙ c.offset.ensures) refl permitted follows
