-- The decode's answer and the canonical bytes.
use Rattle.std.proofs.Common.{sym, ◌∙◌, ap, refl, List, [], Option, Ok, ℕ}
use Rattle.std.specs.Prelude.{unwrap_or}
use Rattle.std.proofs.lemmas.Result.{err_from_is_err_and}
use Rattle.vex_encode.specs.Recode.{with_canonical}
use Rattle.vex_encode.proofs.Recoding.{canonical_there, recodes}
use Rattle.vex_encode.proofs.recoder.recode_all.Goals as goal

pub returns-in_err-instruction-clause-all : goal.returns-in_err-instruction-clause-all
returns-in_err-instruction-clause-all c =
    let p = err_from_is_err_and c.from_residual.result c.from_residual.ensures.1 in
    rw (p.1, p.2) c.in_err-instruction.ensures.refused

pub returns-in_err-instruction-clause-answer : goal.returns-in_err-instruction-clause-answer
returns-in_err-instruction-clause-answer c =
    let p = err_from_is_err_and c.from_residual.result c.from_residual.ensures.1 in
    rw (p.1, p.2) (ap with_canonical c.in_err-instruction.ensures.answer)

pub unreachable-requires : goal.unreachable-requires
unreachable-requires c = canonical_there _ _ c.in_ok-instruction.ensures.spelled
    (sym c.canonical_bytes.ensures ∙ c.in-None.is)

pub returns-clause-all : goal.returns-clause-all
returns-clause-all c =
    let decoded = c.in_ok-instruction.ensures in
    recodes c.recode_again.ensures.not_blocked c.args.decoder.now c.args.bytes.now c.in_ok-instruction.instruction
    c.in-Some.spelling (decoded.begun.0 refl) decoded.within decoded.spelled decoded.permitted
    (sym c.canonical_bytes.ensures ∙ c.in-Some.is)

pub returns-clause-answer : goal.returns-clause-answer
returns-clause-answer c =
    ap (λ (o : Option (List ℕ)). Ok (c.in_ok-instruction.instruction, unwrap_or o []))
    (sym c.in-Some.is ∙ c.canonical_bytes.ensures)
    ∙ ap with_canonical c.in_ok-instruction.ensures.answer
