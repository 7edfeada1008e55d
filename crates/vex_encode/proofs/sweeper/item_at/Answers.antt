use Rattle.std.proofs.lemmas.Result.{err_from_is_err_and}
use Rattle.vex_encode.proofs.Recoding.{decoded_of, error_of}
use Rattle.vex_encode.proofs.sweeper.item_at.Goals as goal

pub returns-in_err-instruction-clause-refused : goal.returns-in_err-instruction-clause-refused
returns-in_err-instruction-clause-refused c =
    let p = err_from_is_err_and c.from_residual.result c.from_residual.ensures.1 in
    rw (p.1, p.2) (error_of _ _ c.in_err-instruction.ensures.answer)

pub returns-clause-first : goal.returns-clause-first
returns-clause-first c = decoded_of _ _ _ c.in_ok-instruction.ensures.answer
