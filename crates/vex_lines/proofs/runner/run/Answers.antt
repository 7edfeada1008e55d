use Rattle.std.proofs.Common.{sym, ◌∙◌}
use Rattle.vex_lines.proofs.RunClauses.{IfSome-at, IsSomeAnd-at, done_written, made_front, made_written, too_long}
use Rattle.vex_lines.proofs.RunClauses.{too_long_by_number, too_long_exactly, no_memory, after_read_fault}
use Rattle.vex_lines.proofs.RunClauses.{after_write_fault, after_too_long, after_no_memory, done_unless}
use Rattle.vex_lines.proofs.RunClauses.{completes_or_lacks, completes_or_lacks_by_number}
use Rattle.vex_lines.proofs.runner.run.Goals as goal

pub returns-in-None-clause-done_written : goal.returns-in-None-clause-done_written
returns-in-None-clause-done_written g c = λ e.
    IfSome-at _ _ _ (sym c.in-Some.ensures)
    (done_written _ _ _ _ (sym c.count_made.ensures ∙ c.in-None.is) c.answer_input.ensures e)

pub returns-in-None-clause-too_long : goal.returns-in-None-clause-too_long
returns-in-None-clause-too_long g c = too_long _ _ _ _ (sym c.count_made.ensures ∙ c.in-None.is) c.answer_input.ensures

pub returns-in-None-clause-too_long_by_number : goal.returns-in-None-clause-too_long_by_number
returns-in-None-clause-too_long_by_number g c =
    too_long_by_number _ _ _ _ (sym c.count_made.ensures ∙ c.in-None.is) c.answer_input.ensures

pub returns-in-None-clause-too_long_exactly : goal.returns-in-None-clause-too_long_exactly
returns-in-None-clause-too_long_exactly g c =
    too_long_exactly _ _ _ _ (sym c.count_made.ensures ∙ c.in-None.is) c.answer_input.ensures

pub returns-in-None-clause-after_read_fault : goal.returns-in-None-clause-after_read_fault
returns-in-None-clause-after_read_fault g c = λ e.
    IfSome-at _ _ _ (sym c.in-Some.ensures)
    (after_read_fault _ _ _ _ (sym c.count_made.ensures ∙ c.in-None.is) c.answer_input.ensures e)

pub returns-in-None-clause-after_write_fault : goal.returns-in-None-clause-after_write_fault
returns-in-None-clause-after_write_fault g c = λ e.
    IfSome-at _ _ _ (sym c.in-Some.ensures)
    (after_write_fault _ _ _ _ (sym c.count_made.ensures ∙ c.in-None.is) c.answer_input.ensures e)

pub returns-in-None-clause-after_too_long : goal.returns-in-None-clause-after_too_long
returns-in-None-clause-after_too_long g c = λ e.
    IfSome-at _ _ _ (sym c.in-Some.ensures)
    (after_too_long _ _ _ _ (sym c.count_made.ensures ∙ c.in-None.is) c.answer_input.ensures e)

pub returns-in-None-clause-no_memory : goal.returns-in-None-clause-no_memory
returns-in-None-clause-no_memory g c = λ e. IfSome-at _ _ _ (sym c.in-Some.ensures)
    (no_memory _ _ _ _ (sym c.count_made.ensures ∙ c.in-None.is) c.answer_input.ensures e)

pub returns-in-None-clause-after_no_memory : goal.returns-in-None-clause-after_no_memory
returns-in-None-clause-after_no_memory g c = λ e.
    IfSome-at _ _ _ (sym c.in-Some.ensures)
    (after_no_memory _ _ _ _ (sym c.count_made.ensures ∙ c.in-None.is) c.answer_input.ensures e)

pub returns-in-None-clause-completes_or_lacks : goal.returns-in-None-clause-completes_or_lacks
returns-in-None-clause-completes_or_lacks g c =
    λ _ _ source sink within. completes_or_lacks _ _ _ _ (sym c.count_made.ensures ∙ c.in-None.is)
    c.answer_input.ensures source sink within

pub returns-in-None-clause-completes_or_lacks_by_number : goal.returns-in-None-clause-completes_or_lacks_by_number
returns-in-None-clause-completes_or_lacks_by_number g c = λ _ _ source sink within.
    completes_or_lacks_by_number _ _ _ _ (sym c.count_made.ensures ∙ c.in-None.is) c.answer_input.ensures source sink
    within

pub returns-in-None-clause-completes : goal.returns-in-None-clause-completes
returns-in-None-clause-completes g c = λ takes_none _ source sink within.
    done_unless _ _ _ _ (sym c.count_made.ensures ∙ c.in-None.is) c.answer_input.ensures
    (IsSomeAnd-at _ _ _ (sym c.in-Some.ensures) takes_none)
    (completes_or_lacks _ _ _ _ (sym c.count_made.ensures ∙ c.in-None.is) c.answer_input.ensures source sink within)

pub returns-in-None-clause-completes_by_number : goal.returns-in-None-clause-completes_by_number
returns-in-None-clause-completes_by_number g c = λ takes_none _ source sink within.
    done_unless _ _ _ _ (sym c.count_made.ensures ∙ c.in-None.is) c.answer_input.ensures
    (IsSomeAnd-at _ _ _ (sym c.in-Some.ensures) takes_none)
    (completes_or_lacks_by_number _ _ _ _ (sym c.count_made.ensures ∙ c.in-None.is) c.answer_input.ensures source sink
    within)

pub returns-in-Ok-clause-done_written : goal.returns-in-Ok-clause-done_written
returns-in-Ok-clause-done_written g c = λ _.
    IfSome-at _ _ _ (sym c.in-Some.ensures)
    (made_written _ _ _ _ _ (sym c.count_made.ensures ∙ c.in-Some-count_made.is) c.in-Ok.ensures.appends)

pub returns-in-Err-clause-after_write_fault : goal.returns-in-Err-clause-after_write_fault
returns-in-Err-clause-after_write_fault g c = λ _.
    IfSome-at _ _ _ (sym c.in-Some.ensures)
    (made_front _ _ _ _ _ (sym c.count_made.ensures ∙ c.in-Some-count_made.is) c.in-Err.ensures.front)
