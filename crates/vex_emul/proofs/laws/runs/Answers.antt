use Rattle.vex_emul.proofs.Repeating.{run_of_nothing, run_of_step, run_of_halt, run_of_two}
use Rattle.vex_emul.proofs.laws.runs.Goals as goal

pub returns-clause-nothing : goal.returns-clause-nothing
returns-clause-nothing c = run_of_nothing

pub returns-clause-step : goal.returns-clause-step
returns-clause-step c settings state next len code are_bytes is =
    run_of_step c.steps.ensures.spelling c.steps.ensures.error c.prefix_free.ensures.length
    c.blocked_or_begun.ensures.begun settings state next len code are_bytes is

pub returns-clause-halt : goal.returns-clause-halt
returns-clause-halt c = run_of_halt

pub returns-clause-two : goal.returns-clause-two
returns-clause-two c =
    run_of_two c.steps.ensures.spelling c.steps.ensures.error c.prefix_free.ensures.length
    c.blocked_or_begun.ensures.begun
