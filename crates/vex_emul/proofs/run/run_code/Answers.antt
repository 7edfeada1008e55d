use Rattle.std.proofs.lemmas.List.{take_rest}
use Rattle.vex_emul.proofs.Running.{Running-step, Running-halt, Running-end}
use Rattle.vex_emul.proofs.run.run_code.Goals as goal

pub returns-in-Err-clause-halted : goal.returns-in-Err-clause-halted
returns-in-Err-clause-halted c =
    rw c.in-Err.ensures.unchanged (rw (take_rest c.args.code.now c.loop-place.place) at c.in-Err.ensures.halted)

pub returns-in-Err-clause-ran : goal.returns-in-Err-clause-ran
returns-in-Err-clause-ran c =
    let refused = rw (take_rest c.args.code.now c.loop-place.place) at c.in-Err.ensures.halted in
    rw c.in-Err.ensures.unchanged
    (Running-halt _ _ _ _ _ _ c.loop-place.invariant c.in-Err.cause c.loop-place-test.true refused)

pub loop-place-preserved : goal.loop-place-preserved
loop-place-preserved c =
    let rest = take_rest c.args.code.now c.loop-place.place in
    let is = c.in-Ok.ensures in
    Running-step _ _ _ _ _ _ c.loop-place.invariant c.step.new.machine c.in-Ok.len (rw rest at is.done) is.some
    (rw rest at is.within) c.step.ensures.room

pub returns-clause-ran : goal.returns-clause-ran
returns-clause-ran c = Running-end _ _ _ _ _ _ c.loop-place.invariant c.loop-place-test.false
