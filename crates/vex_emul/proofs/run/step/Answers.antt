use Rattle.std.proofs.Common.{◌≡◌, ap, ◌∙◌, ℕ, None, Some, Ok}
use Rattle.vex_emul.specs.Subset.{work_of}
use Rattle.vex_emul.proofs.Running.{step-decoded, step-unsupported, step-out, step-done, after-room}
use Rattle.vex_emul.proofs.run.step.Goals as goal

pub returns-in-Err-clause-halted : goal.returns-in-Err-clause-halted
returns-in-Err-clause-halted c = step-decoded _ _ _ _ c.in-Err.ensures.answer

pub returns-in_default-clause-halted : goal.returns-in_default-clause-halted
returns-in_default-clause-halted c =
    let none : work_of c.args.machine.now.q c.in-Ok.instruction.meaning ≡ None =
    cc (c.in_default.is, c.work_of.ensures.value) in
    step-unsupported _ _ _ _ (step-decoded _ _ _ _ c.in-Ok.ensures.answer) none

pub returns-then-not-work-clause-halted : goal.returns-then-not-work-clause-halted
returns-then-not-work-clause-halted c =
    let some : work_of c.args.machine.now.q c.in-Ok.instruction.meaning ≡ Some c.in-Some.work =
    cc (c.in-Some.ensures.value) in
    step-out _ _ _ _ (step-decoded _ _ _ _ c.in-Ok.ensures.answer)
    c.in-Some.work some c.if-not-work.ensures.0

pub returns-clause-done : goal.returns-clause-done
returns-clause-done c =
    let some : work_of c.args.machine.now.q c.in-Ok.instruction.meaning ≡ Some c.in-Some.work =
    cc (c.in-Some.ensures.value) in
    let len : c.in-Ok.instruction.len ≡ c.from.result = cc (c.len.ensures, c.from.ensures) in
    step-done _ _ _ _ (step-decoded _ _ _ _ c.in-Ok.ensures.answer)
    c.in-Some.work some c.work.new.self c.if-not-work.ensures
    ∙ ap (λ (n : ℕ). Ok (c.work.new.self, n)) len

pub returns-clause-room : goal.returns-clause-room
returns-clause-room c = after-room _ _ _ c.if-not-work.ensures
