use Rattle.std.proofs.Common.{◌+◌, ap, arith, set, subst, sym, ◌∙◌}
use Rattle.std.proofs.lemmas.List.{take_rest}
use Rattle.vex_calls.specs.Errors.{error_number}
use Rattle.vex_c.specs.Runs.{HoldsRun}
use Rattle.vex_c.proofs.Running.{Running, Running-end, Running-step, Running-stop}
use Rattle.vex_c.proofs.runs.vex_decode_all.Goals as goal

pub returns-then-place-bytes : goal.returns-then-place-bytes
returns-then-place-bytes c =
    let so_far = c.loop-count.invariant in
    subst (λ s. HoldsRun s c.args.bytes.now c.args.instructions.now c.loop-count.instructions
    (record { instructions = c.loop-count.count; bytes = c.loop-count.place }) 0) c.settings-decoder.ensures
    (Running-end c.settings-decoder.result c.args.bytes.now c.args.instructions.now c.loop-count.instructions
    c.loop-count.count c.loop-count.place so_far (omega (arith, c.if-place-bytes.true))
    (omega (arith, c.loop-count-test.true, c.loop-count.auto.instructions)))

pub returns-in-Err : goal.returns-in-Err
returns-in-Err c =
    let so_far = c.loop-count.invariant in
    let rest = take_rest c.args.bytes.now c.loop-count.place in
    let number = c.number.ensures.number ∙ ap error_number c.of_decode.ensures in
    subst (λ s. HoldsRun s c.args.bytes.now c.args.instructions.now c.loop-count.instructions
    (record { instructions = c.loop-count.count; bytes = c.loop-count.place }) c.number.result)
    c.settings-decoder.ensures
    (subst (λ n. HoldsRun c.settings-decoder.result c.args.bytes.now c.args.instructions.now c.loop-count.instructions
    (record { instructions = c.loop-count.count; bytes = c.loop-count.place }) n) (sym number)
    (Running-stop c.settings-decoder.result c.args.bytes.now c.args.instructions.now c.loop-count.instructions
    c.loop-count.count c.loop-count.place so_far c.in-Err.error (rw rest at c.in-Err.ensures.blocked)
    (omega (arith, c.if-place-bytes.false, so_far.within))
    (omega (arith, c.loop-count-test.true, c.loop-count.auto.instructions))))

pub loop-count-preserved : goal.loop-count-preserved
loop-count-preserved c =
    let is = c.in-Ok.ensures in
    let rest = take_rest c.args.bytes.now c.loop-count.place in
    let step = Running-step c.settings-decoder.result c.args.bytes.now c.args.instructions.now
    c.loop-count.instructions c.loop-count.count c.loop-count.place c.loop-count.invariant c.in-Ok.instruction
    (rw rest at is.first) is.some (rw rest at is.within)
    (omega (arith, c.loop-count-test.true, c.loop-count.auto.instructions)) in
    subst (λ n. Running c.settings-decoder.result c.args.bytes.now c.args.instructions.now
    (set c.loop-count.instructions c.loop-count.count c.of.result) (c.loop-count.count + 1) (c.loop-count.place + n))
    (sym (c.from-place.ensures ∙ c.len.ensures))
    (subst (λ v. Running c.settings-decoder.result c.args.bytes.now c.args.instructions.now
    (set c.loop-count.instructions c.loop-count.count v) (c.loop-count.count + 1)
    (c.loop-count.place + c.in-Ok.instruction.len)) (sym c.of.ensures) step)
