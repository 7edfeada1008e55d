use Rattle.std.proofs.Common.{◌≡◌, ◌+◌, ap, arith, subst, sym, ◌∙◌}
use Rattle.std.proofs.lemmas.List.{take_rest}
use Rattle.x86_settings.specs.Bits.{is_set}
use Rattle.x86_settings.specs.Sets.{exactly}
use Rattle.x86_permit.specs.LeastSettings.{least}
use Rattle.vex_encode.specs.Sweep.Lemmas.{are_bytes}
use Rattle.vex_check.specs.Accepted.{EndsWhereCovered, StopsAtLeastLack}
use Rattle.vex_check.specs.Needs.{all_needed, run}
use Rattle.vex_check.specs.FirstPlaces.{noted}
use Rattle.vex_check.proofs.Checking.{Checking, checking-count, checking-fault, checking-first, checking-firsts}
use Rattle.vex_check.proofs.Checking.{checking-least, checking-none, checking-step}
use Rattle.vex_check.proofs.Noting.{none-first}
use Rattle.vex_check.proofs.checker.check.Goals as goal

pub loop-place-init : goal.loop-place-init
loop-place-init c = checking-first c.args.bytes.now c.none-found.result
    (none-first c.none-found.result c.none-found.ensures)

pub returns-in-Err-clause-fault : goal.returns-in-Err-clause-fault
returns-in-Err-clause-fault c =
    let rest = take_rest c.args.bytes.now c.loop-place.place in
    checking-fault c.args.bytes.now c.loop-place.found c.loop-place.place c.loop-place.count c.loop-place.invariant
    c.in-Err.cause c.loop-place-test.true
    (rw rest at c.in-Err.ensures.fault)

pub overflow_add-count : goal.overflow_add-count
overflow_add-count c = omega (arith, c.loop-place.invariant.few, c.loop-place-test.true, c.loop-place.auto.place-fits)

pub loop-place-preserved : goal.loop-place-preserved
loop-place-preserved c =
    let rest = take_rest c.args.bytes.now c.loop-place.place in
    let is = c.in-Ok.ensures in
    let long = c.from-place.ensures ∙ c.len.ensures in
    let noted_so : c.note.new.self ≡ noted (is_set (exactly (least c.in-Ok.first.0.meaning.opcode))) c.loop-place.place
    c.in-Ok.first.0.meaning.opcode c.loop-place.found =
    c.note.ensures ∙ ap (λ o. noted (is_set c.in-Ok.first.1) c.loop-place.place o c.loop-place.found) c.opcode.ensures
    ∙ ap (λ s. noted (is_set s) c.loop-place.place c.in-Ok.first.0.meaning.opcode c.loop-place.found) is.least in
    subst (λ n. Checking c.args.bytes.now c.note.new.self (c.loop-place.place + n) (c.loop-place.count + 1)) (sym long)
    (checking-step c.args.bytes.now c.loop-place.found c.loop-place.place c.loop-place.count c.loop-place.invariant
    c.in-Ok.first.0 c.note.new.self
    (rw rest at is.first) is.unmarked is.some (rw rest at is.within) noted_so)

pub returns-clause-least : goal.returns-clause-least
returns-clause-least c =
    c.least.ensures
    ∙ checking-least c.args.bytes.now c.loop-place.found c.loop-place.place c.loop-place.count c.loop-place.invariant
    c.loop-place-test.false

pub returns-clause-firsts : goal.returns-clause-firsts
returns-clause-firsts c =
    c.firsts.ensures
    ∙ checking-firsts c.args.bytes.now c.loop-place.found c.loop-place.place c.loop-place.count c.loop-place.invariant
    c.loop-place-test.false

pub returns-clause-count : goal.returns-clause-count
returns-clause-count c = checking-count c.args.bytes.now c.loop-place.found c.loop-place.place c.loop-place.count
    c.loop-place.invariant c.loop-place-test.false

pub returns-clause-sound : goal.returns-clause-sound
returns-clause-sound c _ =
    checking-none c.args.bytes.now c.loop-place.found c.loop-place.place c.loop-place.count c.loop-place.invariant
    c.loop-place-test.false

pub returns-clause-ends : goal.returns-clause-ends
returns-clause-ends c =
    let bytes = c.args.bytes.now in
    let is = are_bytes bytes (λ i. omega (arith, c.type_inv.bytes i)) in
    let none = checking-none bytes c.loop-place.found c.loop-place.place c.loop-place.count c.loop-place.invariant
    c.loop-place-test.false in
    let least = c.least.ensures ∙ checking-least bytes c.loop-place.found c.loop-place.place c.loop-place.count
    c.loop-place.invariant c.loop-place-test.false in
    subst (EndsWhereCovered bytes) (sym least) (c.needs_say_who_accepts.ensures.ends bytes is none)

pub returns-clause-stops : goal.returns-clause-stops
returns-clause-stops c =
    let bytes = c.args.bytes.now in
    let is = are_bytes bytes (λ i. omega (arith, c.type_inv.bytes i)) in
    let none = checking-none bytes c.loop-place.found c.loop-place.place c.loop-place.count c.loop-place.invariant
    c.loop-place-test.false in
    let least = c.least.ensures ∙ checking-least bytes c.loop-place.found c.loop-place.place c.loop-place.count
    c.loop-place.invariant c.loop-place-test.false in
    let all = c.firsts.ensures ∙ checking-firsts bytes c.loop-place.found c.loop-place.place c.loop-place.count
    c.loop-place.invariant c.loop-place-test.false in
    subst (λ s. StopsAtLeastLack bytes s c.firsts.result.items) (sym least)
    (subst (StopsAtLeastLack bytes (all_needed (run bytes).items)) (sym all)
    (c.needs_say_who_accepts.ensures.stops bytes is none))
