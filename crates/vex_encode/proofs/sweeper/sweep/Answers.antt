use Rattle.std.proofs.Common.{◌≡◌, [], ◌∷◌, ◌++◌, ap, sym, rules}
use Rattle.std.proofs.lemmas.Grind.{common_steps}
use Rattle.std.proofs.lemmas.List.{map-append, take_rest}
use Rattle.vex_encode.specs.Sweep.{Swept, item_seen}
use Rattle.vex_encode.proofs.Sweeping.{Sweeping-end, Sweeping-first, Sweeping-step, Sweeping-stop, front-read}
use Rattle.vex_encode.proofs.sweeper.sweep.Goals as goal

pub loop-place-init : goal.loop-place-init
loop-place-init c = rw c.new-list.ensures.items (Sweeping-first _ _)

pub loop-place-preserved : goal.loop-place-preserved
loop-place-preserved c =
    let item = c.in-Ok.item in
    let is = c.in-Ok.ensures in
    let rest = take_rest c.args.bytes.now c.loop-place.place in
    let pushed : c.push.new.self.items ≡ c.loop-place.list.items ++ item ∷ [] = search (rules, common_steps) in
    rw (pushed, map-append)
    (Sweeping-step _ _ _ _ c.loop-place.invariant (item_seen item) item.instruction
    (rw rest at is.is) (rw rest at is.first) is.some (rw rest at is.within) is.permitted)

pub returns-in-Err-clause-items : goal.returns-in-Err-clause-items
returns-in-Err-clause-items c =
    let refused = rw (take_rest c.args.bytes.now c.loop-place.place) at c.in-Err.ensures.refused in
    ap (λ (s : Swept). s.items) (sym (Sweeping-stop _ _ _ _ c.loop-place.invariant c.in-Err.error
    c.loop-place-test.true refused))

pub returns-in-Err-clause-end : goal.returns-in-Err-clause-end
returns-in-Err-clause-end c =
    let refused = rw (take_rest c.args.bytes.now c.loop-place.place) at c.in-Err.ensures.refused in
    ap (λ (s : Swept). s.end) (sym (Sweeping-stop _ _ _ _ c.loop-place.invariant c.in-Err.error c.loop-place-test.true
    refused))

pub returns-in-Err-clause-read : goal.returns-in-Err-clause-read
returns-in-Err-clause-read c = front-read _ _ _ _ c.loop-place.invariant

pub returns-clause-items : goal.returns-clause-items
returns-clause-items c = ap (λ (s : Swept). s.items)
    (sym (Sweeping-end _ _ _ _ c.loop-place.invariant c.loop-place-test.false).0)

pub returns-clause-end : goal.returns-clause-end
returns-clause-end c = ap (λ (s : Swept). s.end)
    (sym (Sweeping-end _ _ _ _ c.loop-place.invariant c.loop-place-test.false).0)
