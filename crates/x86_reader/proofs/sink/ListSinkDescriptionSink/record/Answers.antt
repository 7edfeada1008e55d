use Rattle.std.proofs.Common.{arith, refl, ap}
use Rattle.std.proofs.lemmas.Grind.{common_steps}
use Rattle.x86_reader.proofs.Keeping.{HoldsFirst-kept, HoldsFirst-dropped}
use Rattle.x86_reader.proofs.sink.ListSinkDescriptionSink.record.Goals as goal

pub returns-then-is_full-clause-first : goal.returns-then-is_full-clause-first
returns-then-is_full-clause-first g c = λ given first.
    let kept = ap (λ s. s.kept) c.self.view_is in
    HoldsFirst-dropped given _ c.args.self.now _ first (grind (arith, common_steps)) kept refl

pub returns-else-is_full-clause-first : goal.returns-else-is_full-clause-first
returns-else-is_full-clause-first g c = λ given first.
    let kept = ap (λ s. s.kept) c.self.view_is in
    HoldsFirst-kept given _ c.args.self.now _ first (grind (arith, common_steps)) (rw (← kept) c.push.ensures.items)
    (ap (λ s. s.whole) c.self.view_is)
