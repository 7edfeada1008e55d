-- Where there are no canonical bytes, nothing spells the meaning.
use Rattle.std.proofs.Common.{refl}
use Rattle.vex_encode.proofs.Canon.{none_spells}
use Rattle.vex_encode.proofs.shortest.encode_shortest.Goals as goal

pub returns-in-None-clause-none : goal.returns-in-None-clause-none
returns-in-None-clause-none g c = (
  (λ h bytes spells. none_spells c.args.instruction.now.meaning
      c.in-None.ensures.canonical bytes spells),
  (λ h. refl),
)
