use Rattle.x86_address.proofs.Spelling.{only_spellable, shortest_spells}
use Rattle.x86_address.proofs.laws.shortest_spells.Goals as goal

pub returns-clause-only : goal.returns-clause-only
returns-clause-only c = only_spellable

pub returns-clause-spells : goal.returns-clause-spells
returns-clause-spells c = shortest_spells
