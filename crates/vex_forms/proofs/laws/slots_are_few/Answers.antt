use Rattle.vex_forms.specs.Slots.Lemmas.{few_slots}
use Rattle.vex_forms.proofs.laws.slots_are_few.Goals as goal

pub returns : goal.returns
returns c = few_slots
