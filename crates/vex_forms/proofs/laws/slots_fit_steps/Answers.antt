use Rattle.vex_forms.specs.Slots.Lemmas.{sound}
use Rattle.vex_forms.proofs.laws.slots_fit_steps.Goals as goal

pub returns : goal.returns
returns c = λ row. sound row.entry.form row
