use Rattle.vex_forms.proofs.Choosing.{row-is_choice, choice-is_row}
use Rattle.vex_forms.proofs.laws.rows_are_choices.Goals as goal

pub returns : goal.returns
returns c = record { rows = row-is_choice; choices = choice-is_row }
