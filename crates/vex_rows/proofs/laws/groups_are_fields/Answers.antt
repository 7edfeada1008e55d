use Rattle.vex_rows.specs.Groups.Lemmas.{small_group}
use Rattle.vex_rows.proofs.laws.groups_are_fields.Goals as goal

pub returns : goal.returns
returns c = small_group
