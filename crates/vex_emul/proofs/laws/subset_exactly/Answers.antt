use Rattle.vex_emul.proofs.SubsetRows.{subset_is_exact}
use Rattle.vex_emul.proofs.laws.subset_exactly.Goals as goal

pub returns : goal.returns
returns c = subset_is_exact
