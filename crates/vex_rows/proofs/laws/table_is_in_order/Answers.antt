use Rattle.std.proofs.Common.{refl}
use Rattle.vex_rows.specs.Table.{table}
use Rattle.vex_rows.proofs.laws.table_is_in_order.Goals as goal

pub returns : goal.returns
unfolding table
returns c = refl
