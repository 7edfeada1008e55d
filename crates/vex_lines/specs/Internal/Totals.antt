-- The totals that the code keeps.
use Rattle.std.specs.Prelude.{◌≡◌, ℕ, ◌*◌, ◌≤◌, List, ◌++◌, codes, decimal}
use Rattle.vex_lines.specs.declared.make_line.Totals.{Totals}
use Rattle.vex_lines.specs.Generator.{one_of, read_of, short_of, sum_of, total}

-- the totals are those over the first n generated spellings, and no greater than so many spellings allow
pub record IsTotals (totals : Totals) (n : ℕ) : Type 0 where
  pub recoded : totals.recoded ≡ total one_of n
  pub read : totals.read ≡ total read_of n
  pub short : totals.short ≡ total short_of n
  pub sum : totals.sum ≡ total sum_of n
  pub recoded_most : totals.recoded ≤ n
  pub read_most : totals.read ≤ 11 * n
  pub short_most : totals.short ≤ 11 * n
  pub sum_most : totals.sum ≤ 2805 * n

-- the line of totals over n spellings
abbrev pub line_of : ℕ → Totals → List ℕ
line_of n totals =
    codes "made " ++ decimal n ++ codes " ok " ++ decimal totals.recoded ++ codes " read " ++ decimal totals.read
    ++ codes " short " ++ decimal totals.short ++ codes " sum " ++ decimal totals.sum ++ codes "\n"
