use Rattle.std.proofs.Common.{◌∙◌, ◌≡◌}
use Rattle.std.proofs.lemmas.Result.{err_from_is_err_and}
use Rattle.vex_lines.specs.Generator.{made}
use Rattle.vex_lines.proofs.EndsLemmas.{Writes-fault, Writes-handed_on}
use Rattle.vex_lines.proofs.GeneratorLemmas.{line-made}
use Rattle.vex_lines.proofs.make_line.write_made.Given as given
use Rattle.vex_lines.proofs.make_line.write_made.Goals as goal
use Rattle.vex_lines.proofs.make_line.write_made.Goals.{After-write_all}

-- the bytes that are written
line-is : (g : given.Over) (c : After-write_all g) → c.as_bytes.result.now ≡ made c.args.count
line-is g c =
    c.as_bytes.ensures.value ∙ c.as_str.ensures.value ∙ c.made_text.ensures
    ∙ line-made c.add_up.result c.args.count c.add_up.ensures

pub returns : goal.returns
returns g c =
    let written = c.in_ok-write_all.ensures in
    let flushed = c.flush.ensures in
    Writes-handed_on _ _ _ _ _ _ _ _ (rw (line-is g (goal.at.returns g c).After-write_all) at written.appends)
    written.quiet flushed.keeps flushed.quiet flushed.cause

pub returns-in_err-write_all : goal.returns-in_err-write_all
returns-in_err-write_all g c =
    let failed = err_from_is_err_and c.from_residual.result c.from_residual.ensures.1 in
    let refused = c.in_err-write_all.ensures in
    Writes-fault _ failed.0 _ _ _ _ _ failed.1
    (rw (line-is g (goal.at.returns-in_err-write_all g c).After-write_all) at refused.front) refused.cause
