use Rattle.vex_check.proofs.Covering.{covers-decided}
use Rattle.vex_check.proofs.accept.accepts.Goals as goal

pub returns-clause-value : goal.returns-clause-value
returns-clause-value c = covers-decided c.args.decoder.now c.args.needs.now.least _ c.has_each_bit.ensures
