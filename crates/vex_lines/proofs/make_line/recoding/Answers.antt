use Rattle.vex_lines.proofs.GeneratorLemmas.{recoding-is}
use Rattle.vex_lines.proofs.make_line.recoding.Goals as goal

pub returns-in-Ok-clause-found : goal.returns-in-Ok-clause-found
returns-in-Ok-clause-found c =
    rw c.len.ensures (recoding-is _ c.default.ensures c.args.bytes.now _ c.in-Ok.ensures.answer)

pub returns-in-Err-clause-found : goal.returns-in-Err-clause-found
returns-in-Err-clause-found c = recoding-is _ c.default.ensures c.args.bytes.now _ c.in-Err.ensures.answer
