use Rattle.std.proofs.Common.{sym, ◌∙◌}
use Rattle.vex_lines.proofs.CountLemmas.{count-read, count-unread}
use Rattle.vex_lines.proofs.command.count_of.Goals as goal

pub returns-in-Ok : goal.returns-in-Ok
returns-in-Ok c = c.count_written.ensures
    ∙ count-read c.args.word.now c.parse.result c.in-Ok.count c.parse.ensures.value.0 c.in-Ok.is

pub returns-in-Err : goal.returns-in-Err
returns-in-Err c = sym (count-unread c.args.word.now c.parse.result _ c.parse.ensures.value.0 c.in-Err.is)
