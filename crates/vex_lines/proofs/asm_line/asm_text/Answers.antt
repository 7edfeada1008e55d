use Rattle.std.proofs.Common.{ap, ◌∙◌}
use Rattle.vex_lines.specs.ErrorLine.{error_line}
use Rattle.vex_lines.proofs.Assembled.{line-assembled, line-refused_text}
use Rattle.vex_lines.proofs.asm_line.asm_text.Goals as goal

pub returns-in-Ok : goal.returns-in-Ok
returns-in-Ok c =
    c.permitted_text.ensures
    ∙ line-assembled c.assembled_lines.ensures.text c.args.settings.now c.args.line.now _ _ _ c.in-Ok.ensures
    c.is_permitted.ensures

pub returns-in-Err : goal.returns-in-Err
returns-in-Err c =
    let laws = c.assembled_lines.ensures in
    c.error_text.ensures
    ∙ ap error_line c.name.ensures
    ∙ line-refused_text laws.text laws.no_text c.recode_again.ensures.spells c.args.settings.now c.args.line.now _
    c.in-Err.ensures
