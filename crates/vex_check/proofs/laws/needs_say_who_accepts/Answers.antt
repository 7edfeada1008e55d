use Rattle.vex_check.proofs.Accepting.{where_others_stop, who_accepts}
use Rattle.vex_check.proofs.laws.needs_say_who_accepts.Goals as goal

pub returns-clause-ends : goal.returns-clause-ends
returns-clause-ends c = who_accepts c.all_settings_permit_all.ensures c.decode_answers.ensures.spelling
    c.vex_opcodes.ensures

pub returns-clause-stops : goal.returns-clause-stops
returns-clause-stops c = where_others_stop c.all_settings_permit_all.ensures c.decode_answers.ensures.spelling
    c.vex_opcodes.ensures
