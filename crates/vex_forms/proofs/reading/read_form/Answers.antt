use Rattle.std.proofs.Common.{Err, Ok}
use Rattle.vex_forms.specs.Fields.{fields_of}
use Rattle.vex_forms.proofs.Telling.{if_takes_form, if_fails_form, if_inside}
use Rattle.vex_forms.proofs.reading.read_form.Goals as goal

pub returns-in-Ok-clause-spells : goal.returns-in-Ok-clause-spells
returns-in-Ok-clause-spells g c = if_takes_form c.reading_is_spelling.ensures.spelled c.args.entry.now
    c.args.prefix.now c.requires.listed c.requires.prefix (Ok _) c.in-Ok.ensures.follows

pub returns-in-Err-clause-fails : goal.returns-in-Err-clause-fails
returns-in-Err-clause-fails g c =
    if_fails_form c.args.entry.now (fields_of c.args.prefix.now) (Err _) c.in-Err.ensures.follows

pub returns-in-Err-clause-inside : goal.returns-in-Err-clause-inside
returns-in-Err-clause-inside g c = if_inside c.reading_is_spelling.ensures.exhausted c.args.entry.now
    (fields_of c.args.prefix.now) (Err _) c.in-Err.ensures.follows
