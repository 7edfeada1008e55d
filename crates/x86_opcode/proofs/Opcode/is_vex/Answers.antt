use Rattle.std.proofs.Common.{◌≡◌, ◌∙◌, true, false, sym, rules}
use Rattle.x86_opcode.specs.Vex.Lemmas.{vex_part_tells}
use Rattle.x86_opcode.specs.Vex.Parts.{vex_part, is_vex-vex_part}
use Rattle.x86_opcode.proofs.Opcode.is_vex.Goals as goal

pub returns-in-Integer-clause-listed : goal.returns-in-Integer-clause-listed
returns-in-Integer-clause-listed c = vex_part_tells c.args.self true (search rules)

pub returns-in-Integer-clause-test : goal.returns-in-Integer-clause-test
returns-in-Integer-clause-test c =
    let part : true ≡ vex_part c.args.self = search rules in part ∙ sym (is_vex-vex_part c.args.self)

pub returns-in-Invalid-clause-listed : goal.returns-in-Invalid-clause-listed
returns-in-Invalid-clause-listed c = vex_part_tells c.args.self false (search rules)

pub returns-in-Invalid-clause-test : goal.returns-in-Invalid-clause-test
returns-in-Invalid-clause-test c =
    let part : false ≡ vex_part c.args.self = search rules in part ∙ sym (is_vex-vex_part c.args.self)
