-- A group is a value of three bits, and one of another opcode has no row that can give the meaning.
use Rattle.std.proofs.Common.{◌∙◌, if◌then◌else◌}
use Rattle.vex_rows.specs.Groups.Lemmas.{small_group}
use Rattle.vex_encode.proofs.PassedOver.{other_group_row}
use Rattle.vex_encode.proofs.encode.standard_of_group.Goals as goal

pub returns-then-not-is : goal.returns-then-not-is
returns-then-not-is c =
    other_group_row c.args.entry.now c.args.w c.args.l c.args.memory c.args.group c.args.instruction.now.meaning
    c.requires.group
    (λ same. let yes = c.is.ensures.1 (c.opcode.ensures ∙ same) in let no = c.if-not-is.true in cc)

pub standard-requires-clause-group : goal.standard-requires-clause-group
standard-requires-clause-group c =
    small_group c.args.entry.now.form (if c.args.l then 1 else 0) c.args.group c.requires.group
