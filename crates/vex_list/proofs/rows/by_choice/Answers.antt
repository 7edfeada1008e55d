-- The row, where the choice is one that can have the meaning.
use Rattle.std.proofs.Common.{◌≡◌, true, false, refl, sym, ◌∙◌}
use Rattle.vex_forms.specs.Layout.{row_for}
use Rattle.vex_list.proofs.Lists.{cover_fewer}
use Rattle.vex_list.proofs.Table.{is_row_there, not_there, other_row, small_group}
use Rattle.vex_list.proofs.rows.by_choice.Goals as goal

false_true : false ≡ true → ⊥
false_true h = cc

pub parts_of-parts-requires : goal.parts_of-parts-requires
parts_of-parts-requires c = λ x e.
    small_group c.args.wanted.now.instruction.now.meaning c.args.wanted.now.previous.now c.args.entry.now c.args.w
    c.args.l c.args.memory c.args.group c.requires.small x (sym c.in-Some.ensures.row.group ∙ e)

pub returns-then-has_opcode_and_size : goal.returns-then-has_opcode_and_size
returns-then-has_opcode_and_size c =
    let row = row_for c.args.entry.now c.args.w c.args.l c.args.memory c.args.group in
    let m = c.args.wanted.now.instruction.now.meaning in
    let previous = c.args.wanted.now.previous.now in
    let is_row = is_row_there m previous c.args.entry.now c.args.w c.args.l c.args.memory c.args.group
    c.rows_are_choices.ensures.choices c.requires.listed (c.in-Some.ensures.exists.0 refl) in
    cover_fewer m previous _ _ _ _ (λ b t. t.by)
    (c.by_row.ensures row is_row (c.parts_of-parts.ensures c.args.group c.in-Some.ensures.row))

pub returns-else-has_opcode_and_size : goal.returns-else-has_opcode_and_size
returns-else-has_opcode_and_size c =
    other_row c.args.wanted.now.instruction.now.meaning c.args.wanted.now.previous.now c.args.entry.now c.args.w
    c.args.l c.args.memory c.args.group c.args.nearest c.in-Some.layout c.in-Some.ensures.row
    (λ h. false_true (c.if-has_opcode_and_size.ensures.1 h))

pub returns-in-None : goal.returns-in-None
returns-in-None c =
    not_there c.args.wanted.now.instruction.now.meaning c.args.wanted.now.previous.now c.args.entry.now c.args.w
    c.args.l c.args.memory c.args.group c.args.nearest (λ h. false_true (c.in-None.ensures.exists.1 h))
