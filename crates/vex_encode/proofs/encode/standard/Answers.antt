-- A row that can give the meaning gives its standard spelling; no other row does.
use Rattle.std.proofs.Common.{refl, sym, subst, ap, ◌∙◌}
use Rattle.vex_rows.specs.Row.{IsRow, exists}
use Rattle.vex_forms.specs.Layout.{chosen}
use Rattle.vex_forms.specs.Slots.{index_bank}
use Rattle.vex_encode.specs.Assembly.{IsPlaced}
use Rattle.vex_encode.specs.Encode.{standard_of}
use Rattle.vex_forms.specs.Reads.{kind_seen}
use Rattle.vex_encode.proofs.Entries.{no_row, first_true, second_true, standard_given, standard_refused}
use Rattle.vex_encode.proofs.Written.{chosen_group, chosen_placed}
use Rattle.vex_encode.proofs.encode.standard.Goals as goal

pub returns-then-not-is_row : goal.returns-then-not-is_row
returns-then-not-is_row c = no_row _ _ _ _ _ _ c.requires.memory (λ h. cc)

pub spelling_by-requires-clause-group : goal.spelling_by-requires-clause-group
spelling_by-requires-clause-group c = chosen_group _ _ _ _ _ _ c.of-choice.ensures.row c.requires.group

pub spelling_by-requires-clause-e : goal.spelling_by-requires-clause-e
spelling_by-requires-clause-e c =
    let choice = c.of-choice.result in (
      index_bank (chosen choice),
      subst (IsPlaced (kind_seen c.of-kind.result) (index_bank (chosen choice)))
          (sym c.in-Some.ensures.asked.e)
          (chosen_placed choice (kind_seen c.of-kind.result) c.args.instruction.now.meaning (sym c.of-kind.ensures)
          (c.in-Some.ensures.gives.0 refl)),
    )

pub returns-in-Some : goal.returns-in-Some
returns-in-Some c =
    let m = c.args.instruction.now.meaning in
    let both = sym c.is_row.ensures ∙ c.if-not-is_row.false in
    let there = second_true _ _ both in
    let is_row = c.rows_are_choices.ensures.choices c.args.entry.now c.args.w c.args.l c.args.memory c.args.group
    c.requires.listed (first_true _ _ both) there in
    let is = sym c.of-choice.ensures.row in
    standard_given (chosen c.of-choice.result) m c.spelling_by.result (subst IsRow is is_row)
    (ap exists (sym is) ∙ there) (c.in-Some.ensures.gives.0 refl)
    (c.spelling_by.ensures c.in-Some.ensures.asked) ∙ ap (λ row. standard_of row m) (sym is)

pub returns-in-None : goal.returns-in-None
returns-in-None c =
    let m = c.args.instruction.now.meaning in
    let both = sym c.is_row.ensures ∙ c.if-not-is_row.false in
    let there = second_true _ _ both in
    let is_row = c.rows_are_choices.ensures.choices c.args.entry.now c.args.w c.args.l c.args.memory c.args.group
    c.requires.listed (first_true _ _ both) there in
    let is = sym c.of-choice.ensures.row in
    standard_refused (chosen c.of-choice.result) m (subst IsRow is is_row) (ap exists (sym is) ∙ there)
    (λ gives. let yes = c.in-None.ensures.gives.1 gives in cc yes) ∙ ap (λ row. standard_of row m) (sym is)
