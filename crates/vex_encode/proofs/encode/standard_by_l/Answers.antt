-- The rows with L 0 come before those with L 1.
use Rattle.std.proofs.Common.{ap, sym, ◌∙◌}
use Rattle.vex_rows.specs.Row.{choices_of_l}
use Rattle.vex_encode.specs.Encode.{first, first_of}
use Rattle.vex_encode.proofs.Search.{first_of_two, first_found, first_missing}
use Rattle.vex_encode.proofs.encode.standard_by_l.Goals as goal

pub returns-then-is_some : goal.returns-then-is_some
returns-then-is_some c =
    let m = c.args.instruction.now.meaning in
    let later = first m (choices_of_l c.args.entry.now c.args.w 1) in
    first_found c.standard_at-found.result later (sym c.is_some.ensures ∙ c.if-is_some.true)
    ∙ ap (λ o. first_of o later) c.standard_at-found.ensures
    ∙ sym (first_of_two m (choices_of_l c.args.entry.now c.args.w) 0 1)

pub returns : goal.returns
returns c =
    let m = c.args.instruction.now.meaning in
    let later = first m (choices_of_l c.args.entry.now c.args.w 1) in
    c.standard_at.ensures
    ∙ first_missing c.standard_at-found.result later (sym c.is_some.ensures ∙ c.if-is_some.false)
    ∙ ap (λ o. first_of o later) c.standard_at-found.ensures
    ∙ sym (first_of_two m (choices_of_l c.args.entry.now c.args.w) 0 1)
