-- The rows with W 0 come before those with W 1, which are passed over where they can give no more.
use Rattle.std.proofs.Common.{true, ap, sym, ◌∙◌}
use Rattle.vex_rows.specs.Row.{choices_of_w}
use Rattle.vex_encode.specs.Encode.{first, first_of}
use Rattle.vex_encode.proofs.Entries.{best_of_entry}
use Rattle.vex_encode.proofs.Excluded.{none_without}
use Rattle.vex_encode.proofs.Search.{first_found, first_missing, none_found}
use Rattle.vex_encode.proofs.encode.standard_by_entry.Goals as goal

pub returns-then-is_some : goal.returns-then-is_some
returns-then-is_some c =
    let m = c.args.instruction.now.meaning in
    let later = first m (choices_of_w c.args.entry.now true) in
    first_found c.standard_by_l-found.result later (sym c.is_some.ensures ∙ c.if-is_some.true)
    ∙ ap (λ o. first_of o later) c.standard_by_l-found.ensures
    ∙ sym (best_of_entry m c.args.entry.now)

pub returns-then-not-wants_w : goal.returns-then-not-wants_w
returns-then-not-wants_w c =
    let m = c.args.instruction.now.meaning in
    let none = none_found c.standard_by_l-found.result (sym c.is_some.ensures ∙ c.if-is_some.false) in
    let later = first m (choices_of_w c.args.entry.now true) in
    sym (best_of_entry m c.args.entry.now
    ∙ ap (λ o. first_of o later) (sym c.standard_by_l-found.ensures ∙ none)
    ∙ none_without m c.args.entry.now c.requires.listed (sym c.wants_w.ensures ∙ c.if-not-wants_w.true)
    (sym c.standard_by_l-found.ensures ∙ none))

pub returns : goal.returns
returns c =
    let m = c.args.instruction.now.meaning in
    let later = first m (choices_of_w c.args.entry.now true) in
    c.standard_by_l.ensures
    ∙ first_missing c.standard_by_l-found.result later (sym c.is_some.ensures ∙ c.if-is_some.false)
    ∙ ap (λ o. first_of o later) c.standard_by_l-found.ensures
    ∙ sym (best_of_entry m c.args.entry.now)
