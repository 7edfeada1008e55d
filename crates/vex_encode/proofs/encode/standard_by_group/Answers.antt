-- The first row of those of the groups that can give the meaning.
use Rattle.std.proofs.Common.{ap, sym, ◌∙◌, map, drop, ◌+◌, arith, if◌then◌else◌}
use Rattle.vex_forms.specs.Layout.{row_for}
use Rattle.vex_encode.specs.Encode.{first, first_of}
use Rattle.vex_encode.proofs.Entries.{first_grouped, first_step, first_end}
use Rattle.vex_encode.proofs.PassedOver.{group_at}
use Rattle.vex_encode.proofs.Search.{first_found}
use Rattle.vex_encode.proofs.encode.standard_by_group.Goals as goal

pub standard_of_group-found-requires-clause-group : goal.standard_of_group-found-requires-clause-group
standard_of_group-found-requires-clause-group c =
    group_at c.args.entry.now.form (if c.args.l then 1 else 0) c.as_slice-group-items.result.now
    c.loop-group.group-index _ (c.as_slice-group-items.ensures.value
    ∙ c.groups_of-reg_groups.ensures (if c.args.l then 1 else 0)) c.loop-group-test.true

pub returns-then-is_some : goal.returns-then-is_some
returns-then-is_some c =
    let m = c.args.instruction.now.meaning in
    let entry = c.args.entry.now in
    let gs = c.as_slice-group-items.result.now in
    let i = c.loop-group.group-index in
    first_found c.standard_of_group-found.result
    (first m (map (λ g. row_for entry c.args.w c.args.l c.args.memory g.0) (drop (i + 1) gs)))
    (sym c.is_some.ensures ∙ c.if-is_some.true)
    ∙ ap (λ o. first_of o (first m (map (λ g. row_for entry c.args.w c.args.l c.args.memory g.0) (drop (i + 1) gs))))
    c.standard_of_group-found.ensures
    ∙ sym (first_grouped m entry c.args.w c.args.l c.args.memory c.requires.memory
    (c.requires.grouped (if c.args.l then 1 else 0))
    ∙ ap (λ gs. first m (map (λ g. row_for entry c.args.w c.args.l c.args.memory g.0) gs))
    (sym (c.as_slice-group-items.ensures.value ∙ c.groups_of-reg_groups.ensures (if c.args.l then 1 else 0)))
    ∙ c.loop-group.invariant
    ∙ first_step m (λ g. row_for entry c.args.w c.args.l c.args.memory g.0) gs i _ c.loop-group-test.true)

pub returns : goal.returns
returns c =
    let m = c.args.instruction.now.meaning in
    let entry = c.args.entry.now in
    let gs = c.as_slice-group-items.result.now in
    let i = c.loop-group.group-index in
    sym (first_grouped m entry c.args.w c.args.l c.args.memory c.requires.memory
    (c.requires.grouped (if c.args.l then 1 else 0))
    ∙ ap (λ gs. first m (map (λ g. row_for entry c.args.w c.args.l c.args.memory g.0) gs))
    (sym (c.as_slice-group-items.ensures.value ∙ c.groups_of-reg_groups.ensures (if c.args.l then 1 else 0)))
    ∙ c.loop-group.invariant
    ∙ first_end m (λ g. row_for entry c.args.w c.args.l c.args.memory g.0) gs i (omega arith))
