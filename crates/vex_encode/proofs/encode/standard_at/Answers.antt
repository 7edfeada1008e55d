-- The one row of an entry without groups, and none where the first operand can't stand at its first slot.
use Rattle.std.proofs.Common.{sym, ◌∙◌, subst, if◌then◌else◌}
use Rattle.vex_encode.specs.Conditions.{MayBegin}
use Rattle.vex_encode.proofs.Entries.{first_alone}
use Rattle.vex_encode.proofs.Excluded.{none_begins}
use Rattle.vex_encode.proofs.PassedOver.{none_by_rules}
use Rattle.vex_encode.proofs.encode.standard_at.Goals as goal

pub returns-then-not-rules_allow : goal.returns-then-not-rules_allow
returns-then-not-rules_allow c =
    sym (none_by_rules c.args.entry.now c.args.w c.args.l c.args.instruction.now.meaning
    (sym c.rules_allow.ensures ∙ c.if-not-rules_allow.true))

pub returns-then-not-may_begin : goal.returns-then-not-may_begin
returns-then-not-may_begin c =
    sym (none_begins c.args.entry.now c.args.w c.args.l c.args.memory c.args.instruction.now.meaning
    c.first_slot.result c.requires.listed c.requires.memory c.first_slot.ensures
    (λ may. let yes = c.may_begin.ensures.1 (subst (MayBegin c.first_slot.result c.args.memory) (sym c.requires.bank) may) in
    let no = c.if-not-may_begin.true in cc))

pub returns : goal.returns
returns c =
    c.standard.ensures
    ∙ sym (first_alone c.args.instruction.now.meaning c.args.entry.now c.args.w c.args.l c.args.memory c.requires.memory
    (sym (c.is_alone.ensures (if c.args.l then 1 else 0)) ∙ c.if-not-is_alone.false))
