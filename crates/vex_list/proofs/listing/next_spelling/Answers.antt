-- The entries of the opcode are enough.
use Rattle.std.proofs.Common.{ap, subst, ◌∙◌, None}
use Rattle.vex_rows.specs.Entries.{entries_with}
use Rattle.vex_rows.specs.Entries.Lemmas.{listed_entry}
use Rattle.vex_rows.specs.Row.{Among}
use Rattle.vex_list.specs.Next.{Covers}
use Rattle.vex_list.specs.Sets.{ByEntries}
use Rattle.vex_list.proofs.Table.{is_next}
use Rattle.vex_list.proofs.listing.next_spelling.Goals as goal

pub by_entries-requires : goal.by_entries-requires
by_entries-requires c = λ entry k. listed_entry entry c.opcode.result
    (subst (Among entry) (c.as_slice.ensures.value ∙ c.counted_entries-entries.ensures) k)

pub returns : goal.returns
returns c =
    let m = c.args.instruction.now.meaning in
    is_next m c.args.previous.now c.by_entries.result c.rows_have_entries.ensures c.rows_are_choices.ensures.rows
    (subst (λ entries. Covers m c.args.previous.now (ByEntries m entries) None c.by_entries.result)
    (c.as_slice.ensures.value ∙ c.counted_entries-entries.ensures ∙ ap entries_with c.opcode.ensures)
    c.by_entries.ensures)
