-- The entries of the opcode are enough.
use Rattle.std.proofs.Common.{ap, sym, subst, ◌∙◌, flat_map}
use Rattle.vex_rows.specs.Row.{Among, choices}
use Rattle.vex_rows.specs.Entries.{entries_with}
use Rattle.vex_rows.specs.Entries.Lemmas.{listed_entry}
use Rattle.vex_encode.specs.Encode.{best}
use Rattle.vex_encode.proofs.Search.{canon-best}
use Rattle.vex_encode.proofs.encode.canonical.Goals as goal

pub standard_by_entries-requires : goal.standard_by_entries-requires
standard_by_entries-requires g c = λ entry k. listed_entry entry c.opcode.result
    (subst (Among entry) (c.as_slice.ensures.value ∙ c.entries_of-entries.ensures.entries) k)

pub returns-clause-canonical : goal.returns-clause-canonical
returns-clause-canonical g c =
    c.standard_by_entries.ensures
    ∙ ap (λ entries. best c.args.instruction.now.meaning (flat_map choices entries))
    (c.as_slice.ensures.value ∙ c.entries_of-entries.ensures.entries ∙ ap entries_with c.opcode.ensures)
    ∙ sym (canon-best c.args.instruction.now.meaning)
