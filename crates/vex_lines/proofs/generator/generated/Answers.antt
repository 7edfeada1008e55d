use Rattle.std.proofs.Common.{◌∙◌}
use Rattle.vex_lines.proofs.GeneratorLemmas.{entries-there, entry-place, generated-at}
use Rattle.vex_lines.proofs.generator.generated.Goals as goal

pub nonzero_rem-i : goal.nonzero_rem-i
nonzero_rem-i c = entries-there c.entry_count-count.result c.entry_count-count.ensures

pub entry_of-entry-requires-clause-place : goal.entry_of-entry-requires-clause-place
entry_of-entry-requires-clause-place c = entry-place c.args.i c.entry_count-count.result c.entry_count-count.ensures

pub returns : goal.returns
returns c = c.spelling_of.ensures ∙ generated-at c.args.i c.entry_count-count.result c.entry_of-entry.result
    c.entry_count-count.ensures c.entry_of-entry.ensures
