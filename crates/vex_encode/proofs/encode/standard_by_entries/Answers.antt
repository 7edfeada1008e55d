-- One more entry, and all of them.
use Rattle.std.proofs.Common.{arith, ap, ap₂, sym, ◌∙◌, flat_map, take, if◌then◌else◌}
use Rattle.std.proofs.Math.Seq.{take-length}
use Rattle.vex_rows.specs.Row.{choices}
use Rattle.vex_encode.specs.Encode.{shorter_of, best}
use Rattle.vex_encode.proofs.Search.{among_at, best_more}
use Rattle.vex_encode.proofs.encode.standard_by_entries.Goals.{then-is_shorter, else-is_shorter}
use Rattle.vex_encode.proofs.encode.standard_by_entries.Goals as goal

pub standard_by_entry-found-requires-clause-listed : goal.standard_by_entry-found-requires-clause-listed
standard_by_entry-found-requires-clause-listed c =
    c.requires _ (among_at c.args.entries.now c.loop-entry.entry-index _ c.loop-entry-test.true)

pub loop-entry-preserved : goal.loop-entry-preserved
loop-entry-preserved c =
    elim c.if-is_shorter.branch [
      | then-is_shorter w ↦ w.shortest-is
          ∙ ap (λ b. if b then c.standard_by_entry-found.result else c.loop-entry.shortest) (sym w.if-is_shorter.true)
          ∙ c.is_shorter.ensures
      | else-is_shorter w ↦ w.shortest-is
          ∙ ap (λ b. if b then c.standard_by_entry-found.result else c.loop-entry.shortest) (sym w.if-is_shorter.false)
          ∙ c.is_shorter.ensures
    ]
    ∙ ap₂ shorter_of c.loop-entry.invariant c.standard_by_entry-found.ensures
    ∙ sym (best_more c.args.instruction.now.meaning c.args.entries.now c.loop-entry.entry-index _
    c.loop-entry-test.true)

pub returns : goal.returns
returns c =
    c.loop-entry.invariant
    ∙ ap (λ entries. best c.args.instruction.now.meaning (flat_map choices entries))
    (ap (λ n. take n c.args.entries.now) (omega arith) ∙ take-length c.args.entries.now)
