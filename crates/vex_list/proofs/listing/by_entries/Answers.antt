-- One more entry, and all of them.
use Rattle.std.proofs.Common.{arith, ap, subst, ◌∙◌, take, None}
use Rattle.std.proofs.Math.Seq.{take-length}
use Rattle.vex_list.specs.Next.{Covers}
use Rattle.vex_list.specs.Sets.{ByEntries}
use Rattle.vex_list.proofs.Lists.{cover_empty, cover_either, cover_fewer}
use Rattle.vex_list.proofs.Table.{one_more, entry_at}
use Rattle.vex_list.proofs.listing.by_entries.Goals as goal

pub by_entry-nearest-requires : goal.by_entry-nearest-requires
by_entry-nearest-requires c = c.requires _
    (entry_at c.args.entries.now c.loop-entry.entry-index _ c.loop-entry-test.true)

pub loop-entry-init : goal.loop-entry-init
loop-entry-init c =
    cover_empty c.args.wanted.now.instruction.now.meaning c.args.wanted.now.previous.now _ None (λ b t. t.1)

pub loop-entry-preserved : goal.loop-entry-preserved
loop-entry-preserved c =
    let m = c.args.wanted.now.instruction.now.meaning in
    cover_fewer m c.args.wanted.now.previous.now _ _ _ _
    (λ b. one_more m c.args.entries.now c.loop-entry.entry-index _ b c.loop-entry-test.true)
    (cover_either m c.args.wanted.now.previous.now _ _ _ _ _ c.loop-entry.invariant c.by_entry-nearest.ensures)

pub returns : goal.returns
returns c =
    let m = c.args.wanted.now.instruction.now.meaning in
    subst (λ entries. Covers m c.args.wanted.now.previous.now (ByEntries m entries) None c.loop-entry.nearest)
    (ap (λ n. take n c.args.entries.now) (omega arith) ∙ take-length c.args.entries.now) c.loop-entry.invariant
