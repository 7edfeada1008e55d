use Rattle.x86_operand.specs.Kind.{InMemory}
use Rattle.x86_address.proofs.Taken.{after_memory, if_spelled, if_exhausted, on_cut_short}
use Rattle.x86_address.specs.Follows.Lemmas.{over_slice}
use Rattle.x86_address.proofs.decode.read_address.Goals as goal

pub returns-clause-spells : goal.returns-clause-spells
returns-clause-spells g c = if_spelled InMemory c.args.modrm c.read_by_fields.result (after_memory c.requires)
    c.read_by_fields.ensures

pub returns-clause-error : goal.returns-clause-error
returns-clause-error g c = if_exhausted InMemory c.args.modrm c.read_by_fields.result c.read_by_fields.ensures

pub returns-clause-cut : goal.returns-clause-cut
returns-clause-cut g c = on_cut_short InMemory c.args.modrm c.read_by_fields.result (after_memory c.requires)
    c.read_by_fields.ensures

pub returns-clause-slice : goal.returns-clause-slice
returns-clause-slice g c = over_slice c.read_by_fields.result c.read_by_fields.ensures
