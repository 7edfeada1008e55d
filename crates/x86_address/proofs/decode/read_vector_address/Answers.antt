use Rattle.x86_operand.specs.Kind.{VectorIndexed}
use Rattle.x86_address.proofs.Taken.{after_vector, if_spelled, if_exhausted, on_cut_short, placed_sib}
use Rattle.x86_address.specs.Follows.Lemmas.{over_slice}
use Rattle.x86_address.proofs.decode.read_vector_address.Goals as goal

pub returns-clause-follows : goal.returns-clause-follows
returns-clause-follows g c = placed_sib c.args.modrm c.requires.memory c.requires.sib c.read_by_sib.ensures

pub returns-clause-spells : goal.returns-clause-spells
returns-clause-spells g c =
    if_spelled VectorIndexed c.args.modrm c.read_by_sib.result (after_vector c.requires.memory c.requires.sib)
    (placed_sib c.args.modrm c.requires.memory c.requires.sib c.read_by_sib.ensures)

pub returns-clause-error : goal.returns-clause-error
returns-clause-error g c =
    if_exhausted VectorIndexed c.args.modrm c.read_by_sib.result
    (placed_sib c.args.modrm c.requires.memory c.requires.sib c.read_by_sib.ensures)

pub returns-clause-cut : goal.returns-clause-cut
returns-clause-cut g c =
    on_cut_short VectorIndexed c.args.modrm c.read_by_sib.result (after_vector c.requires.memory c.requires.sib)
    (placed_sib c.args.modrm c.requires.memory c.requires.sib c.read_by_sib.ensures)

pub returns-clause-slice : goal.returns-clause-slice
returns-clause-slice g c = over_slice c.read_by_sib.result
    (placed_sib c.args.modrm c.requires.memory c.requires.sib c.read_by_sib.ensures)
