-- The slots and the index of all rows at its W, L and place of the operand E are those of the choice.
use Rattle.vex_forms.proofs.choice.Choice.shape_and_index_bank.Goals as goal

pub returns : goal.returns
returns c =
    let group = c.args.self.now.group in
    record { slots = c.shape_and_index_bank.ensures.slots group; index = c.shape_and_index_bank.ensures.index group }
