use Rattle.std.proofs.Common.{refl, ◌∙◌}
use Rattle.vex_asm.proofs.Meanings.{as_words}
use Rattle.vex_asm.proofs.reader.read.Goals as goal

pub returns-clause-again : goal.returns-clause-again
returns-clause-again c = λ m h e.
    let is = c.instruction_of.ensures.only m (as_words m _ h e) in
    c.ok_or.ensures.value ∙ rw is refl
