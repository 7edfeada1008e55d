-- Names tell opcodes apart, so an opcode of the name that was answered is the one asked for.
use Rattle.std.proofs.Common.{◌∙◌, ap, sym}
use Rattle.x86_opcode.specs.Name.{opcode_name}
use Rattle.x86_opcode.specs.Slots.Lemmas.{opcode_name_injective}
use Rattle.x86_opcode.proofs.Opcode.name.Goals as goal

pub returns-in-Legacy-clause-distinct : goal.returns-in-Legacy-clause-distinct
returns-in-Legacy-clause-distinct c = λ other e. opcode_name_injective other c.args.self.now
    (e ∙ (c.name.ensures ∙ ap opcode_name (sym c.in-Legacy.is)))

pub returns-in-Integer-clause-distinct : goal.returns-in-Integer-clause-distinct
returns-in-Integer-clause-distinct c = λ other e. opcode_name_injective other c.args.self.now
    (e ∙ (c.name-in-Integer.ensures ∙ ap opcode_name (sym c.in-Integer.is)))

pub returns-in-Float-clause-distinct : goal.returns-in-Float-clause-distinct
returns-in-Float-clause-distinct c = λ other e. opcode_name_injective other c.args.self.now
    (e ∙ (c.name-in-Float.ensures ∙ ap opcode_name (sym c.in-Float.is)))

pub returns-in-Fused-clause-distinct : goal.returns-in-Fused-clause-distinct
returns-in-Fused-clause-distinct c = λ other e. opcode_name_injective other c.args.self.now
    (e ∙ (c.name-in-Fused.ensures ∙ ap opcode_name (sym c.in-Fused.is)))

pub returns-in-Marked-clause-distinct : goal.returns-in-Marked-clause-distinct
returns-in-Marked-clause-distinct c = λ other e. opcode_name_injective other c.args.self.now
    (e ∙ (c.name-in-Marked.ensures ∙ ap opcode_name (sym c.in-Marked.is)))
