-- The number tells opcodes apart, so an opcode of the number that was answered is the one asked for.
use Rattle.std.proofs.Common.{◌≡◌, ℕ, ◌+◌, ◌∙◌, ap}
use Rattle.x86_opcode.specs.declared.Opcode.{Opcode}
use Rattle.x86_opcode.specs.declared.list.TheConstants.{FIRST_LEGACY, FIRST_INTEGER, FIRST_FLOAT, FIRST_FUSED}
use Rattle.x86_opcode.specs.declared.list.TheConstants.{FIRST_MARKED}
use Rattle.x86_opcode.specs.Number.{opcode_number}
use Rattle.x86_opcode.specs.Number.Lemmas.{opcode_number_injective}
use Rattle.x86_opcode.proofs.Tags.{legacy_tag, integer_tag, float_tag, fused_tag, marked_tag}
use Rattle.x86_opcode.proofs.Opcode.number.Goals as goal

told : (o : Opcode) (n : ℕ) → n ≡ opcode_number o → (other : Opcode) → opcode_number other ≡ n → other ≡ o
told o n is_number other e = opcode_number_injective other o (e ∙ is_number)

pub returns-in-Legacy-clause-distinct : goal.returns-in-Legacy-clause-distinct
unfolding opcode_number
returns-in-Legacy-clause-distinct c = told c.args.self _
    (rw c.in-Legacy.is (ap (λ n. FIRST_LEGACY + n) (legacy_tag c.in-Legacy.part)))

pub returns-in-Integer-clause-distinct : goal.returns-in-Integer-clause-distinct
unfolding opcode_number
returns-in-Integer-clause-distinct c = told c.args.self _
    (rw c.in-Integer.is (ap (λ n. FIRST_INTEGER + n) (integer_tag c.in-Integer.part)))

pub returns-in-Float-clause-distinct : goal.returns-in-Float-clause-distinct
unfolding opcode_number
returns-in-Float-clause-distinct c = told c.args.self _
    (rw c.in-Float.is (ap (λ n. FIRST_FLOAT + n) (float_tag c.in-Float.part)))

pub returns-in-Fused-clause-distinct : goal.returns-in-Fused-clause-distinct
unfolding opcode_number
returns-in-Fused-clause-distinct c = told c.args.self _
    (rw c.in-Fused.is (ap (λ n. FIRST_FUSED + n) (fused_tag c.in-Fused.part)))

pub returns-in-Marked-clause-distinct : goal.returns-in-Marked-clause-distinct
unfolding opcode_number
returns-in-Marked-clause-distinct c = told c.args.self _
    (rw c.in-Marked.is (ap (λ n. FIRST_MARKED + n) (marked_tag c.in-Marked.part)))
