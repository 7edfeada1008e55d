-- The slot of a name has the only opcode that can have it.
use Rattle.std.proofs.Common.{◌≡◌, ◌∙◌, ap, sym, Some, false, true, List, ℕ, bytes_eq}
use Rattle.std.proofs.lemmas.Slice.Eq.{bytes_eq-Decides}
use Rattle.x86_opcode.specs.Name.{opcode_name}
use Rattle.x86_opcode.specs.Slots.{slot, opcode_at}
use Rattle.x86_opcode.specs.Slots.Lemmas.{name_found}
use Rattle.x86_opcode.proofs.Opcode.named.Goals as goal

differ : (xs ys : List ℕ) → xs ≡ ys → false ≡ bytes_eq xs ys → ⊥
differ xs ys e h = let same : bytes_eq xs ys ≡ true = (bytes_eq-Decides xs ys).1 e in cc

pub returns-then-eq-clause-only : goal.returns-then-eq-clause-only
returns-then-eq-clause-only c = λ opcode e.
    let led : c.slot.result ≡ slot c.args.name.now = c.slot.ensures.value ∙ ap slot c.as_bytes.ensures.value in
    ap Some (c.opcode_at-opcode.ensures ∙ (ap opcode_at led ∙ name_found opcode c.args.name.now e))

pub returns-else-eq-clause-only : goal.returns-else-eq-clause-only
returns-else-eq-clause-only c = λ opcode e.
    let led : c.slot.result ≡ slot c.args.name.now = c.slot.ensures.value ∙ ap slot c.as_bytes.ensures.value in
    let same : c.opcode_at-opcode.result ≡ opcode =
    c.opcode_at-opcode.ensures ∙ (ap opcode_at led ∙ name_found opcode c.args.name.now e) in
    let text : c.as_bytes-2.result.now ≡ c.as_bytes-3.result.now =
    c.as_bytes-2.ensures.value ∙ (c.name.ensures.value ∙ (ap opcode_name same ∙ (e ∙ sym c.as_bytes-3.ensures.value)))
    in
    absurd (differ c.as_bytes-2.result.now c.as_bytes-3.result.now text c.if-eq.ensures)
