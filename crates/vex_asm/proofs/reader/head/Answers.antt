use Rattle.std.proofs.Common.{◌≡◌, ◌++◌, true, Some, ap, ◌∙◌, option_map}
use Rattle.std.proofs.lemmas.Option.{none-some}
use Rattle.std.proofs.lemmas.Slice.Eq.{strip_prefix_is}
use Rattle.std.proofs.lemmas.Bool.{eqb-true, eq-eqb}
use Rattle.vex_asm.proofs.Meanings.{marked}
use Rattle.vex_asm.proofs.reader.head.Goals as goal

pub returns-in_ok-opcode-in-Some-clause-only : goal.returns-in_ok-opcode-in-Some-clause-only
returns-in_ok-opcode-in-Some-clause-only c = λ evex opcode e.
    let whole : c.args.word.now ≡ c.as_slice.result.now ++ c.in-Some.name.now =
    strip_prefix_is (λ a b. (eqb-true a b, eq-eqb a b)) _ _ (Some c.in-Some.name) c.in-Some.ensures.cases in
    let found = marked _ c.in-Some.name.now evex opcode (whole ∙ ap (λ p. p ++ c.in-Some.name.now) c.as_slice.ensures)
    e in
    rw (found.0) (ap (option_map (λ o. (true, o))) (c.in_ok-opcode-in-Some.ensures.only opcode found.1))

pub returns-in_err-opcode-in-Some-clause-only : goal.returns-in_err-opcode-in-Some-clause-only
returns-in_err-opcode-in-Some-clause-only c = λ evex opcode e.
    let whole : c.args.word.now ≡ c.as_slice.result.now ++ c.in-Some.name.now =
    strip_prefix_is (λ a b. (eqb-true a b, eq-eqb a b)) _ _ (Some c.in-Some.name) c.in-Some.ensures.cases in
    let found = marked _ c.in-Some.name.now evex opcode (whole ∙ ap (λ p. p ++ c.in-Some.name.now) c.as_slice.ensures)
    e in
    absurd (none-some opcode (c.in_err-opcode-in-Some.ensures.only opcode found.1))
