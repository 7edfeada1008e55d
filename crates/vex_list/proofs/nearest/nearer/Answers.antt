-- The bytes are nearer where all three tests say so.
use Rattle.std.proofs.Common.{◌≡◌, false, true, refl, sym, subst}
use Rattle.vex_list.specs.Next.{Covers}
use Rattle.vex_list.proofs.Lists.{cover_new, some_bytes}
use Rattle.vex_list.proofs.nearest.nearer.Goals as goal

false_true : false ≡ true → ⊥
false_true h = cc

pub returns-then-spells : goal.returns-then-spells
returns-then-spells c =
    let m = c.args.wanted.now.instruction.now.meaning in
    let previous = c.args.wanted.now.previous.now in
    let bytes = c.args.bytes.now in
    subst (Covers m previous (λ b. b ≡ bytes) c.args.nearest)
    (sym (some_bytes c.of.result bytes (c.of.ensures.within.1 c.requires) c.of.ensures.bytes))
    (cover_new m previous bytes c.args.nearest (c.if-spells.ensures.0 refl) (c.if-is_before.ensures.0 refl)
    (λ l. false_true (c.if-not-is_at_most.ensures.1 l)))
