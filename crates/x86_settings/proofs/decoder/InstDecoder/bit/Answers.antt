use Rattle.std.proofs.Common.{List, Bool, length, sym, ap, ◌∙◌}
use Rattle.x86_settings.specs.Bits.{is_set}
use Rattle.x86_settings.proofs.WordLemmas.{length-both, is_set-low, is_set-high}
use Rattle.x86_settings.proofs.decoder.InstDecoder.bit.Goals as goal

pub returns-then-i-lt64-clause-set : goal.returns-then-i-lt64-clause-set
returns-then-i-lt64-clause-set c =
    c.has_bit.ensures
    ∙ sym (is_set-low c.self.inside.low c.self.inside.high c.args.i c.if-i-lt64.true)
    ∙ ap (λ (s : List Bool). is_set s c.args.i) c.self.view_is

pub returns-then-i-lt64-clause-long : goal.returns-then-i-lt64-clause-long
returns-then-i-lt64-clause-long c =
    sym (ap (λ (s : List Bool). length s) c.self.view_is) ∙ length-both c.self.inside.low c.self.inside.high

pub returns-else-i-lt64-clause-set : goal.returns-else-i-lt64-clause-set
returns-else-i-lt64-clause-set c =
    c.has_bit-else-i-lt64.ensures
    ∙ sym (is_set-high c.self.inside.low c.self.inside.high c.args.i c.if-i-lt64.false)
    ∙ ap (λ (s : List Bool). is_set s c.args.i) c.self.view_is

pub returns-else-i-lt64-clause-long : goal.returns-else-i-lt64-clause-long
returns-else-i-lt64-clause-long c =
    sym (ap (λ (s : List Bool). length s) c.self.view_is) ∙ length-both c.self.inside.low c.self.inside.high
