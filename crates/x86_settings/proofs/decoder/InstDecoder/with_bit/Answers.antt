use Rattle.std.proofs.Common.{List, Bool, ◌++◌, sym, ap, ◌∙◌}
use Rattle.x86_settings.specs.Bits.{with_set}
use Rattle.x86_settings.specs.Words.{bits}
use Rattle.x86_settings.proofs.WordLemmas.{length-both, with_set-low, with_set-high}
use Rattle.x86_settings.proofs.decoder.InstDecoder.with_bit.Goals as goal

pub returns-then-i-lt64-clause-set : goal.returns-then-i-lt64-clause-set
returns-then-i-lt64-clause-set c =
    ap (λ (low : List Bool). low ++ bits 64 c.self.inside.high) c.with_bit_set.ensures
    ∙ sym (with_set-low c.self.inside.low c.self.inside.high c.args.i c.if-i-lt64.true)
    ∙ ap (λ (s : List Bool). with_set s c.args.i) c.self.view_is

pub returns-then-i-lt64-clause-long : goal.returns-then-i-lt64-clause-long
returns-then-i-lt64-clause-long c = length-both c.with_bit_set.result c.self.inside.high

pub returns-else-i-lt64-clause-set : goal.returns-else-i-lt64-clause-set
returns-else-i-lt64-clause-set c =
    ap (λ (high : List Bool). bits 64 c.self.inside.low ++ high) c.with_bit_set-else-i-lt64.ensures
    ∙ sym (with_set-high c.self.inside.low c.self.inside.high c.args.i c.if-i-lt64.false)
    ∙ ap (λ (s : List Bool). with_set s c.args.i) c.self.view_is

pub returns-else-i-lt64-clause-long : goal.returns-else-i-lt64-clause-long
returns-else-i-lt64-clause-long c = length-both c.self.inside.low c.with_bit_set-else-i-lt64.result
