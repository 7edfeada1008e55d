use Rattle.std.proofs.Common.{◌==◌, sym, ap, ◌∙◌, ℕ}
use Rattle.std.proofs.lemmas.Nat.Bits.{shr_and_one}
use Rattle.x86_settings.proofs.WordLemmas.{is_set-bits}
use Rattle.x86_settings.proofs.decoder.has_bit.Goals as goal

pub returns : goal.returns
returns c = ap (λ (n : ℕ). n == 1) (shr_and_one c.args.word c.args.i)
    ∙ sym (is_set-bits 64 c.args.word c.args.i c.requires)
