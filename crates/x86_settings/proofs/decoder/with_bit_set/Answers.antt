use Rattle.x86_settings.proofs.WordLemmas.{bits-bit_or}
use Rattle.x86_settings.proofs.decoder.with_bit_set.Goals as goal

pub returns : goal.returns
returns c = bits-bit_or c.args.word c.args.i c.requires
