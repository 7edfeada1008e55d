use Rattle.std.proofs.Common.{refl}
use Rattle.vex_emul.specs.declared.operation.Lane.TheVariants.{Word, Doubleword, Quadword}
use Rattle.vex_emul.proofs.LaneLemmas.{compared-bytes, compared-lanes}
use Rattle.vex_emul.proofs.kernels.equal_16.Goals.{in-Byte, in-Word, in-Doubleword, in-Quadword}
use Rattle.vex_emul.proofs.kernels.equal_16.Goals as goal

pub returns : goal.returns
returns c = elim c.match-lane.branch [
  | in-Byte w ↦ compared-bytes c.args.lane 16 c.args.v c.args.e c.match-lane.result w.in-Byte.is c.fits-v.0 c.fits-e.0
      refl w.result-is
  | in-Word w ↦ compared-lanes c.args.lane Word 15 65536 8 16 c.args.v c.args.e c.match-lane.result w.in-Word.is refl
      refl refl refl refl c.fits-v.1 c.fits-e.1 w.result-is
  | in-Doubleword w ↦ compared-lanes c.args.lane Doubleword 31 4294967296 4 16 c.args.v c.args.e c.match-lane.result
      w.in-Doubleword.is refl refl refl refl refl c.fits-v.1 c.fits-e.1 w.result-is
  | in-Quadword w ↦ compared-lanes c.args.lane Quadword 63 18446744073709551616 2 16 c.args.v c.args.e
      c.match-lane.result w.in-Quadword.is refl refl refl refl refl c.fits-v.1 c.fits-e.1 w.result-is
]
