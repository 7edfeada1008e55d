use Rattle.std.proofs.Common.{refl}
use Rattle.vex_emul.specs.Lanes.{sum_in}
use Rattle.vex_emul.specs.declared.operation.Lane.TheVariants.{Word, Doubleword, Quadword}
use Rattle.vex_emul.proofs.LaneLemmas.{on_bytes, on_lanes, sum-small}
use Rattle.vex_emul.proofs.kernels.add_32.Goals.{in-Byte, in-Word, in-Doubleword, in-Quadword}
use Rattle.vex_emul.proofs.kernels.add_32.Goals as goal

pub returns : goal.returns
returns c = elim c.match-lane.branch [
  | in-Byte w ↦ on_bytes sum_in sum-small c.args.lane 32 c.args.v c.args.e c.match-lane.result w.in-Byte.is c.fits-v.0
      c.fits-e.0 refl w.result-is
  | in-Word w ↦ on_lanes sum_in sum-small c.args.lane Word 65536 16 32 c.args.v c.args.e c.match-lane.result
      w.in-Word.is refl refl refl c.fits-v.1 c.fits-e.1 w.result-is
  | in-Doubleword w ↦ on_lanes sum_in sum-small c.args.lane Doubleword 4294967296 8 32 c.args.v c.args.e
      c.match-lane.result w.in-Doubleword.is refl refl refl c.fits-v.1 c.fits-e.1 w.result-is
  | in-Quadword w ↦ on_lanes sum_in sum-small c.args.lane Quadword 18446744073709551616 4 32 c.args.v c.args.e
      c.match-lane.result w.in-Quadword.is refl refl refl c.fits-v.1 c.fits-e.1 w.result-is
]
