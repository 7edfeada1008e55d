use Rattle.std.proofs.Common.{◌≡◌, ◌∙◌, ◌+◌, ◌-◌, ap, arith}
use Rattle.std.specs.Simd.Lanes.{chunk}
use Rattle.vex_lines.proofs.EmulateLinesLemmas.{chunk-counting}
use Rattle.vex_lines.proofs.counting_bytes.CountingBytes.part.Goals as goal

pub returns : goal.returns
returns c =
    let first = c.args.first in
    let count = c.args.count in
    let bytes = c.args.self.now.bytes in
    let long : first + count - first ≡ count = omega arith in
    ap (λ n. chunk first n bytes) long ∙ ap (chunk first count) c.args.self.now.counting
    ∙ chunk-counting first count 1024 c.requires
