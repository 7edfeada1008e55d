use Rattle.std.proofs.Common.{refl}
use Rattle.vex_lines.proofs.result_line.canonical_bytes.Goals as goal

pub unreachable-requires : goal.unreachable-requires
unreachable-requires g c = c.in-Err.ensures.none.0 refl c.requires.spelled.0 c.requires.spelled.1
