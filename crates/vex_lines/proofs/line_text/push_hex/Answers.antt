use Rattle.std.proofs.Common.{sym, subst}
use Rattle.std.specs.Prelude.{IsUtf8}
use Rattle.vex_lines.proofs.Texts.{utf8_hex}
use Rattle.vex_lines.proofs.line_text.push_hex.Goals as goal

pub push_digits-requires-clause-text : goal.push_digits-requires-clause-text
push_digits-requires-clause-text c = subst IsUtf8 (sym c.in-Ok.ensures.written) (utf8_hex c.args.bytes.now)
