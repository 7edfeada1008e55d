use Rattle.std.proofs.Common.{◌∙◌}
use Rattle.vex_lines.proofs.ReportLemmas.{code-decoded, code-refused, code-whole}
use Rattle.vex_lines.proofs.report.LineRoom.decode.Goals as goal

pub returns-in-Some-clause-decoded : goal.returns-in-Some-clause-decoded
returns-in-Some-clause-decoded c = code-whole _ _ c.requires c.in-Some.ensures.decoded

pub returns-in-Some-decode_digits-clause-decoded : goal.returns-in-Some-decode_digits-clause-decoded
returns-in-Some-decode_digits-clause-decoded c =
    code-decoded _ _ _ c.requires (c.as_slice.ensures.value ∙ c.keep_digits.ensures)
    c.in-Some-decode_digits.ensures.decoded

pub returns-in-None-clause-decoded : goal.returns-in-None-clause-decoded
returns-in-None-clause-decoded c =
    code-refused _ _ c.requires (c.as_slice.ensures.value ∙ c.keep_digits.ensures) c.in-None.ensures.refused
