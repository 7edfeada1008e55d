use Rattle.std.proofs.Common.{◌/◌, length, take}
use Rattle.std.proofs.lemmas.List.{length-take-le}
use Rattle.vex_lines.proofs.ReportLemmas.{IsDecoded, bytes-decoded, bytes-refused}
use Rattle.vex_lines.proofs.report.decode_digits.Goals as goal
use Rattle.vex_lines.proofs.report.decode_digits.Goals.{After-decode_to_slice}

-- what is known once the digits were decoded
decoded : (c : After-decode_to_slice) → IsDecoded c.args.text.now (take (length c.args.text.now / 2) c.args.bytes.now)
    c.decode_to_slice.new.out c.decode_to_slice.result
decoded c = record {
  half = length-take-le (length c.args.text.now / 2) c.args.bytes.now c.requires;
  same_len = c.decode_to_slice.auto.out;
  decoded = c.decode_to_slice.ensures.value;
}

pub returns-in-Ok-clause-decoded : goal.returns-in-Ok-clause-decoded
returns-in-Ok-clause-decoded c = bytes-decoded _ _ _ _ _ _
    (decoded (goal.at.returns-in-Ok-clause-decoded c).After-decode_to_slice) c.in-Ok.is

pub returns-in-Err-clause-refused : goal.returns-in-Err-clause-refused
returns-in-Err-clause-refused c = bytes-refused _ _ _ _ _
    (decoded (goal.at.returns-in-Err-clause-refused c).After-decode_to_slice) c.in-Err.is
