-- The result line, by what a decode or a recoding answers.
use Rattle.std.proofs.Common.{◌≡◌, ℕ, Bool, List, Result, sym, ap}
use Rattle.x86_operand.specs.declared.error.DecodeError.{DecodeError}
use Rattle.x86_operand.specs.Meaning.{Decoded}
use Rattle.vex_decode.specs.Decode.{decode}
use Rattle.vex_encode.specs.Recode.{recoded, with_canonical}
use Rattle.vex_lines.specs.ResultLine.{recoded_line, result_line}

pub line-recoded : (settings : List Bool) (bytes : List ℕ) (read : Result (Decoded × List ℕ) DecodeError)
    → read ≡ recoded settings bytes → result_line settings bytes ≡ recoded_line read
unfolding result_line
line-recoded settings bytes read is = ap recoded_line (sym is)

pub line-decoded : (settings : List Bool) (bytes : List ℕ) (first : Result Decoded DecodeError)
    → first ≡ decode settings bytes → result_line settings bytes ≡ recoded_line (with_canonical first)
line-decoded settings bytes first is = line-recoded settings bytes (with_canonical first) (ap with_canonical is)
