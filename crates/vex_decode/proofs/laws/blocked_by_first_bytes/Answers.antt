use Rattle.vex_decode.proofs.Refusing.{first_bytes, at_most_eleven}
use Rattle.vex_decode.proofs.laws.blocked_by_first_bytes.Goals as goal

pub returns-clause-alone : goal.returns-clause-alone
returns-clause-alone c = first_bytes

pub returns-clause-most : goal.returns-clause-most
returns-clause-most c = at_most_eleven
