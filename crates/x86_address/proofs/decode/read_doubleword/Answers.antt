use Rattle.std.proofs.Common.{◌∙◌, ap, arith, rules, FitsSigned, w32, to_z, to_z-of_z}
use Rattle.x86_address.specs.Follows.Lemmas.{follows_seen, fails_first, follows_ok}
use Rattle.x86_address.proofs.decode.read_doubleword.Goals as goal

pub returns-in_err-second : goal.returns-in_err-second
returns-in_err-second g c = follows_seen _ _ c.in_ok-lowest.ensures
    (fails_first _ _ c.from_residual-in_err-second.ensures c.in_err-second.ensures)

pub returns-in_err-third : goal.returns-in_err-third
returns-in_err-third g c = follows_seen _ _ c.in_ok-lowest.ensures
    (follows_seen _ _ c.in_ok-second.ensures
    (fails_first _ _ c.from_residual-in_err-third.ensures c.in_err-third.ensures))

pub returns-in_err-highest : goal.returns-in_err-highest
returns-in_err-highest g c = follows_seen _ _ c.in_ok-lowest.ensures
    (follows_seen _ _ c.in_ok-second.ensures
    (follows_seen _ _ c.in_ok-third.ensures
    (fails_first _ _ c.from_residual-in_err-highest.ensures c.in_err-highest.ensures)))

pub returns : goal.returns
returns g c =
    let fits : FitsSigned w32 c.from_le_bytes.result = search rules in
    follows_seen _ _ c.in_ok-lowest.ensures
    (follows_seen _ _ c.in_ok-second.ensures
    (follows_seen _ _ c.in_ok-third.ensures
    (follows_seen _ _ c.in_ok-highest.ensures
    (follows_ok (to_z-of_z fits ∙ c.from_le_bytes.ensures ∙ ap (to_z w32) (omega arith))))))
