use Rattle.x86_address.specs.Follows.Lemmas.{follows_ok, follows_err}
use Rattle.vex_decode.proofs.Recording.{noting_silent, noting_seen, noting_fails, noting_noted}
use Rattle.vex_decode.proofs.reading.read_two_more.Goals as goal

pub returns-in_err-second-clause-follows : goal.returns-in_err-second-clause-follows
returns-in_err-second-clause-follows g c =
    noting_fails _ _ c.from_residual.ensures (noting_silent _ c.in_err-second.ensures)

pub returns-in_err-third-clause-follows : goal.returns-in_err-third-clause-follows
returns-in_err-third-clause-follows g c =
    noting_seen _ _ (noting_silent _ c.in_ok-second.ensures)
    (noting_fails _ _ c.from_residual-in_err-third.ensures (noting_silent _ c.in_err-third.ensures))

pub returns-in-Some-clause-follows : goal.returns-in-Some-clause-follows
returns-in-Some-clause-follows g c = noting_seen _ _ (noting_silent _ c.in_ok-second.ensures)
    (noting_seen _ _ (noting_silent _ c.in_ok-third.ensures)
    (noting_noted _ _ c.note_map.ensures (rw (← c.in-Some.ensures)
    (noting_noted _ _ c.note_three_bytes.ensures (noting_silent _ (follows_ok c.three_byte_fields.ensures.fields))))))

pub returns-in-None-clause-follows : goal.returns-in-None-clause-follows
returns-in-None-clause-follows g c = noting_seen _ _ (noting_silent _ c.in_ok-second.ensures)
    (noting_seen _ _ (noting_silent _ c.in_ok-third.ensures)
    (noting_noted _ _ c.note_map.ensures (rw (← c.in-None.ensures) (noting_silent _ (follows_err (λ e. cc))))))
