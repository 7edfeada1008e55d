use Rattle.x86_address.specs.Follows.Lemmas.{follows_ok}
use Rattle.vex_decode.proofs.Recording.{noting_silent, noting_seen, noting_fails, noting_noted}
use Rattle.vex_decode.proofs.reading.read_second_byte.Goals as goal

pub returns-in_err-byte-clause-follows : goal.returns-in_err-byte-clause-follows
returns-in_err-byte-clause-follows g c =
    noting_fails _ _ c.from_residual.ensures (noting_silent _ c.in_err-byte.ensures)

pub returns-clause-follows : goal.returns-clause-follows
returns-clause-follows g c = noting_seen _ _ (noting_silent _ c.in_ok-byte.ensures)
    (noting_noted _ _ c.note_two_bytes.ensures (noting_silent _ (follows_ok c.two_byte_fields.ensures.fields)))
