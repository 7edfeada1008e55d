use Rattle.x86_address.specs.Follows.Lemmas.{follows_decided, follows_map}
use Rattle.vex_decode.proofs.Recording.{made_fails, noting_silent, noting_seen, noting_fails, noting_noted}
use Rattle.vex_decode.proofs.NoteIs.{starting}
use Rattle.vex_decode.proofs.reading.read_from_opcode.Goals as goal

pub returns-in_err-byte : goal.returns-in_err-byte
returns-in_err-byte g c = λ form is. noting_fails _ _ (made_fails _ c.from_residual.result _ c.from_residual.ensures)
    (noting_silent _ c.in_err-byte.ensures)

pub returns-in_err-entry : goal.returns-in_err-entry
returns-in_err-entry g c = λ form is. noting_seen _ _ (noting_silent _ c.in_ok-byte.ensures)
    (noting_fails _ _ (made_fails _ c.from_residual-in_err-entry.result _ c.from_residual-in_err-entry.ensures)
    (noting_silent _ (follows_decided _ c.in_err-entry.ensures.decides)))

pub returns : goal.returns
returns g c = λ form is. noting_seen _ _ (noting_silent _ c.in_ok-byte.ensures)
    (noting_seen _ _ (noting_silent _ (follows_decided _ c.in_ok-entry.ensures.decides))
    (noting_noted _ _ (starting c.in_ok-entry.entry form is c.note_opcode.ensures)
    (noting_silent _ (follows_map _ _ (λ operands instruction so. record { meaning = so.meaning; length = so.length })
    c.read_form_into.ensures.follows))))
