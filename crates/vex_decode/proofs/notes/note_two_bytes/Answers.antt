use Rattle.x86_reader.specs.Sink.Lemmas.{Records-trans}
use Rattle.vex_decode.proofs.NoteIs.{noted}
use Rattle.vex_decode.proofs.notes.note_two_bytes.Goals as goal

pub returns : goal.returns
returns g c = Records-trans (noted c.p_note.ensures c.record.ensures)
    (Records-trans (noted c.vvvv_note.ensures c.record-2.ensures)
    (Records-trans (noted c.bit_note.ensures c.record-3.ensures)
    (Records-trans (noted c.bit_note-2.ensures c.record-4.ensures) c.record-5.ensures)))
