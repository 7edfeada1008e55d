use Rattle.x86_reader.specs.Sink.Lemmas.{Records-trans}
use Rattle.vex_decode.proofs.NoteIs.{noted}
use Rattle.vex_decode.proofs.notes.note_three_bytes.Goals as goal

pub returns : goal.returns
returns g c = Records-trans (noted c.vvvv_note.ensures c.record.ensures)
    (Records-trans c.note_bits.ensures c.record-2.ensures)
