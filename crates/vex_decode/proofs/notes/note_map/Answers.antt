use Rattle.x86_reader.specs.Sink.Lemmas.{Records-trans}
use Rattle.vex_decode.proofs.NoteIs.{noted}
use Rattle.vex_decode.proofs.notes.note_map.Goals as goal

pub returns : goal.returns
returns g c = Records-trans (noted c.p_note.ensures c.record.ensures) (noted c.m_note.ensures c.record-2.ensures)
