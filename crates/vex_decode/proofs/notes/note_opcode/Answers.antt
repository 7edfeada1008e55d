use Rattle.x86_reader.specs.Sink.Lemmas.{Records-trans}
use Rattle.vex_decode.proofs.notes.note_opcode.Goals as goal

pub returns : goal.returns
returns g c = Records-trans c.record.ensures c.record-2.ensures
