-- A note that is recorded, where what it says is known.
use Rattle.std.proofs.Common.{◌≡◌, subst, ℕ, [], ◌∷◌}
use Rattle.x86_reader.specs.Sink.{SinkState, Records}
use Rattle.x86_operand.specs.declared.note.InnerDescription.{InnerDescription}
use Rattle.x86_operand.specs.declared.note.FieldDescription.{FieldDescription}
use Rattle.vex_rows.specs.declared.entry.Entry.{Entry}
use Rattle.vex_decode.specs.Fields.{PrefixForm}
use Rattle.vex_decode.specs.Notes.{note_at, opcode_start, opcode_notes_at, opcode_notes}

pub noted : {old new : SinkState FieldDescription} {start end id : ℕ} {what other : InnerDescription} → what ≡ other
    → Records old new (note_at start end id what ∷ []) → Records old new (note_at start end id other ∷ [])
noted {old} {new} {start} {end} {id} same records =
    subst (λ what. Records old new (note_at start end id what ∷ [])) same records

-- the notes on an opcode byte that stands where it stands after a prefix of this form
pub starting : {old new : SinkState FieldDescription} (entry : Entry) {start : ℕ} (form : PrefixForm)
    → start ≡ opcode_start form → Records old new (opcode_notes_at start entry)
    → Records old new (opcode_notes form entry)
starting {old} {new} entry form same records =
    subst (λ start. Records old new (opcode_notes_at start entry)) same records
