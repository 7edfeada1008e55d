use Rattle.std.proofs.Common.{◌≡◌, ◌∙◌, ap, refl, arith}
use Rattle.x86_address.specs.Bytes.{IsBytes}
use Rattle.vex_decode.specs.Decode.{decode}
use Rattle.vex_decode.specs.Notes.{notes}
use Rattle.vex_encode.specs.Sweep.Lemmas.{are_bytes}
use Rattle.vex_lines.specs.NoteLines.{bytes_taken}
use Rattle.vex_lines.proofs.NoteLinesLemmas.{noted}
use Rattle.vex_lines.proofs.note_lines.list_notes.Goals as goal
use Rattle.vex_lines.proofs.note_lines.list_notes.Goals.{After-decode_with_annotation}

bytes-are : (c : After-decode_with_annotation) → IsBytes c.args.bytes.now
bytes-are c = are_bytes c.args.bytes.now (λ i. omega (arith, c.type_inv.bytes i))

-- the notes, whatever the answer is
listed : (c : After-decode_with_annotation)
    → c.decode_with_annotation.new.sink.kept ≡ notes (bytes_taken c.args.settings.now c.args.bytes.now)
listed c =
    let d = c.decode_with_annotation in
    noted c.args.settings.now c.args.bytes.now d.result c.new-words.result d.new.words d.new.instruction
    c.clear.new.self d.new.sink c.decode_answers.ensures.spelling (bytes-are c) c.new-words.ensures.left
    d.ensures.decoded d.ensures.slice d.ensures.answer d.ensures.noted c.clear.ensures.kept c.clear.ensures.whole

pub returns-in-Ok-clause-listed : goal.returns-in-Ok-clause-listed
returns-in-Ok-clause-listed c = listed (goal.at.returns-in-Ok-clause-listed c).After-decode_with_annotation

pub returns-in-Ok-clause-answer : goal.returns-in-Ok-clause-answer
returns-in-Ok-clause-answer c =
    c.in-Ok.ensures.answer (record c.new-words.result { since_mark = 0 }) c.decode_with_annotation.new.words refl refl
    ∙ ap (decode c.args.settings.now) c.new-words.ensures.left

pub returns-in-Ok-clause-spelled : goal.returns-in-Ok-clause-spelled
returns-in-Ok-clause-spelled c = (c.in-Ok.ensures.decoded.bytes, c.in-Ok.ensures.decoded.spells)

pub returns-in-Err-clause-listed : goal.returns-in-Err-clause-listed
returns-in-Err-clause-listed c = listed (goal.at.returns-in-Err-clause-listed c).After-decode_with_annotation

pub returns-in-Err-clause-answer : goal.returns-in-Err-clause-answer
returns-in-Err-clause-answer c =
    c.in-Err.ensures.answer (record c.new-words.result { since_mark = 0 }) c.decode_with_annotation.new.words refl refl
    ∙ ap (decode c.args.settings.now) c.new-words.ensures.left
