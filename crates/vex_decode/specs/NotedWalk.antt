-- The steps of a decode with their notes. Private functions alone cite what stands here.
use Rattle.std.specs.Prelude.{◌≡◌, ℕ, ◌%◌, List, Option, Some, None, Ok, Err}
use Rattle.x86_operand.specs.declared.error.DecodeError.TheVariants.{InvalidOpcode}
use Rattle.x86_operand.specs.declared.note.FieldDescription.{FieldDescription}
use Rattle.x86_operand.specs.Meaning.{Decoded}
use Rattle.x86_address.specs.Reading.{Reading, ◌>>=◌, take_byte}
use Rattle.vex_rows.specs.declared.entry.Entry.{Entry}
use Rattle.vex_rows.specs.declared.key.Map.{Map}
use Rattle.vex_rows.specs.declared.key.Prefix.{Prefix}
use Rattle.vex_rows.specs.Row.{Row, Among}
use Rattle.vex_rows.specs.Table.{table}
use Rattle.vex_forms.specs.Reads.{HasPrefix}
use Rattle.vex_forms.specs.Fields.{Fields, fields_of}
use Rattle.vex_forms.specs.FormWalk.{walk_form, row_of}
use Rattle.vex_decode.specs.Fields.{PrefixForm, C4, C5}
use Rattle.vex_decode.specs.Spelling.{Syntax, meant}
use Rattle.vex_decode.specs.Walk.{map_of, fields_of_two, fields_of_three, form_of, key_of, entry_of, found, syntax_of}
use Rattle.vex_decode.specs.Notes.{two_byte_notes, map_notes, three_byte_notes, opcode_notes}
use Rattle.vex_decode.specs.Noting.{Noting, ◌>>◌, silent, noting}

-- a step of a decode
abbrev pub Step : Type 0 → Type 0
Step A = Noting FieldDescription A

-- the fields of a three-byte prefix, where there is a map of its number
abbrev pub noted_by_map : Option Map → ℕ → ℕ → Step Fields
noted_by_map None p q = silent (λ bytes. Err (InvalidOpcode, bytes))
noted_by_map (Some map) p q = noting (three_byte_notes p q) (silent (λ bytes. Ok (fields_of_three map p q, bytes)))

-- the bytes of a prefix after its first
abbrev pub noted_fields : PrefixForm → Step Fields
noted_fields C5 = silent take_byte >> (λ p. noting (two_byte_notes p) (silent (λ bytes. Ok (fields_of_two p, bytes))))
noted_fields C4 = silent take_byte >> (λ p. silent take_byte >>
    (λ q. noting (map_notes p q) (noted_by_map (map_of (p % 32)) p q)))

-- the steps of an entry's form, and the row that they choose
abbrev pub walk_row : PrefixForm → Fields → Entry → List ℕ → Reading (Row × Syntax)
walk_row form f entry bytes = do
  operands ← walk_form entry f bytes
  Ok ((row_of entry f operands.0, syntax_of form f operands.0), operands.1)

-- the bytes after a prefix
abbrev pub noted_opcode : PrefixForm → Fields → Step (Row × Syntax)
noted_opcode form f =
    silent take_byte >> (λ byte. silent (found (entry_of (key_of f byte))) >>
    (λ entry. noting (opcode_notes form entry) (silent (walk_row form f entry))))

-- the bytes after the first
abbrev pub noted_rest : PrefixForm → Step (Row × Syntax)
noted_rest form = noted_fields form >> noted_opcode form

-- all bytes
abbrev pub noted_walk : Step (Row × Syntax)
noted_walk = silent take_byte >> (λ first. silent (form_of first) >> noted_rest)

-- the fields are those that the code keeps
abbrev pub AreFields : Fields → Prefix → Type 0
AreFields f prefix = fields_of prefix ≡ f

-- the instruction means what the parts of the spelling mean, and has no length yet
pub record IsMeant (read : Row × Syntax) (decoded : Decoded) : Type 0 where
  pub meaning : decoded.meaning ≡ meant read.0 read.1
  pub length : decoded.len ≡ 0

-- the entry is one of the table, and has the key that prefix and opcode byte make
pub record HasEntry (prefix : Prefix) (byte : ℕ) (entry : Entry) : Type 0 where
  pub listed : Among entry table
  pub chosen : HasPrefix entry (fields_of prefix)
