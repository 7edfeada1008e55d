use Rattle.std.specs.Prelude.{ℕ, ◌-◌, ◌/◌, ◌%◌, Bool, false, ◌==◌, List, Option, Some, None, Ok, Err, if◌then◌else◌}
use Rattle.std.specs.Prelude.{find}
use Rattle.x86_operand.specs.declared.error.DecodeError.TheVariants.{InvalidOpcode, Outside}
use Rattle.x86_address.specs.Reading.{Reading, ◌>>=◌, take_byte}
use Rattle.vex_rows.specs.declared.entry.Entry.{Entry}
use Rattle.vex_rows.specs.declared.key.Key.{Key}
use Rattle.vex_rows.specs.declared.key.Map.{Map}
use Rattle.vex_rows.specs.declared.key.Map.TheVariants.{Map0F, Map0F38, Map0F3A}
use Rattle.vex_rows.specs.declared.key.Pp.{Pp}
use Rattle.vex_rows.specs.declared.key.Pp.TheVariants.{Plain, Prefix66, PrefixF3, PrefixF2}
use Rattle.vex_rows.specs.Rules.{has_key}
use Rattle.vex_rows.specs.Table.{table}
use Rattle.vex_rows.specs.Row.{Row}
use Rattle.vex_forms.specs.Fields.{Fields}
use Rattle.vex_forms.specs.FormWalk.{Operands, walk_form, row_of}
use Rattle.vex_decode.specs.Fields.{PrefixForm, C4, C5}
use Rattle.vex_decode.specs.Spelling.{Syntax}

-- a bit of a byte that stands inverted
abbrev pub inverted : ℕ → Bool
inverted bit = bit == 0

-- the implied prefix of the number pp (Intel SDM volume 2, section 2.3.6.3)
abbrev pub pp_of : ℕ → Pp
pp_of pp = if pp == 0 then Plain else if pp == 1 then Prefix66 else if pp == 2 then PrefixF3 else PrefixF2

-- the opcode map of a number, which must be 1, 2 or 3 (Intel SDM volume 2, section 2.3.6.1)
abbrev pub map_of : ℕ → Option Map
map_of k = if k == 1 then Some Map0F else if k == 2 then Some Map0F38 else if k == 3 then Some Map0F3A else None

-- the fields of a two-byte prefix (Intel SDM volume 2, figure 2-9)
abbrev pub fields_of_two : ℕ → Fields
fields_of_two p = record {
  map = Map0F;
  pp = pp_of (p % 4);
  w = false;
  l = (p / 4) % 2;
  r = 1 - p / 128;
  x = false;
  b = false;
  v = 15 - (p / 8) % 16;
}

-- the fields of a three-byte prefix, of this map (Intel SDM volume 2, figure 2-9)
abbrev pub fields_of_three : Map → ℕ → ℕ → Fields
fields_of_three map p q = record {
  map = map;
  pp = pp_of (q % 4);
  w = q / 128 == 1;
  l = (q / 4) % 2;
  r = 1 - p / 128;
  x = inverted ((p / 64) % 2);
  b = inverted ((p / 32) % 2);
  v = 15 - (q / 8) % 16;
}

-- the fields of a three-byte prefix, whose map number is looked at once both bytes are there
abbrev pub fields_by_map : Option Map → ℕ → ℕ → List ℕ → Reading Fields
fields_by_map None p q rest = Err (InvalidOpcode, rest)
fields_by_map (Some map) p q rest = Ok (fields_of_three map p q, rest)

-- the bytes of a prefix after its first
abbrev pub read_fields : PrefixForm → List ℕ → Reading Fields
read_fields C5 bytes = do
  p ← take_byte bytes
  Ok (fields_of_two p.0, p.1)
read_fields C4 bytes = do
  p ← take_byte bytes
  q ← take_byte p.1
  fields_by_map (map_of (p.0 % 32)) p.0 q.0 q.1

-- the first byte says the form of the prefix (Intel SDM volume 2, section 2.3.5.1)
abbrev pub form_of : ℕ → List ℕ → Reading PrefixForm
form_of first rest = if first == 0xC5 then Ok (C5, rest) else if first == 0xC4 then Ok (C4, rest) else Err
    (Outside, rest)

-- the prefix: its first byte says its form
abbrev pub read_prefix : List ℕ → Reading (PrefixForm × Fields)
read_prefix bytes = do
  first ← take_byte bytes
  form ← form_of first.0 first.1
  fields ← read_fields form.0 form.1
  Ok ((form.0, fields.0), fields.1)

-- the key that prefix and opcode byte make
abbrev pub key_of : Fields → ℕ → Key
key_of f byte = record { map = f.map; pp = f.pp; byte = byte; w = f.w; l = f.l == 1 }

-- the entry of a key, the only one
unfoldable pub entry_of : Key → Option Entry
entry_of key = find (λ entry. has_key entry key) table

-- that entry, or the refusal where there is none; no byte is taken
abbrev pub found : Option Entry → List ℕ → Reading Entry
found None rest = Err (InvalidOpcode, rest)
found (Some entry) rest = Ok (entry, rest)

-- the parts of a spelling that were read
abbrev pub syntax_of : PrefixForm → Fields → Operands → Syntax
syntax_of form f operands = record {
  form = form;
  fields = f;
  reg = operands.reg;
  place = operands.place;
  imm = operands.imm;
}

-- all steps in order, but for the settings: prefix, opcode byte, entry, and the steps of its form
unfoldable pub walk : List ℕ → Reading (Row × Syntax)
walk bytes = do
  prefix ← read_prefix bytes
  byte ← take_byte prefix.1
  entry ← found (entry_of (key_of prefix.0.1 byte.0)) byte.1
  operands ← walk_form entry.0 prefix.0.1 entry.1
  Ok ((row_of entry.0 prefix.0.1 operands.0, syntax_of prefix.0.0 prefix.0.1 operands.0), operands.1)
