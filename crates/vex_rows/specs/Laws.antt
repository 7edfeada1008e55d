-- Laws of the entries and of the forms: each is the contract of a function in the module `laws`.
use Rattle.std.specs.Prelude.{◌≡◌, ℕ, ◌<◌, true, []}
use Rattle.x86_opcode.specs.declared.Opcode.{Opcode}
use Rattle.x86_opcode.specs.Number.{same_opcode}
use Rattle.vex_rows.specs.declared.entry.Entry.{Entry}
use Rattle.vex_rows.specs.declared.form.Form.{Form}
use Rattle.vex_rows.specs.declared.key.Key.{Key}
use Rattle.vex_rows.specs.Rules.{has_key}
use Rattle.vex_rows.specs.FormRows.{form_row, gathers}
use Rattle.vex_rows.specs.Steps.{steps}
use Rattle.vex_rows.specs.Groups.{groups}
use Rattle.vex_rows.specs.Table.{table}
use Rattle.vex_rows.specs.Row.{Row, Among, IsRow, opcode_of}
use Rattle.vex_rows.specs.Entries.{entries_with}
use Rattle.vex_rows.specs.WellFormed.{is_orderly, checks_address, out_of_order}

-- two entries of the table that have one key are one
abbrev pub KeysAreApart : Type 0
KeysAreApart = (a b : Entry) (key : Key) → Among a table → Among b table → has_key a key ≡ true → has_key b key ≡ true
    → a ≡ b

-- the entries stand in table order
abbrev pub TableIsInOrder : Type 0
TableIsInOrder = out_of_order table ≡ []

-- the entry of a row is one of the entries of the row's opcode
abbrev pub RowsHaveEntries : Type 0
RowsHaveEntries = (row : Row) → IsRow row → Among row.entry (entries_with (opcode_of row))

-- an entry of an opcode stands in the table and has a row that gives the opcode
abbrev pub EntriesHaveRows : Type 0
EntriesHaveRows = (entry : Entry) (opcode : Opcode) → Among entry (entries_with opcode)
    → Among entry table × ((row : Row) × IsRow row × (row.entry ≡ entry) × (same_opcode (opcode_of row) opcode ≡ true))

-- each row of the table of forms is that of the form which it names
abbrev pub FormsAreInOrder : Type 0
FormsAreInOrder = (form : Form) → (form_row form).form ≡ form

-- the steps of every form are in order
abbrev pub FormsAreOrderly : Type 0
FormsAreOrderly = (form : Form) → is_orderly (steps form) ≡ true

-- every form that gathers checks that there is an address
abbrev pub GathersAreChecked : Type 0
GathersAreChecked = (form : Form) → checks_address (gathers form) (steps form) ≡ true

-- every group is a value of a field of three bits
abbrev pub GroupsAreFields : Type 0
GroupsAreFields = (form : Form) (l : ℕ) (group : ℕ × Opcode) → Among group (groups form l) → group.0 < 8
