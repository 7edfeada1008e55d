-- Laws of the slots and of the rows: each is the contract of a function in the module `laws`.
use Rattle.std.specs.Prelude.{◌≡◌, ℕ, ◌<◌, ◌≤◌, Bool, true, length}
use Rattle.vex_rows.specs.declared.entry.Entry.{Entry}
use Rattle.vex_rows.specs.Table.{table}
use Rattle.vex_rows.specs.Row.{Row, Among, IsRow, exists}
use Rattle.vex_forms.specs.Layout.{may_be, row_for}
use Rattle.vex_forms.specs.Slots.{slots}
use Rattle.vex_forms.specs.WellFormed.{is_sound}

-- a row has at most four slots
abbrev pub SlotsAreFew : Type 0
SlotsAreFew = (row : Row) → length (slots row) ≤ 4

-- the slots of every row fit its steps
abbrev pub SlotsFitSteps : Type 0
SlotsFitSteps = (row : Row) → is_sound row.entry.form row ≡ true

-- a row is that of its entry at some W, L, kind and reg field
pub record IsChoice (row : Row) : Type 0 where
  pub l : Bool
  pub memory : Bool
  pub group : ℕ
  pub small : group < 8
  pub row_is : row ≡ row_for row.entry row.w l memory group
  pub may_be : may_be row.entry memory ≡ true

-- every row is a choice of its entry
abbrev pub RowsAreChoices : Type 0
RowsAreChoices = (row : Row) → IsRow row → IsChoice row

-- and what an entry of the table has there is a row, where it can be and exists
abbrev pub ChoicesAreRows : Type 0
ChoicesAreRows =
    (entry : Entry) (w l memory : Bool) (group : ℕ) → Among entry table → may_be entry memory ≡ true
    → exists (row_for entry w l memory group) ≡ true → IsRow (row_for entry w l memory group)
