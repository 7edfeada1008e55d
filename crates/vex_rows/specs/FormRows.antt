pub mod Lemmas
use Rattle.std.specs.Prelude.{Bool, List, slice_index_or}
use denote.Enum.Declared.{tag_of}
use Rattle.x86_opcode.specs.declared.Opcode.{Opcode}
use Rattle.vex_rows.specs.contracts.form.Form.{the_type}
use Rattle.vex_rows.specs.declared.form.Form.{Form}
use Rattle.vex_rows.specs.declared.form_row.ByteCount.{ByteCount}
use Rattle.vex_rows.specs.declared.form_row.FormRow.{FormRow}
use Rattle.vex_rows.specs.declared.form_row.SizeList.{SizeList}
use Rattle.vex_rows.specs.declared.form_row.SizeList.TheVariants.{Extract, Insert, Store, Load, Convert, Widen}
use Rattle.vex_rows.specs.declared.form_row.SizeList.TheVariants.{Broadcast, Scalar, ScalarImmediate, Half, Move}
use Rattle.vex_rows.specs.declared.form_row.SizeList.TheVariants.{Gather}
use Rattle.vex_rows.specs.declared.forms.TheConstants.{FORMS, ALONE}
use Rattle.vex_rows.specs.declared.sizes.TheConstants.{EXTRACT, INSERT, STORE, LOAD, CONVERT, WIDEN, BROADCAST, SCALAR}
use Rattle.vex_rows.specs.declared.sizes.TheConstants.{SCALAR_IMMEDIATE, HALF, MOVE, GATHER}

-- what the table of forms says of a form: the row at its place
unfoldable pub form_row : Form → FormRow
form_row form = slice_index_or FORMS (tag_of the_type form) ALONE

-- whether the address of a form is a vector of addresses (Intel SDM volume 2, section 2.3.12)
unfoldable pub gathers : Form → Bool
gathers form = (form_row form).gathers

-- the opcodes of a list, each with the number of its bytes
unfoldable pub sizes : SizeList → List (Opcode × ByteCount)
sizes Extract = EXTRACT.now
sizes Insert = INSERT.now
sizes Store = STORE.now
sizes Load = LOAD.now
sizes Convert = CONVERT.now
sizes Widen = WIDEN.now
sizes Broadcast = BROADCAST.now
sizes Scalar = SCALAR.now
sizes ScalarImmediate = SCALAR_IMMEDIATE.now
sizes Half = HALF.now
sizes Move = MOVE.now
sizes Gather = GATHER.now
