use Rattle.x86_address.proofs.Taken.{if_taken, if_byte_refused, on_byte_refused}
use Rattle.x86_address.specs.Follows.Lemmas.{over_slice}
use Rattle.x86_address.proofs.decode.read_modrm.Goals as goal

pub returns-clause-taken : goal.returns-clause-taken
returns-clause-taken g c = if_taken c.read_byte.result c.read_byte.ensures

pub returns-clause-error : goal.returns-clause-error
returns-clause-error g c = if_byte_refused c.read_byte.result c.read_byte.ensures

pub returns-clause-refused : goal.returns-clause-refused
returns-clause-refused g c = on_byte_refused c.read_byte.result c.read_byte.ensures

pub returns-clause-slice : goal.returns-clause-slice
returns-clause-slice g c = over_slice c.read_byte.result c.read_byte.ensures
