-- The memory of a machine, lent.
use Rattle.std.specs.Prelude.{ℕ, List, []}
use Rattle.std.specs.Borrow.{Lends, MutBor, Fml, Array, u8}
use mir.Syntax.{named}
use Rattle.vex_emul.specs.Machine.{State}
use Rattle.vex_emul.specs.contracts.machine.Machine.{the_row}

-- the state with this memory, and all else as it was
abbrev pub with_memory : State → List ℕ → State
with_memory s memory = record s { memory = memory }

-- the machine ends with the bytes that are left in the lent memory, and all else as it was
abbrev pub LendsMemory : MutBor State → MutBor (List ℕ) → Fml
LendsMemory s r = Lends (the_row (record { mir = named 1; lft = [] })) (Array u8 0) s r (with_memory s.now)
