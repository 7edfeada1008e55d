-- What settings a run of instructions needs, and where it first needs each.
use Rattle.std.specs.Prelude.{ℕ, Bool, List, Option, Some, None, map, option_map, find}
use Rattle.std.specs.List.{filter_map, list_any, range_with_len}
use Rattle.x86_settings.specs.Bits.{all_bits}
use Rattle.x86_settings.specs.Sets.{is_among}
use Rattle.x86_permit.specs.LeastSettings.{least}
use Rattle.vex_encode.specs.Sweep.{Swept, SweptItem, swept}
use Rattle.vex_encode.specs.declared.sweeper.SweepEnd.{SweepEnd}
use Rattle.vex_encode.specs.declared.sweeper.SweepEnd.TheVariants.{End, Stopped}
use Rattle.vex_check.specs.declared.needs.First.{First}
use Rattle.vex_check.specs.declared.needs.RunCause.TheVariants.{Blocked, Marked}
use Rattle.vex_check.specs.declared.needs.RunFault.{RunFault}

-- a run of instructions: the sweep of its bytes under all settings
abbrev pub run : List ℕ → Swept
run bytes = swept all_bits bytes

-- whether an instruction has the EVEX mark
abbrev pub is_marked : SweptItem → Bool
is_marked item = item.decoded.meaning.evex

-- whether an instruction needs a bit of the settings, by its opcode
abbrev pub needs : ℕ → SweptItem → Bool
needs bit item = is_among (least item.decoded.meaning.opcode) bit

-- the settings with the bits that some instruction needs: the union of the least settings of all
unfoldable pub all_needed : List SweptItem → List Bool
all_needed items = map (λ bit. list_any (needs bit) items) (range_with_len 0 128)

-- an instruction, as the first that needs a bit
abbrev pub first_of : ℕ → SweptItem → First
first_of bit item = record { bit = bit; place = item.place; opcode = item.decoded.meaning.opcode }

-- the first instruction that needs a bit, where one does
abbrev pub first_needing : List SweptItem → ℕ → Option First
first_needing items bit = option_map (first_of bit) (find (needs bit) items)

-- the first instruction that needs each bit, in ascending order of the bits that are needed
unfoldable pub firsts : List SweptItem → List First
firsts items = filter_map (first_needing items) (range_with_len 0 128)

-- the fault of a run by how it ends: where it is stopped, the rest is blocked
abbrev pub end_fault : SweepEnd → Option RunFault
end_fault End = None
end_fault (Stopped place error) = Some (record { place = place; cause = Blocked error })

-- the fault of a run by its first marked instruction, and without one by its end
abbrev pub fault_by : Option SweptItem → SweepEnd → Option RunFault
fault_by None end = end_fault end
fault_by (Some item) end = Some (record { place = item.place; cause = Marked })

-- the first place of a run where the instruction is marked or the rest is blocked
abbrev pub fault : Swept → Option RunFault
fault swept = fault_by (find is_marked swept.items) swept.end
