-- The notes on given bytes, computed.
use Rattle.std.specs.Prelude.{◌≡◌, refl, [], ◌∷◌}
use Rattle.x86_opcode.specs.declared.IntegerOpcode.TheVariants.{VZEROUPPER}
use Rattle.x86_opcode.specs.declared.Opcode.TheVariants.{Integer}
use Rattle.x86_operand.specs.declared.note.Note.TheVariants.{P0, MOther, R0, W1, PrefixEnd, OpcodeEnd}
use Rattle.x86_operand.specs.declared.note.InnerDescription.TheVariants.{Misc, RegisterNumber, Opcode, Boundary}
use Rattle.x86_operand.specs.declared.register.RegisterBank.TheVariants.{X}
use Rattle.vex_rows.specs.Rules.{has_key}
use Rattle.vex_rows.specs.Table.{table}
use Rattle.vex_decode.specs.Walk.{entry_of}
use Rattle.vex_decode.specs.Notes.{note_at, notes}

-- `VZEROUPPER`
vzeroupper : notes (0xC5 ∷ 0xF8 ∷ 0x77 ∷ [])
    ≡ note_at 8 9 8 (Misc P0)
    ∷ note_at 11 14 10 (RegisterNumber 0 (record { bank = X; num = 0 }))
    ∷ note_at 10 10 9 (Misc R0)
    ∷ note_at 15 15 9 (Misc W1)
    ∷ note_at 23 23 23 (Boundary PrefixEnd)
    ∷ note_at 16 23 16 (Opcode (Integer VZEROUPPER))
    ∷ note_at 23 23 23 (Boundary OpcodeEnd)
    ∷ []
unfolding entry_of has_key table
vzeroupper = refl

-- a map number that names no map
no_map : notes (0xC4 ∷ 0xE0 ∷ 0x78 ∷ []) ≡ note_at 16 17 8 (Misc P0) ∷ note_at 8 12 8 (Misc MOther) ∷ []
no_map = refl

-- a prefix that isn't whole
cut : notes (0xC4 ∷ 0xE1 ∷ []) ≡ []
cut = refl

outside : notes (0x33 ∷ 0xC0 ∷ []) ≡ []
outside = refl
