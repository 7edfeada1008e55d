-- A sweep under any settings, by the sweep under all: it is stopped at the first instruction that isn't permitted.
use Rattle.std.proofs.Common.{◌≡◌, ℕ, zero, suc, ◌+◌, ◌-◌, Bool, true, false, not, List, [], ◌∷◌, Option}
use Rattle.std.proofs.Common.{Some, None, Result, Ok, Err, take, refl, sym, ap, ◌∙◌, arith, le_refl}
use Rattle.std.specs.Prelude.{All, cond, find, if◌then◌else◌}
use Rattle.std.proofs.lemmas.List.Elements.{All-cons, All-nil}
use Rattle.x86_opcode.specs.Vex.{is_vex}
use Rattle.x86_operand.specs.declared.error.DecodeError.{DecodeError}
use Rattle.x86_operand.specs.declared.error.DecodeError.TheVariants.{InvalidOpcode}
use Rattle.x86_operand.specs.Meaning.{Decoded, Meaning}
use Rattle.x86_settings.specs.Bits.{all_bits}
use Rattle.x86_permit.specs.Permission.{permits}
use Rattle.x86_permit.specs.Laws.{AllSettingsPermitAll}
use Rattle.x86_address.specs.Bytes.{IsBytes}
use Rattle.x86_address.specs.Reading.{Reading}
use Rattle.vex_rows.specs.Row.{Row, mark_of, opcode_of}
use Rattle.vex_forms.specs.FormWalk.{taken}
use Rattle.vex_forms.specs.Gives.{gives}
use Rattle.vex_decode.specs.Spelling.{Syntax, Spells, meant}
use Rattle.vex_decode.specs.Walk.{walk}
use Rattle.vex_decode.specs.Decode.{decoded_by, decode}
use Rattle.vex_decode.specs.Laws.{DecodeIsSpelling, VexOpcodes}
use Rattle.vex_encode.specs.declared.sweeper.SweepEnd.{SweepEnd}
use Rattle.vex_encode.specs.declared.sweeper.SweepEnd.TheVariants.{Stopped}
use Rattle.vex_encode.specs.Sweep.{Swept, SweptItem, item_at, swept_by, swept_from}
use Rattle.vex_check.proofs.Places.{Ascend, ascend-from}

-- whether settings permit an instruction of a run
abbrev pub is_permitted : List Bool → SweptItem → Bool
is_permitted settings item = permits settings item.decoded.meaning.evex item.decoded.meaning.opcode

-- ---- the first instruction of some bytes

-- what a decode takes, unless the settings don't permit it
refuse : List Bool → Result Decoded DecodeError → Result Decoded DecodeError
refuse settings (Ok decoded) = if permits settings decoded.meaning.evex decoded.meaning.opcode then Ok decoded else Err
    InvalidOpcode
refuse settings (Err error) = Err error

-- under any settings, by what it is under all
first-any : AllSettingsPermitAll → (settings : List Bool) (bytes : List ℕ)
    → decode settings bytes ≡ refuse settings (decode all_bits bytes)
unfolding decode refuse gives
first-any all settings bytes = by (walk bytes) where
  by : (reading : Reading (Row × Syntax))
      → decoded_by settings bytes reading ≡ refuse settings (decoded_by all_bits bytes reading)
  by (Err error) = refl
  by (Ok read) =
      ap (λ b. refuse settings
      (if b then Ok (record { meaning = meant read.0.0 read.0.1; len = taken bytes read.1 }) else Err InvalidOpcode))
      (sym (all (mark_of read.0.0) (opcode_of read.0.0)))

-- ---- a whole run

-- how a run ends where it is stopped at an instruction
abbrev pub end_at : Option SweptItem → SweepEnd → SweepEnd
end_at None end = end
end_at (Some item) end = Stopped item.place InvalidOpcode

-- the end of a sweep under any settings, by the run under all
abbrev pub cut_end : List Bool → Swept → SweepEnd
cut_end settings run = end_at (find (λ item. not (is_permitted settings item)) run.items) run.end

pub end-cut : AllSettingsPermitAll → (settings : List Bool) (k place : ℕ) (bytes : List ℕ)
    → (swept_from settings k place bytes).end ≡ cut_end settings (swept_from all_bits k place bytes)
unfolding swept_from refuse
end-cut all settings k place [] = refl
end-cut all settings (suc k) place (b ∷ bs) = end-cut all settings k (place + 1) bs
end-cut all settings zero place (b ∷ bs) =
    ap (λ first. (swept_by place (b ∷ bs) (λ decoded. swept_from settings (decoded.len - 1) (place + 1) bs) first).end)
    (first-any all settings (b ∷ bs))
    ∙ by (decode all_bits (b ∷ bs)) (λ decoded. end-cut all settings (decoded.len - 1) (place + 1) bs) where
      go : List Bool → Decoded → Swept
      go s decoded = swept_from s (decoded.len - 1) (place + 1) bs

      permitted : (decoded : Decoded) (p : Bool) → permits settings decoded.meaning.evex decoded.meaning.opcode ≡ p
          → (go settings decoded).end ≡ cut_end settings (go all_bits decoded)
          → (swept_by place (b ∷ bs) (go settings) (if p then Ok decoded else Err InvalidOpcode)).end
          ≡ end_at (cond (not p) (Some (item_at place (b ∷ bs) decoded))
          (find (λ item. not (is_permitted settings item)) (go all_bits decoded).items)) (go all_bits decoded).end
      permitted decoded true e later = later
      permitted decoded false e later = refl

      by : (first : Result Decoded DecodeError)
          → ((decoded : Decoded) → (go settings decoded).end ≡ cut_end settings (go all_bits decoded))
          → (swept_by place (b ∷ bs) (go settings) (refuse settings first)).end
          ≡ cut_end settings (swept_by place (b ∷ bs) (go all_bits) first)
      by (Err error) later = refl
      by (Ok decoded) later = permitted decoded (permits settings decoded.meaning.evex decoded.meaning.opcode) refl
          (later decoded)

-- the instructions of a run ascend
pub run-ascends : (settings : List Bool) (k place : ℕ) (bytes : List ℕ)
    → Ascend place (swept_from settings k place bytes).items
unfolding swept_from
run-ascends settings k place [] = tt
run-ascends settings (suc k) place (b ∷ bs) =
    ascend-from (place + 1) place (swept_from settings k (place + 1) bs).items (omega arith)
    (run-ascends settings k (place + 1) bs)
run-ascends settings zero place (b ∷ bs) =
    by (decode settings (b ∷ bs)) (λ decoded. run-ascends settings (decoded.len - 1) (place + 1) bs) where
      go : Decoded → Swept
      go decoded = swept_from settings (decoded.len - 1) (place + 1) bs

      by : (first : Result Decoded DecodeError) → ((decoded : Decoded) → Ascend (place + 1) (go decoded).items)
          → Ascend place (swept_by place (b ∷ bs) go first).items
      by (Err error) later = tt
      by (Ok decoded) later = (
        le_refl place,
        ascend-from (place + 1) place (go decoded).items (omega arith) (later decoded),
      )

-- an instruction's opcode is a VEX opcode
abbrev pub IsVex : SweptItem → Type 0
IsVex item = is_vex item.decoded.meaning.opcode ≡ true

-- what is spelled has a VEX opcode
pub spelled-vex : VexOpcodes → (bytes : List ℕ) (m : Meaning) → Spells bytes m → is_vex m.opcode ≡ true
unfolding gives
spelled-vex vex bytes m spells =
    ap (λ (n : Meaning). is_vex n.opcode) spells.by.means
    ∙ (vex (opcode_of spells.row)).1 (spells.row, spells.is_row, refl)

-- what a decode takes
first-vex : DecodeIsSpelling → VexOpcodes → (settings : List Bool) (bytes : List ℕ) → IsBytes bytes
    → (decoded : Decoded)
    → decode settings bytes ≡ Ok decoded → is_vex decoded.meaning.opcode ≡ true
first-vex law vex settings bytes is decoded e =
    spelled-vex vex (take decoded.len bytes) decoded.meaning ((law settings bytes decoded is).0 e).spells

pub run-vex : DecodeIsSpelling → VexOpcodes → (settings : List Bool) (k place : ℕ) (bytes : List ℕ) → IsBytes bytes
    → All IsVex (swept_from settings k place bytes).items
unfolding swept_from
run-vex read vex settings k place [] is = All-nil IsVex
run-vex read vex settings (suc k) place (b ∷ bs) is = run-vex read vex settings k (place + 1) bs is.1
run-vex read vex settings zero place (b ∷ bs) is =
    by (decode settings (b ∷ bs)) refl
    (λ decoded. run-vex read vex settings (decoded.len - 1) (place + 1) bs is.1) where
      go : Decoded → Swept
      go decoded = swept_from settings (decoded.len - 1) (place + 1) bs

      by : (first : Result Decoded DecodeError) → decode settings (b ∷ bs) ≡ first
          → ((decoded : Decoded) → All IsVex (go decoded).items)
          → All IsVex (swept_by place (b ∷ bs) go first).items
      by (Err error) e later = All-nil IsVex
      by (Ok decoded) e later =
          All-cons IsVex (item_at place (b ∷ bs) decoded) (go decoded).items
          (first-vex read vex settings (b ∷ bs) is decoded e) (later decoded)
