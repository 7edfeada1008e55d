-- What a sweep answers: one instruction after another, from the front of some bytes on.
pub mod Lemmas
use Rattle.std.specs.Prelude.{◌≡◌, ℕ, zero, suc, ◌+◌, ◌-◌, ◌<◌, Bool, true, List, [], ◌∷◌, length, take}
use Rattle.std.specs.Prelude.{drop, flat_map, Some, Result, Ok, Err, unwrap_or}
use Rattle.x86_operand.specs.declared.error.DecodeError.{DecodeError}
use Rattle.x86_operand.specs.Meaning.{Decoded}
use Rattle.x86_permit.specs.Permission.{permits}
use Rattle.vex_decode.specs.Spelling.{Spells}
use Rattle.vex_decode.specs.Blocked.{blocked}
use Rattle.vex_decode.specs.Decode.{decode}
use Rattle.vex_encode.specs.Canon.{canon}
use Rattle.vex_encode.specs.declared.sweeper.SweepEnd.{SweepEnd}
use Rattle.vex_encode.specs.declared.sweeper.SweepEnd.TheVariants.{End, Stopped}
use Rattle.vex_encode.specs.declared.sweeper.SweepItem.{SweepItem}

-- an instruction of a sweep: where it begins, the bytes that were read, their meaning and number, the canonical bytes
pub record SweptItem : Type 0 where
  pub place : ℕ
  pub bytes : List ℕ
  pub decoded : Decoded
  pub spelling : List ℕ

-- the instructions in order, and how the sweep ends
pub record Swept : Type 0 where
  pub items : List SweptItem
  pub end : SweepEnd

-- an item of the code's, as contracts see it
abbrev pub item_seen : SweepItem → SweptItem
item_seen item = record {
  place = item.place;
  bytes = item.bytes.now;
  decoded = item.instruction;
  spelling =
      item.spelling;
}

-- the bytes that were read, one item's after another's
abbrev pub joined : List SweptItem → List ℕ
joined items = flat_map (λ item. item.bytes) items

-- the item at a place, where these bytes begin with the spelling of a meaning
abbrev pub item_at : ℕ → List ℕ → Decoded → SweptItem
item_at place bytes decoded = record {
  place = place;
  bytes = take decoded.len bytes;
  decoded = decoded;
  spelling = unwrap_or (canon decoded.meaning) [];
}

-- a sweep with an item before the others
abbrev pub onto : SweptItem → Swept → Swept
onto item swept = record { items = item ∷ swept.items; end = swept.end }

-- a sweep by what its first bytes are: an error stops it at their place, and after an instruction it goes on
abbrev pub swept_by : ℕ → List ℕ → (Decoded → Swept) → Result Decoded DecodeError → Swept
swept_by place bytes go_on (Ok decoded) = onto (item_at place bytes decoded) (go_on decoded)
swept_by place bytes go_on (Err error) = record { items = []; end = Stopped place error }

-- the sweep of bytes that stand at a place, of which the first k belong to the instruction before
unfoldable pub swept_from : List Bool → ℕ → ℕ → List ℕ → Swept
swept_from settings k place [] = record { items = []; end = End }
swept_from settings (suc k) place (b ∷ bs) = swept_from settings k (place + 1) bs
swept_from settings zero place (b ∷ bs) =
    swept_by place (b ∷ bs) (λ decoded. swept_from settings (decoded.len - 1) (place + 1) bs)
    (decode settings (b ∷ bs))

-- the sweep of some bytes
abbrev pub swept : List Bool → List ℕ → Swept
swept settings bytes = swept_from settings 0 0 bytes

-- an item is a permitted instruction: its bytes spell its meaning, whose canonical bytes it has
pub record IsPermitted (settings : List Bool) (item : SweptItem) : Type 0 where
  pub spelled : Spells item.bytes item.decoded.meaning
  pub long : item.decoded.len ≡ length item.bytes
  pub permitted : permits settings item.decoded.meaning.evex item.decoded.meaning.opcode ≡ true
  pub canonical : canon item.decoded.meaning ≡ Some item.spelling

-- each item begins where the ones before it end
abbrev pub AreInPlace : ℕ → List SweptItem → Type 0
AreInPlace place [] = Unit {0}
AreInPlace place (item ∷ items) = (item.place ≡ place) × AreInPlace (place + length item.bytes) items

-- how a sweep ends after these bytes: there are no others, or the rest isn't empty and an error blocks it
abbrev pub EndsAfter : List Bool → List ℕ → List ℕ → SweepEnd → Type 0
EndsAfter settings front bytes End = bytes ≡ front
EndsAfter settings front bytes (Stopped place error) =
    (place ≡ length front) × (place < length bytes)
    × ((n : ℕ) × (blocked settings (drop place bytes) ≡ Some (error, n)))
