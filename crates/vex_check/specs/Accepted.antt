-- What the needs of a run say of its sweep under any settings.
use Rattle.std.specs.Prelude.{◌≡◌, ◌↔◌, ℕ, ◌≤◌, Bool, false, not, ◌||◌, List, length, All, Contains, None}
use Rattle.std.specs.List.{list_all, range_with_len}
use Rattle.x86_operand.specs.declared.error.DecodeError.TheVariants.{InvalidOpcode}
use Rattle.x86_settings.specs.Bits.{is_set}
use Rattle.x86_address.specs.Bytes.{IsBytes}
use Rattle.vex_decode.specs.Laws.{AreWithin}
use Rattle.vex_encode.specs.Sweep.{swept}
use Rattle.vex_encode.specs.declared.sweeper.SweepEnd.TheVariants.{End, Stopped}
use Rattle.vex_check.specs.declared.needs.First.{First}
use Rattle.vex_check.specs.Needs.{all_needed, fault, firsts, run}

-- whether settings have every bit that is wanted, as `AreWithin` says it of the two
unfoldable pub covers : List Bool → List Bool → Bool
covers settings wanted = list_all (λ bit. not (is_set wanted bit) || is_set settings bit)
    (range_with_len 0 (length wanted))

-- a sweep under any settings ends after all bytes exactly where the settings have every bit that is wanted
abbrev pub EndsWhereCovered : List ℕ → List Bool → Type 0
EndsWhereCovered bytes wanted = (settings : List Bool) → AreWithin wanted settings ↔ ((swept settings bytes).end ≡ End)

-- the least place among these whose bit the settings lack
pub record IsLeastLack (settings : List Bool) (firsts : List First) (place : ℕ) : Type 0 where
  pub first : First
  pub among : Contains firsts first
  pub lacked : is_set settings first.bit ≡ false
  pub here : first.place ≡ place
  pub least : All (λ (other : First). is_set settings other.bit ≡ false → place ≤ other.place) firsts

-- the sweep is stopped at that place, since the opcode there isn't permitted
pub record StopsAtLack (settings : List Bool) (bytes : List ℕ) (firsts : List First) : Type 0 where
  pub place : ℕ
  pub stopped : (swept settings bytes).end ≡ Stopped place InvalidOpcode
  pub lack : IsLeastLack settings firsts place

-- a sweep under settings that lack a bit that is wanted is stopped at the first place that needs such a bit
abbrev pub StopsAtLeastLack : List ℕ → List Bool → List First → Type 0
StopsAtLeastLack bytes wanted firsts = (settings : List Bool) → (AreWithin wanted settings → ⊥)
    → StopsAtLack settings bytes firsts

-- ---- the law of runs

-- where a run has no fault, the bits that its instructions need say under which settings its sweep ends
abbrev pub NeedsSayWhoAccepts : Type 0
NeedsSayWhoAccepts = (bytes : List ℕ) → IsBytes bytes → fault (run bytes) ≡ None
    → EndsWhereCovered bytes (all_needed (run bytes).items)

-- and the first places that need them say where its sweep is stopped under all others
abbrev pub NeedsSayWhereOthersStop : Type 0
NeedsSayWhereOthersStop =
    (bytes : List ℕ) → IsBytes bytes → fault (run bytes) ≡ None
    → StopsAtLeastLack bytes (all_needed (run bytes).items) (firsts (run bytes).items)
