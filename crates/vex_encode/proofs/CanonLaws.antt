-- The laws of canonical bytes.
use Rattle.std.specs.Prelude.{◌≡◌, refl, ℕ, List, [], length, take, drop, Option, Some, None}
use Rattle.std.proofs.Common.{ap, sym, ◌∙◌, subst, append-nil, take-append-drop}
use Rattle.std.proofs.lemmas.List.{length-take-le}
use Rattle.x86_operand.specs.Meaning.{Meaning}
use Rattle.vex_rows.specs.Row.{Row, IsRow}
use Rattle.vex_decode.specs.Spelling.{SpellsBy, Spells}
use Rattle.vex_decode.specs.Laws.{PrefixFree, OneMeaning, SpellingBytes, BlockedOrBegun}
use Rattle.vex_encode.specs.Standard.{standard}
use Rattle.vex_encode.specs.Canon.{canon}
use Rattle.vex_encode.specs.Laws.{CanonicalTellsApart, Shortest, CanonicalNotBlocked, CanonicalDecodes, CanonicalAgain}
use Rattle.vex_encode.specs.Laws.{StandardIsNone}
use Rattle.vex_encode.proofs.Standard.{standard_there, standard_spells}
use Rattle.vex_encode.proofs.Canon.{canon_spells, canon_least}

pub shortest : Shortest
shortest bytes m spells =
    let least = canon_least m bytes spells in
    record { canonical = least.0; is = least.1; spells = canon_spells m least.0 least.1; no_longer = least.2 }

-- the canonical bytes of the one spell the other
same_meaning : OneMeaning → (a : List ℕ) (m n : Meaning) → Spells a m → canon m ≡ canon n → m ≡ n
same_meaning one a m n spells e =
    let has = shortest a m spells in
    one has.canonical m n has.spells (canon_spells n has.canonical (sym e ∙ has.is))

pub canonical_tells_apart : OneMeaning → CanonicalTellsApart
canonical_tells_apart one a b m n p q = (same_meaning one a m n p, ap canon)

pub canonical_not_blocked : BlockedOrBegun → SpellingBytes → CanonicalNotBlocked
canonical_not_blocked begun bytes settings m c permitted e =
    let spells = canon_spells m c e in
    (begun settings c (bytes c m spells)).1
    (record { front = c; begins = ([], sym (append-nil c)); m = m; spells = spells; permitted = permitted })

-- a decode of canonical bytes takes them all
pub canonical_decodes : PrefixFree → OneMeaning → CanonicalDecodes
canonical_decodes free one settings m n c len e decodes =
    let spells = canon_spells m c e in
    let front = free (take len c) c n m decodes.spells spells (drop len c, sym (take-append-drop len c)) in (
      one c n m (subst (λ b. Spells b n) front decodes.spells) spells,
      sym (length-take-le len c decodes.within) ∙ ap length front,
    )

-- what canonical bytes spell is what they are canonical of
pub canonical_again : OneMeaning → CanonicalAgain
canonical_again one m n c e spells = ap canon (one c n m spells (canon_spells m c e)) ∙ e

-- where anything of the row spells a meaning, its standard bytes are there
never_spelled : (row : Row) (m : Meaning) → IsRow row → standard row m ≡ None → (bytes : List ℕ) → SpellsBy bytes m row
    → ⊥
never_spelled row m is_row none bytes by = let there = standard_there row m is_row bytes by in cc

-- standard bytes spell the meaning by the row
none_there : (row : Row) (m : Meaning) → IsRow row → ((bytes : List ℕ) → SpellsBy bytes m row → ⊥)
    → standard row m ≡ None
none_there row m is_row never = by (standard row m) refl where
  by : (o : Option (List ℕ)) → standard row m ≡ o → o ≡ None
  by None e = refl
  by (Some bytes) e = absurd (never bytes (standard_spells row m is_row bytes e))

pub standard_is_none : StandardIsNone
standard_is_none row m is_row = (never_spelled row m is_row, none_there row m is_row)
