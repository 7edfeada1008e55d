-- The bytes that spell a target: they are the bytes of one place.
use Rattle.std.proofs.Common.{◌≡◌, ◌≢◌, ◌⊎◌, inl, inr, ⊎_elim, ℕ, ◌<◌, ◌≤◌, Bool, true, List, [], ◌++◌, length, refl}
use Rattle.std.proofs.Common.{sym, ap, ◌∙◌, subst, subst₂, append-nil}
use Rattle.x86_operand.specs.Kind.{Kind, WithoutModRM, InRegister, InMemory, is_vector, plain_kind}
use Rattle.x86_address.specs.Place.{Place, NoPlace, IsPlace, kind_of, mod_of, rm_of, tail_of, place_bytes, Target}
use Rattle.x86_address.specs.Place.{kind_of_target, target_in, SpellsTargetIn}
use Rattle.x86_address.specs.Shortest.{shortest_in, x_of, b_of, IsSpellable}
use Rattle.x86_address.specs.Laws.{OnlySpellable, ShortestSpells, ShortestIsLeast, XIsFixed, BIsFixed, DemandedIsSet}
use Rattle.x86_address.specs.Laws.{ReadingFails, OnePlace, OneReading}
use Rattle.x86_address.specs.Bytes.Lemmas.{same_fields}
use Rattle.x86_address.specs.Reading.Lemmas.{same_read}
use Rattle.x86_address.specs.Reading.Places.{take_place-again, take_place-fails, same_parts}
use Rattle.x86_address.specs.Place.Lemmas.{vector_in_memory, plain_without, has_modrm, place_bytes_split, rm_of_below}
use Rattle.x86_address.specs.Place.Lemmas.{place_bytes_none}
use Rattle.x86_address.specs.Shortest.Lemmas.{is_place-shortest, kind_of-shortest, kind_of_target-target}
use Rattle.x86_address.specs.Shortest.Lemmas.{names-shortest}
use Rattle.x86_address.specs.Shortest.Lemmas.{sib-shortest, IsSpellable-target, shortest-least, x_fixed_or_ignored}
use Rattle.x86_address.specs.Shortest.Lemmas.{b_fixed_or_ignored, x_of-target, b_of-target}

-- what bytes spell is in range, and of their kind
pub only_spellable : OnlySpellable
only_spellable unit bytes kind reg x b e is s =
    subst (λ e. (kind_of_target e ≡ plain_kind kind) × IsSpellable (is_vector kind) e) (sym s.names) (
      kind_of_target-target unit (is_vector kind) s.place x b ∙ s.is_kind.plain,
      IsSpellable-target (is_vector kind) s.place x b is s.is_place s.is_kind.sib,
    )

-- the shortest place spells what can be spelled
pub shortest_spells : ShortestSpells
shortest_spells unit kind reg e is below k ok = record {
  is_reg = below;
  place = shortest_in unit e;
  is_place = is_place-shortest e is;
  is_kind = record {
    plain = kind_of-shortest unit e ∙ k;
    sib = λ vector. sib-shortest unit e (k ∙ vector_in_memory kind vector) (subst (λ v. IsSpellable v e) vector ok);
  };
  written = refl;
  names = sym (names-shortest (is_vector kind) e is ok);
}

-- no bytes that spell it are fewer
pub shortest_is_least : ShortestIsLeast
shortest_is_least unit bytes kind reg other x b e is s =
    subst₂ (λ e bytes. length (place_bytes other (shortest_in unit e)) ≤ length bytes) (sym s.names) (sym s.written)
    (shortest-least (is_vector kind) s.place x b other reg is s.is_place)

-- the same bytes with other bits, where they name the same
spells_with : (unit : ℕ) (bytes : List ℕ) (kind : Kind) (reg : ℕ) (x b x' b' : Bool) (e : Target)
    → (s : SpellsTargetIn unit bytes kind reg x b e)
    → target_in unit (is_vector kind) s.place x' b' ≡ target_in unit (is_vector kind) s.place x b
    → SpellsTargetIn unit bytes kind reg x' b' e
spells_with unit bytes kind reg x b x' b' e s same = record {
  is_reg = s.is_reg;
  place = s.place;
  is_place = s.is_place;
  is_kind = s.is_kind;
  written = s.written;
  names = s.names ∙ sym same;
}

-- X is as the target demands, or plays no part
pub x_is_fixed : XIsFixed
x_is_fixed unit bytes kind reg x b e s =
    ⊎_elim (λ ignored. inr (λ other. spells_with unit bytes kind reg x b other b e s (ignored other)))
    (λ fixed. inl (sym fixed ∙ ap x_of (sym s.names))) (x_fixed_or_ignored unit (is_vector kind) s.place x b s.is_place)

-- B is as the target demands, or plays no part
pub b_is_fixed : BIsFixed
b_is_fixed unit bytes kind reg x b e s =
    ⊎_elim (λ ignored. inr (λ other. spells_with unit bytes kind reg x b x other e s (ignored other)))
    (λ fixed. inl (sym fixed ∙ ap b_of (sym s.names))) (b_fixed_or_ignored unit (is_vector kind) s.place x b s.is_place)

-- a bit that is demanded is 1
pub demanded_is_set : DemandedIsSet
demanded_is_set unit bytes kind reg x b e s =
    subst (λ e. (x_of e ≡ true → x ≡ true) × (b_of e ≡ true → b ≡ true)) (sym s.names)
    (x_of-target unit (is_vector kind) s.place x b s.is_place, b_of-target unit (is_vector kind) s.place x b s.is_place)

-- places that are read from one string by one mod and rm are one
same_place : (p p' : Place) (rest rest' : List ℕ) → IsPlace p → IsPlace p'
    → (kind_of p ≡ InRegister) ⊎ (kind_of p ≡ InMemory) → (kind_of p' ≡ InRegister) ⊎ (kind_of p' ≡ InMemory)
    → mod_of p ≡ mod_of p' → rm_of p ≡ rm_of p' → tail_of p ++ rest ≡ tail_of p' ++ rest' → (p ≡ p') × (rest ≡ rest')
same_place p p' rest rest' ok ok' has has' mods rms tails =
    let one = same_read {x = (p, rest)} {y = (p', rest')}
    (sym (take_place-again p rest ok has) ∙ rw (mods, rms, tails) (take_place-again p' rest' ok' has')) in
    (ap (λ read. read.0) one, ap (λ read. read.1) one)

-- places with a ModRM byte whose bytes begin one string are one, with one reg field
pub place_bytes-prefix : (reg reg' : ℕ) (p p' : Place) (rest rest' : List ℕ) → reg < 8 → reg' < 8 → IsPlace p
    → IsPlace p' → (kind_of p ≡ InRegister) ⊎ (kind_of p ≡ InMemory)
    → (kind_of p' ≡ InRegister) ⊎ (kind_of p' ≡ InMemory) → place_bytes reg p ++ rest ≡ place_bytes reg' p' ++ rest'
    → (reg ≡ reg') × (p ≡ p') × (rest ≡ rest')
place_bytes-prefix reg reg' p p' rest rest' below below' ok ok' has has' same =
    let parts = same_parts _ _ (tail_of p ++ rest) (tail_of p' ++ rest')
    (subst₂ (λ bytes others. bytes ++ rest ≡ others ++ rest') (place_bytes_split reg p has)
    (place_bytes_split reg' p' has') same) in
    let fields = same_fields (mod_of p) reg (rm_of p) (mod_of p') reg' (rm_of p') below (rm_of_below p ok) below'
    (rm_of_below p' ok') parts.0 in
    let one = same_place p p' rest rest' ok ok' has has' fields.0 fields.2 parts.1 in
    (fields.1, one.0, one.1)

-- places of the same bytes are one
pub one_place : OnePlace
one_place reg reg' NoPlace NoPlace below below' ok ok' same = refl
one_place reg reg' NoPlace p' below below' ok ok' same = cc
one_place reg reg' p NoPlace below below' ok ok' same = cc
one_place reg reg' p p' below below' ok ok' same =
    (place_bytes-prefix reg reg' p p' [] [] below below' ok ok' (has_modrm p (λ e. cc)) (has_modrm p' (λ e. cc))
    (ap (λ bytes. bytes ++ []) same)).1

-- a string that begins with a ModRM byte is that of no place without
modrm_follows : (reg reg' : ℕ) (p p' : Place) (more : List ℕ) → (kind_of p ≡ InRegister) ⊎ (kind_of p ≡ InMemory)
    → place_bytes reg p ++ more ≡ place_bytes reg' p' → kind_of p' ≢ WithoutModRM
modrm_follows reg reg' p p' more has same none =
    let empty = subst₂ (λ bytes others. bytes ++ more ≡ others) (place_bytes_split reg p has)
    (place_bytes_none reg' p' none) same in
    cc empty

-- address bytes begin no other's, and name one target
pub one_reading : OneReading
one_reading unit bytes more kind kind' reg reg' x b e e' modrm s s' =
    let has = has_modrm s.place (λ none. modrm (plain_without kind (sym s.is_kind.plain ∙ none))) in
    let same = ap (λ bytes. bytes ++ more) (sym s.written) ∙ s'.written in
    let has' = has_modrm s'.place (modrm_follows reg reg' s.place s'.place more has same) in
    let one = place_bytes-prefix reg reg' s.place s'.place more [] s.is_reg s'.is_reg s.is_place s'.is_place has has'
    (same ∙ sym (append-nil _)) in (
      one.2,
      one.0,
      sym s.is_kind.plain ∙ ap kind_of one.1 ∙ s'.is_kind.plain,
      λ kinds. s.names ∙ ap (λ p. target_in unit (is_vector kind) p x b) one.1
          ∙ ap (λ k. target_in unit (is_vector k) s'.place x b) kinds ∙ sym s'.names,
    )

-- reading fails only where no byte is left
pub reading_fails : ReadingFails
reading_fails mode rm bytes error h = take_place-fails mode rm bytes error h
