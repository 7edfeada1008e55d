-- The notes of the steps of a decode are those on the bytes that it takes, and its answer is that of the walk.
use Rattle.std.specs.Prelude.{◌≡◌, ◌≢◌, refl, ℕ, ◌≤◌, ◌==◌, ◌%◌, Bool, true, false, List, [], ◌∷◌, ◌++◌, length, Option}
use Rattle.std.specs.Prelude.{Some, None, Ok, Err, if◌then◌else◌}
use Rattle.std.proofs.Common.{arith, ap, sym, ◌∙◌}
use Rattle.x86_operand.specs.declared.error.DecodeError.TheVariants.{Outside}
use Rattle.x86_address.specs.Reading.{Reading, ◌>>=◌, take_byte}
use Rattle.vex_rows.specs.declared.entry.Entry.{Entry}
use Rattle.vex_rows.specs.declared.key.Map.{Map}
use Rattle.vex_forms.specs.Fields.{Fields}
use Rattle.vex_decode.specs.Fields.{PrefixForm, C4, C5}
use Rattle.vex_decode.specs.Walk.{map_of, fields_of_two, fields_of_three, fields_by_map, read_fields, form_of, key_of}
use Rattle.vex_decode.specs.Walk.{entry_of, found, walk}
use Rattle.vex_decode.specs.Notes.{found_notes, notes_on_opcode, notes_on_two, notes_by_map, notes_on_three, notes}
use Rattle.vex_decode.specs.Notes.{two_byte_notes, map_notes, three_byte_notes, opcode_notes}
use Rattle.vex_decode.specs.Noting.{◌>>◌, silent, noting}
use Rattle.vex_decode.specs.NotedWalk.{noted_by_map, noted_fields, walk_row, noted_opcode, noted_rest, noted_walk}
use Rattle.vex_decode.proofs.Fronts.{walk_on, rest_of}
use Rattle.vex_decode.proofs.Refusing.{not_equal}
use Rattle.vex_decode.proofs.Recording.{Erases, erases_silent, erases_noted, erases_then}

-- ---- the notes

found_noted : (form : PrefixForm) (f : Fields) (entry : Option Entry) (bytes : List ℕ)
    → ((silent (found entry) >> (λ entry. noting (opcode_notes form entry) (silent (walk_row form f entry)))) bytes).0
    ≡ found_notes form entry
found_noted form f None bytes = refl
found_noted form f (Some entry) bytes = refl

opcode_noted : (form : PrefixForm) (f : Fields) (bytes : List ℕ)
    → (noted_opcode form f bytes).0 ≡ notes_on_opcode form f bytes
opcode_noted form f [] = refl
opcode_noted form f (byte ∷ rest) = found_noted form f (entry_of (key_of f byte)) rest

two_noted : (bytes : List ℕ) → (noted_rest C5 bytes).0 ≡ notes_on_two bytes
two_noted [] = refl
two_noted (p ∷ rest) = ap (λ more. two_byte_notes p ++ more) (opcode_noted C5 (fields_of_two p) rest)

three_noted : (bytes : List ℕ) → (noted_rest C4 bytes).0 ≡ notes_on_three bytes
three_noted [] = refl
three_noted (p ∷ []) = refl
three_noted (p ∷ q ∷ rest) = by (map_of (p % 32)) where
  by : (map : Option Map) → ((noting (map_notes p q) (noted_by_map map p q) >> noted_opcode C4) rest).0
      ≡ map_notes p q ++ notes_by_map map p q rest
  by None = refl
  by (Some map) = ap (λ more. map_notes p q ++ (three_byte_notes p q ++ more))
      (opcode_noted C4 (fields_of_three map p q) rest)

-- those of the bytes after the first
pub two_byte_rest : (bytes : List ℕ) → (noted_rest C5 bytes).0 ≡ notes (0xC5 ∷ bytes)
two_byte_rest bytes = two_noted bytes

pub three_byte_rest : (bytes : List ℕ) → (noted_rest C4 bytes).0 ≡ notes (0xC4 ∷ bytes)
three_byte_rest bytes = three_noted bytes

-- those of all
pub walk_noted : (bytes : List ℕ) → (noted_walk bytes).0 ≡ notes bytes
walk_noted [] = refl
walk_noted (first ∷ rest) = by (first == 0xC5) (first == 0xC4) where
  by : (two three : Bool) → ((silent (λ bytes. if two then Ok (C5, bytes) else if three then Ok (C4, bytes) else Err
      (Outside, bytes)) >> noted_rest) rest).0
      ≡ (if two then notes_on_two rest else if three then notes_on_three rest else [])
  by true three = two_noted rest
  by false true = three_noted rest
  by false false = refl

-- ---- the first byte

pub form_two : (first : ℕ) (bytes : List ℕ) → first ≡ 0xC5 → form_of first bytes ≡ Ok (C5, bytes)
form_two first bytes is = rw is refl

pub form_three : (first : ℕ) (bytes : List ℕ) → first ≡ 0xC4 → form_of first bytes ≡ Ok (C4, bytes)
form_three first bytes is = rw is refl

pub form_other : (first : ℕ) (bytes : List ℕ) → first ≢ 0xC5 → first ≢ 0xC4 → form_of first bytes ≡ Err (Outside, bytes)
form_other first bytes two three = rw (not_equal first 0xC5 two, not_equal first 0xC4 three) refl

-- ---- how many there are

few_found : (form : PrefixForm) (entry : Option Entry) → length (found_notes form entry) ≤ 2
few_found form None = omega arith
few_found form (Some entry) = omega arith

few_on_opcode : (form : PrefixForm) (f : Fields) (bytes : List ℕ) → length (notes_on_opcode form f bytes) ≤ 2
few_on_opcode form f [] = omega arith
few_on_opcode form f (byte ∷ rest) = few_found form (entry_of (key_of f byte))

few_on_two : (bytes : List ℕ) → length (notes_on_two bytes) ≤ 11
few_on_two [] = omega arith
few_on_two (p ∷ rest) = omega (arith, few_on_opcode C5 (fields_of_two p) rest)

few_by_map : (map : Option Map) (p q : ℕ) (rest : List ℕ) → length (notes_by_map map p q rest) ≤ 9
few_by_map None p q rest = omega arith
few_by_map (Some map) p q rest = omega (arith, few_on_opcode C4 (fields_of_three map p q) rest)

few_on_three : (bytes : List ℕ) → length (notes_on_three bytes) ≤ 11
few_on_three [] = omega arith
few_on_three (p ∷ []) = omega arith
few_on_three (p ∷ q ∷ rest) = omega (arith, few_by_map (map_of (p % 32)) p q rest)

-- at most 11
pub few_notes : (bytes : List ℕ) → length (notes bytes) ≤ 11
few_notes [] = omega arith
few_notes (first ∷ rest) = by (first == 0xC5) (first == 0xC4) where
  by : (two three : Bool) → length (if two then notes_on_two rest else if three then notes_on_three rest else []) ≤ 11
  by true three = few_on_two rest
  by false true = few_on_three rest
  by false false = omega arith

-- ---- the answers

erases_by_map : (map : Option Map) (p q : ℕ) → Erases (noted_by_map map p q) (fields_by_map map p q)
erases_by_map None p q = erases_silent _
erases_by_map (Some map) p q = erases_noted (three_byte_notes p q) _ _ (erases_silent _)

erases_fields : (form : PrefixForm) → Erases (noted_fields form) (read_fields form)
erases_fields C5 = erases_then (silent take_byte) take_byte _ _ (erases_silent take_byte)
    (λ p. erases_noted (two_byte_notes p) _ _ (erases_silent _))
erases_fields C4 =
    erases_then (silent take_byte) take_byte _ _ (erases_silent take_byte) (λ p.
    erases_then (silent take_byte) take_byte _ _ (erases_silent take_byte)
    (λ q. erases_noted (map_notes p q) _ _ (erases_by_map (map_of (p % 32)) p q)))

erases_opcode : (form : PrefixForm) (f : Fields) → Erases (noted_opcode form f) (λ bytes. walk_on ((form, f), bytes))
erases_opcode form f =
    erases_then (silent take_byte) take_byte _ _ (erases_silent take_byte) (λ byte.
    erases_then (silent (found (entry_of (key_of f byte)))) (found (entry_of (key_of f byte))) _ _ (erases_silent _)
    (λ entry.
    erases_noted (opcode_notes form entry) _ _ (erases_silent (walk_row form f entry))))

pub erases_rest : (form : PrefixForm) → Erases (noted_rest form) (rest_of form)
erases_rest form = erases_then (noted_fields form) (read_fields form) _ _ (erases_fields form) (erases_opcode form)

-- a prefix, and then what follows it
regrouped : (form : PrefixForm) (fields : Reading Fields)
    → ((fields >>= (λ f. Ok ((form, f.0), f.1))) >>= walk_on) ≡ (fields >>= (λ f. walk_on ((form, f.0), f.1)))
regrouped form (Ok read) = refl
regrouped form (Err error) = refl

-- a decode, its first byte taken
pub walk_first : (form : PrefixForm) (first : ℕ) (bytes : List ℕ) → form_of first bytes ≡ Ok (form, bytes)
    → walk (first ∷ bytes) ≡ rest_of form bytes
unfolding walk
walk_first form first bytes is =
    ap (λ (r : Reading PrefixForm). (r >>=
    (λ form. read_fields form.0 form.1 >>= (λ fields. Ok ((form.0, fields.0), fields.1)))) >>= walk_on) is
    ∙ regrouped form (read_fields form bytes)

pub erases_walk : Erases noted_walk walk
unfolding walk
erases_walk = record { same = by }
  where
    by : (bytes : List ℕ) → (noted_walk bytes).1 ≡ walk bytes
    by [] = refl
    by (first ∷ rest) = on (first == 0xC5) (first == 0xC4) where
      on : (two three : Bool) → ((silent (λ bytes. if two then Ok (C5, bytes) else if three then Ok (C4, bytes) else
          Err (Outside, bytes)) >> noted_rest) rest).1
          ≡ (((if two then Ok (C5, rest) else if three then Ok (C4, rest) else Err (Outside, rest)) >>=
          (λ form. read_fields form.0 form.1 >>= (λ fields. Ok ((form.0, fields.0), fields.1)))) >>= walk_on)
      on true three = (erases_rest C5).same rest ∙ sym (regrouped C5 (read_fields C5 rest))
      on false true = (erases_rest C4).same rest ∙ sym (regrouped C4 (read_fields C4 rest))
      on false false = refl
