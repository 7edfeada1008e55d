-- What the bytes that a reader gave for an address spell, and what those that it gave before it refused one lack.
use Rattle.std.proofs.Common.{◌≡◌, ◌≢◌, ◌∙◌, ap, ap₂, sym, subst, ne_eqb, eq-eqb, arith, refl, ℕ, Bool, true, false}
use Rattle.std.proofs.Common.{◌/◌, ◌%◌, ◌<◌, ◌==◌, ◌&&◌, if◌then◌else◌, List, [], ◌∷◌, ◌++◌, length, Result, Ok, Err}
use Rattle.std.proofs.Common.{IsErr, OnErr, append-nil}
use Rattle.std.specs.Prelude.{IfOk, IfErr}
use Rattle.std.proofs.lemmas.List.Elements.{recursion_from_All}
use Rattle.x86_operand.specs.Kind.{Kind, InMemory, VectorIndexed, is_vector, plain_kind}
use Rattle.x86_operand.specs.declared.error.DecodeError.{DecodeError}
use Rattle.x86_operand.specs.declared.error.DecodeError.TheVariants.{ExhaustedInput}
use Rattle.x86_operand.specs.declared.address.Address.{Address}
use Rattle.x86_operand.specs.declared.register.RegisterBank.TheVariants.{Q}
use Rattle.x86_reader.specs.Reader.{ReaderState, IsByte, Takes, Stops, Passes}
use Rattle.x86_address.specs.Bytes.{IsBytes, Short, Long}
use Rattle.x86_address.specs.Place.{Place, kind_of, IsOfKind, tail_of, PlainAddress, Target, NoTarget, Number, At}
use Rattle.x86_address.specs.Place.{kind_of_target, target, SpellsTarget}
use Rattle.x86_address.specs.Shortest.{plain, in_banks}
use Rattle.x86_address.specs.Reading.{Reading, take_byte, take_doubleword, take_displacement, take_baseless}
use Rattle.x86_address.specs.Reading.{take_scaled, take_sib, take_place}
use Rattle.x86_address.specs.Most.Lemmas.{most_place}
use Rattle.x86_address.specs.Follows.{Same, Follows}
use Rattle.x86_address.specs.Follows.Lemmas.{takes_all, fails_at_end, most_taken, follows_true, follows_false}
use Rattle.x86_address.specs.Reads.{NamesAddress, SpelledBy, CutShort}
use Rattle.x86_address.specs.Bytes.Lemmas.{IsBytes-append, low_field_below}
use Rattle.x86_address.specs.Place.Lemmas.{sib_by_rm, has_modrm, place_bytes_split, place_bytes_none}
use Rattle.x86_address.specs.Reading.Lemmas.{same_read}
use Rattle.x86_address.specs.Reading.Places.{take_byte-fails, take_place-fails, modrm-written, modrm-again, same_parts}
use Rattle.x86_address.specs.Shortest.Lemmas.{kind_of_target-target}
use Rattle.x86_address.proofs.Completing.{fails_before, completable_place}

-- bytes that were taken are bytes
IsBytes-taken : {old new : ReaderState} {bytes : List ℕ} → Passes old new bytes → IsBytes bytes
IsBytes-taken {bytes = bytes} passes = recursion_from_All IsByte bytes passes.each

-- a ModRM byte below C0 hex names an address in memory, and one with SIB where the field rm is 4
pub record IsAfter (kind : Kind) (modrm : ℕ) : Type 0 where
  pub memory : modrm < 192
  pub plain : plain_kind kind ≡ InMemory
  pub sib : is_vector kind ≡ true → modrm % 8 ≡ 4

-- a place that is read after a ModRM byte of memory is in memory, and has a SIB byte where a vector register is its
-- index
kind_in_memory : (modrm : ℕ) (bytes : List ℕ) (place : Place) → modrm < 192 → IsBytes bytes
    → take_place (modrm / 64) (modrm % 8) bytes ≡ Ok (place, []) → kind_of place ≡ InMemory
kind_in_memory modrm bytes place memory are read =
    (modrm-written modrm bytes (omega arith) are place [] read).kind_is ∙ rw (ne_eqb (modrm / 64) 3 (omega arith)) refl

is_of_kind : (kind : Kind) (modrm : ℕ) (bytes : List ℕ) (place : Place) → IsAfter kind modrm → IsBytes bytes
    → take_place (modrm / 64) (modrm % 8) bytes ≡ Ok (place, []) → IsOfKind kind place
is_of_kind kind modrm bytes place after are read =
    let spelled = modrm-written modrm bytes (omega (arith, after.memory)) are place [] read in
    let plain = kind_in_memory modrm bytes place after.memory are read in
    record {
      plain = plain ∙ sym after.plain;
      sib =
          λ vector. sib_by_rm place spelled.is_place plain (spelled.rm_is ∙ after.sib vector);
    }

-- bytes that are read whole as a place spell with ModRM what that names
spells_place : (kind : Kind) (modrm : ℕ) (bytes : List ℕ) (place : Place) {x b : Bool} {e : Target}
    → IsAfter kind modrm → IsBytes bytes → take_place (modrm / 64) (modrm % 8) bytes ≡ Ok (place, [])
    → target (is_vector kind) place x b ≡ e → SpellsTarget (modrm ∷ bytes) kind ((modrm / 8) % 8) x b e
spells_place kind modrm bytes place after are read names =
    let memory = after.memory in
    let spelled = modrm-written modrm bytes (omega arith) are place [] read in
    record {
      is_reg = low_field_below (modrm / 8);
      place = place;
      is_place = spelled.is_place;
      is_kind = is_of_kind kind modrm bytes place after are read;
      written = spelled.written ∙ append-nil _;
      names = sym names;
    }

-- what was read after ModRM spells the address
spelled_by : (kind : Kind) {modrm : ℕ} {x b : Bool} {address : Address} {old new : ReaderState} → IsAfter kind modrm
    → Follows (take_place (modrm / 64) (modrm % 8)) (NamesAddress (is_vector kind) x b) old new (Ok address)
    → SpelledBy kind modrm x b address old new
spelled_by kind {modrm} {x} {b} {address} after f =
    let place = f.answers.0 in
    let named = f.answers.1 in
    let are = IsBytes-taken f.passes in
    let again = takes_all address f in
    record {
      bytes = f.bytes;
      takes = record { passes = f.passes; uncounted = f.counts };
      most = most_taken 5 (most_place (modrm / 64) (modrm % 8)) (Ok address) f;
      spells = record {
        plain_address = plain address;
        spells = spells_place kind modrm f.bytes place after are again named.names;
        banks = named.banks;
      };
    }

-- ---- too few bytes

-- the step fails only on fewer bytes than these
abbrev FailsBelow : {A : Type 0} → ℕ → (List ℕ → Reading A) → Type 0
FailsBelow n step = (bytes : List ℕ) → IsErr (step bytes) → length bytes < n

below_byte : FailsBelow 1 take_byte
below_byte [] h = omega arith
below_byte (byte ∷ bytes) h = cc

below_doubleword : FailsBelow 4 take_doubleword
below_doubleword [] h = omega arith
below_doubleword (a ∷ []) h = omega arith
below_doubleword (a ∷ b ∷ []) h = omega arith
below_doubleword (a ∷ b ∷ c ∷ []) h = omega arith
below_doubleword (a ∷ b ∷ c ∷ d ∷ bytes) h = cc

below_if : {A : Type 0} {n : ℕ} (test : Bool) (one other : List ℕ → Reading A) → FailsBelow n one → FailsBelow n other
    → FailsBelow n (λ bytes. if test then one bytes else other bytes)
below_if true one other p q = p
below_if false one other p q = q

below_displacement : (mode : ℕ) → FailsBelow 4 (take_displacement mode)
below_displacement mode =
    below_if (mode == 0) _ _ (λ bytes h. cc)
    (below_if (mode == 1) _ _ (λ bytes h. omega (arith, below_byte bytes (fails_before Short (take_byte bytes) h)))
    (λ bytes h. below_doubleword bytes (fails_before Long (take_doubleword bytes) h)))

below_sib : (mode : ℕ) → FailsBelow 5 (take_sib mode)
below_sib mode [] h = omega arith
below_sib mode (sib ∷ bytes) h =
    let after : length bytes < 4 = below_if (mode == 0 && sib % 8 == 5) (take_baseless sib) (take_scaled mode sib)
    (λ bytes h. below_doubleword bytes (fails_before _ (take_doubleword bytes) h))
    (λ bytes h. below_displacement mode bytes (fails_before _ (take_displacement mode bytes) h)) bytes h in
    omega arith

-- what follows ModRM is at most five bytes
below_place : (mode rm : ℕ) → FailsBelow 5 (take_place mode rm)
below_place mode rm =
    below_if (mode == 3) _ _ (λ bytes h. cc)
    (below_if (rm == 4) _ _ (below_sib mode)
    (below_if (mode == 0 && rm == 5) _ _ (λ bytes h. omega
    (arith, below_doubleword bytes (fails_before _ (take_doubleword bytes) h)))
    (λ bytes h. omega (arith, below_displacement mode bytes (fails_before _ (take_displacement mode bytes) h)))))

-- bytes from ModRM on that spell something are read as a place that takes all of them
read_whole : {modrm : ℕ} {bytes : List ℕ} {kind : Kind} {reg : ℕ} {x b : Bool} {e : Target}
    → (s : SpellsTarget (modrm ∷ bytes) kind reg x b e) → take_place (modrm / 64) (modrm % 8) bytes ≡ Ok (s.place, [])
read_whole {modrm} {bytes} {reg = reg} s =
    let has = has_modrm s.place (λ none. let empty = s.written ∙ place_bytes_none reg s.place none in cc) in
    let parts = same_parts modrm _ bytes (tail_of s.place) (s.written ∙ place_bytes_split reg s.place has) in
    ap (take_place (modrm / 64) (modrm % 8)) (parts.1 ∙ sym (append-nil (tail_of s.place)))
    ∙ modrm-again reg s.place modrm [] s.is_reg s.is_place has parts.0

-- what is in memory is an address
address_in_memory : (e : Target) → kind_of_target e ≡ InMemory → (a : PlainAddress) × (e ≡ At a)
address_in_memory NoTarget h = cc
address_in_memory (Number n) h = cc
address_in_memory (At a) h = (a, refl)

-- where the reader stopped, some address begins so, and more bytes are wanted in whatever spelling begins so
cut_short : (kind : Kind) {modrm : ℕ} {x b : Bool} {old new : ReaderState} {bytes : List ℕ} → IsAfter kind modrm
    → Stops old new bytes → take_place (modrm / 64) (modrm % 8) bytes ≡ Err (ExhaustedInput, [])
    → CutShort kind modrm x b old new
cut_short kind {modrm} {x} {b} {bytes = bytes} after stops lacking =
    let step = take_place (modrm / 64) (modrm % 8) in
    let failed : IsErr (step bytes) = rw lacking refl in
    let most = below_place (modrm / 64) (modrm % 8) bytes failed in
    let more = completable_place (modrm / 64) (modrm % 8) bytes failed in
    let are = IsBytes-append bytes more.missing (IsBytes-taken stops.passes) more.are in
    let named = address_in_memory (target (is_vector kind) more.value x b)
    (kind_of_target-target 1 (is_vector kind) more.value x b
    ∙ kind_in_memory modrm (bytes ++ more.missing) more.value after.memory are more.answers) in
    record {
      bytes = bytes;
      stops = stops;
      most = omega arith;
      fewer = λ rest other reg x b e s none.
          let whole : step (bytes ++ rest) ≡ Ok (s.place, []) = read_whole s in
          let same : bytes ++ rest ≡ bytes = ap (λ rest. bytes ++ rest) none ∙ append-nil bytes in
          let read = sym (ap step same) ∙ whole in
          cc;
      missing = more.missing;
      address = in_banks Q named.0;
      spells = record {
        plain_address = named.0;
        spells = spells_place kind modrm (bytes ++ more.missing) more.value after are more.answers named.1;
        banks = refl;
      };
    }

-- an error of the step is that a byte was refused
only_exhausted : (modrm : ℕ) {vector x b : Bool} {old new : ReaderState} (error : DecodeError)
    → Follows (take_place (modrm / 64) (modrm % 8)) (NamesAddress vector x b) old new (Err error)
    → error ≡ ExhaustedInput
only_exhausted modrm error f = ap (λ e. e.0)
    (take_place-fails (modrm / 64) (modrm % 8) f.bytes (error, []) (fails_at_end error f))

-- ---- what a call says to its caller

-- with SIB after ModRM the place is that of SIB
pub placed_sib : (modrm : ℕ) {vector x b : Bool} {old new : ReaderState} {result : Result Address DecodeError}
    → modrm < 192 → modrm % 8 ≡ 4 → Follows (take_sib (modrm / 64)) (NamesAddress vector x b) old new result
    → Follows (take_place (modrm / 64) (modrm % 8)) (NamesAddress vector x b) old new result
placed_sib modrm memory sib f =
    let other : modrm / 64 ≢ 3 = omega arith in
    follows_false _ _ _ (ne_eqb (modrm / 64) 3 other) (follows_true _ _ _ (eq-eqb (modrm % 8) 4 sib) f)

-- any address after a ModRM byte below C0 hex
pub after_memory : {modrm : ℕ} → modrm < 192 → IsAfter InMemory modrm
after_memory memory = record { memory = memory; plain = refl; sib = λ vector. cc }

-- and one with a vector register as its index, where there is a SIB byte
pub after_vector : {modrm : ℕ} → modrm < 192 → modrm % 8 ≡ 4 → IsAfter VectorIndexed modrm
after_vector memory sib = record { memory = memory; plain = refl; sib = λ vector. sib }

module _ (kind : Kind) (modrm : ℕ) {x b : Bool} {old new : ReaderState} where
  pub if_spelled : (result : Result Address DecodeError) → IsAfter kind modrm
      → Follows (take_place (modrm / 64) (modrm % 8)) (NamesAddress (is_vector kind) x b) old new result
      → IfOk result (λ address. SpelledBy kind modrm x b address old new)
  if_spelled (Ok address) after f = spelled_by kind after f
  if_spelled (Err error) after f = tt

  pub if_exhausted : (result : Result Address DecodeError)
      → Follows (take_place (modrm / 64) (modrm % 8)) (NamesAddress (is_vector kind) x b) old new result
      → IfErr result (λ error. error ≡ ExhaustedInput)
  if_exhausted (Ok address) f = tt
  if_exhausted (Err error) f = only_exhausted modrm error f

  pub on_cut_short : (result : Result Address DecodeError) → IsAfter kind modrm
      → Follows (take_place (modrm / 64) (modrm % 8)) (NamesAddress (is_vector kind) x b) old new result
      → OnErr result (CutShort kind modrm x b old new)
  on_cut_short (Ok address) after f = tt
  on_cut_short (Err error) after f =
      let is = only_exhausted modrm error f in
      let stops : Stops old new f.bytes = record { passes = f.passes; counted = f.counts.counted is } in
      cut_short kind after stops (fails_at_end error f ∙ ap (λ e. Err (e, [])) is)

-- a byte, and no other error than that it was refused
module _ {old new : ReaderState} where
  pub if_taken : (result : Result ℕ DecodeError) → Follows take_byte Same old new result
      → IfOk result (λ byte. Takes old new (byte ∷ []))
  if_taken (Ok byte) f = byte_taken f.bytes f.passes f.counts
      (takes_all byte f ∙ ap (λ n. Ok (n, [])) (sym f.answers.1))
    where
      byte_taken : {byte : ℕ} (bytes : List ℕ) → Passes old new bytes → new.refusals ≡ old.refusals
          → take_byte bytes ≡ Ok (byte, []) → Takes old new (byte ∷ [])
      byte_taken [] passes same e = cc
      byte_taken {byte} (n ∷ rest) passes same e =
          let read = same_read e in
          let one : n ∷ rest ≡ byte ∷ [] = ap₂ ◌∷◌ (ap (λ r. r.0) read) (ap (λ r. r.1) read) in
          record { passes = subst (Passes old new) one passes; uncounted = same }
  if_taken (Err error) f = tt

  pub if_byte_refused : (result : Result ℕ DecodeError) → Follows take_byte Same old new result
      → IfErr result (λ error. error ≡ ExhaustedInput)
  if_byte_refused (Ok byte) f = tt
  if_byte_refused (Err error) f = ap (λ e. e.0) (take_byte-fails f.bytes (error, []) (fails_at_end error f))

  pub on_byte_refused : (result : Result ℕ DecodeError) → Follows take_byte Same old new result
      → OnErr result (Stops old new [])
  on_byte_refused (Ok byte) f = tt
  on_byte_refused (Err error) f =
      let e = take_byte-fails f.bytes (error, []) (fails_at_end error f) in
      let none : f.bytes ≡ [] = no_byte f.bytes (fails_at_end error f) in
      record { passes = subst (Passes old new) none f.passes; counted = f.counts.counted (ap (λ e. e.0) e) }
    where
      no_byte : {error : DecodeError × List ℕ} (bytes : List ℕ) → take_byte bytes ≡ Err error → bytes ≡ []
      no_byte [] e = refl
      no_byte (byte ∷ bytes) e = cc
