-- Lemmas on reading and writing addresses, which no contract cites: what is written is read again, and what is read was
-- so written.
use Rattle.std.proofs.Common.{◌≡◌, ◌≢◌, ◌⊎◌, ℕ, ◌+◌, ◌*◌, ◌/◌, ◌%◌, ◌^◌, ◌<◌, List, [], ◌∷◌, ◌++◌, Ok, Err, Bool, true}
use Rattle.std.proofs.Common.{false, ◌&&◌, ◌==◌, if◌then◌else◌, refl, sym, ap, ap₂, ◌∙◌, subst, arith, ne_eqb, eqb-true}
use Rattle.std.proofs.lemmas.Bool.{eqb-false}
use Rattle.std.proofs.lemmas.Bool.Decides.{nat_tests}
use Rattle.x86_operand.specs.declared.error.DecodeError.{DecodeError}
use Rattle.x86_operand.specs.declared.error.DecodeError.TheVariants.{ExhaustedInput}
use Rattle.x86_operand.specs.Kind.{Kind, WithoutModRM, InRegister, InMemory}
use Rattle.x86_address.specs.Bytes.{IsBytes, doubleword_bytes, Displacement, Absent, Short, Long, IsDisplacement}
use Rattle.x86_address.specs.Bytes.{displacement_bytes}
use Rattle.x86_address.specs.Place.{Place, NoPlace, Direct, Based, RipBased, Scaled, Baseless, MayBeBase, IsPlace}
use Rattle.x86_address.specs.Place.{kind_of, mod_of_displacement, mod_of, rm_of, tail_of, place_bytes}
use Rattle.x86_address.specs.Reading.{take_byte, take_doubleword, take_short, take_long, take_displacement}
use Rattle.x86_address.specs.Reading.{take_baseless, take_scaled, take_sib, take_rip_based, take_based, take_place}
use Rattle.x86_address.specs.Laws.{ReadingIsSpelling}
use Rattle.x86_address.specs.Bytes.Lemmas.{doubleword_of_bytes, bytes_of_doubleword, high_field, middle_field}
use Rattle.x86_address.specs.Bytes.Lemmas.{low_field}
use Rattle.x86_address.specs.Bytes.Lemmas.{high_field_below, low_field_below, packed}
use Rattle.x86_address.specs.Place.Lemmas.{has_modrm, place_bytes_split, rm_of_below}
use Rattle.x86_address.specs.Reading.Lemmas.{IsReader, IsReader-ok, IsReader-bind, IsReader-if, Exhausts, Answers}
use Rattle.x86_address.specs.Reading.Lemmas.{Answers-ok, Answers-bind, Answers-if, ReadsByte, take_byte-written}
use Rattle.x86_address.specs.Reading.Lemmas.{IsReader-take_byte}

-- a doubleword that is written is read again
pub take_doubleword-again : (n : ℕ) (rest : List ℕ) → n < 2 ^ 32
    → take_doubleword (doubleword_bytes n ++ rest) ≡ Ok (n, rest)
take_doubleword-again n rest p = rw (doubleword_of_bytes n p)

-- a displacement that is written is read again, by the mod that it has
pub take_displacement-again : (d : Displacement) (rest : List ℕ) → IsDisplacement d
    → take_displacement (mod_of_displacement d) (displacement_bytes d ++ rest) ≡ Ok (d, rest)
take_displacement-again Absent rest p = refl
take_displacement-again (Short n) rest p = refl
take_displacement-again (Long n) rest p = rw (doubleword_of_bytes n p)

-- a place that is written is read again, by the mod and rm that it has
pub take_place-again : (p : Place) (rest : List ℕ) → IsPlace p → (kind_of p ≡ InRegister) ⊎ (kind_of p ≡ InMemory)
    → take_place (mod_of p) (rm_of p) (tail_of p ++ rest) ≡ Ok (p, rest)
take_place-again NoPlace rest ok k = grind arith
take_place-again (Direct rm) rest ok k = refl
take_place-again (Based rm Absent) rest ok k = rw (ne_eqb rm 4 ok.1, ne_eqb rm 5 ok.2) refl
take_place-again (Based rm (Short n)) rest ok k = rw (ne_eqb rm 4 ok.1) refl
take_place-again (Based rm (Long n)) rest ok k = rw (ne_eqb rm 4 ok.1, doubleword_of_bytes n ok.3) refl
take_place-again (RipBased n) rest ok k = rw (doubleword_of_bytes n ok) refl
take_place-again (Scaled k i j Absent) rest ok _ =
    rw (low_field k i j ok.2, ne_eqb j 5 ok.3, high_field k i j ok.1 ok.2, middle_field k i j ok.1 ok.2) refl
take_place-again (Scaled k i j (Short n)) rest ok _ =
    rw (low_field k i j ok.2, high_field k i j ok.1 ok.2, middle_field k i j ok.1 ok.2) refl
take_place-again (Scaled k i j (Long n)) rest ok _ =
    rw (low_field k i j ok.2, high_field k i j ok.1 ok.2, middle_field k i j ok.1 ok.2, doubleword_of_bytes n ok.4) refl
take_place-again (Baseless k i n) rest ok _ =
    let five : 5 < 8 = omega arith in
    rw (low_field k i 5 five, high_field k i 5 ok.1 five, middle_field k i 5 ok.1 five, doubleword_of_bytes n ok.2) refl

-- a doubleword that was read stood first, in its four bytes
pub record ReadsDoubleword (bytes : List ℕ) (n : ℕ) (rest : List ℕ) : Type 0 where
  pub is_doubleword : n < 2 ^ 32
  pub written : bytes ≡ doubleword_bytes n ++ rest
  pub left : IsBytes rest

-- a doubleword that was read stood first
pub take_doubleword-written : (bytes : List ℕ) → IsBytes bytes → Answers (ReadsDoubleword bytes) (take_doubleword bytes)
take_doubleword-written [] ok value rest h = cc
take_doubleword-written (a ∷ []) ok value rest h = cc
take_doubleword-written (a ∷ b ∷ []) ok value rest h = cc
take_doubleword-written (a ∷ b ∷ c ∷ []) ok value rest h = cc
take_doubleword-written (a ∷ b ∷ c ∷ d ∷ after) ok value rest h =
    Answers-ok (ReadsDoubleword (a ∷ b ∷ c ∷ d ∷ after)) (a + 256 * b + 65536 * c + 16777216 * d) after (record {
      is_doubleword = omega arith;
      written = sym (ap (λ bytes. bytes ++ after) (bytes_of_doubleword a b c d ok.0 ok.1.0 ok.1.1.0 ok.1.1.1.0));
      left = ok.1.1.1.1;
    }) value rest h

-- a displacement that was read stood first, as long as mod says
pub record ReadsDisplacement (mode : ℕ) (bytes : List ℕ) (d : Displacement) (rest : List ℕ) : Type 0 where
  pub is_displacement : IsDisplacement d
  pub mode_is : mod_of_displacement d ≡ mode
  pub written : bytes ≡ displacement_bytes d ++ rest
  pub left : IsBytes rest

-- mod 1 reads a byte
take_short-written : (mode : ℕ) (bytes : List ℕ) → mode ≡ 1 → IsBytes bytes
    → Answers (ReadsDisplacement mode bytes) (take_short bytes)
take_short-written mode bytes m ok =
    Answers-bind (ReadsByte bytes) (ReadsDisplacement mode bytes) _ _ (take_byte-written bytes ok)
    (λ n rest r. Answers-ok _ (Short n) rest
    (record { is_displacement = r.is_byte; mode_is = sym m; written = r.written; left = r.left }))

-- mod 2 reads a doubleword
take_long-written : (mode : ℕ) (bytes : List ℕ) → mode ≡ 2 → IsBytes bytes
    → Answers (ReadsDisplacement mode bytes) (take_long bytes)
take_long-written mode bytes m ok =
    Answers-bind (ReadsDoubleword bytes) (ReadsDisplacement mode bytes) _ _ (take_doubleword-written bytes ok)
    (λ n rest r. Answers-ok _ (Long n) rest
    (record { is_displacement = r.is_doubleword; mode_is = sym m; written = r.written; left = r.left }))

-- each mod but 3 reads the displacement that it says
pub take_displacement-written : (mode : ℕ) (bytes : List ℕ) → mode < 3 → IsBytes bytes
    → Answers (ReadsDisplacement mode bytes) (take_displacement mode bytes)
take_displacement-written mode bytes m ok =
    Answers-if _ _ _ _ (λ none. Answers-ok _ Absent bytes
    (record { is_displacement = tt; mode_is = sym (eqb-true mode 0 none); written = refl; left = ok }))
    (λ some. Answers-if _ _ _ _ (λ one. take_short-written mode bytes (eqb-true mode 1 one) ok)
    (λ more. take_long-written mode bytes (omega (arith, eqb-false mode 0 some, eqb-false mode 1 more)) ok))

-- a place that was read stood first, as its fields of ModRM say
pub record ReadsPlace (mode rm : ℕ) (bytes : List ℕ) (p : Place) (rest : List ℕ) : Type 0 where
  pub is_place : IsPlace p
  pub mod_is : mod_of p ≡ mode
  pub rm_is : rm_of p ≡ rm
  pub kind_is : kind_of p ≡ (if mode == 3 then InRegister else InMemory)
  pub written : bytes ≡ tail_of p ++ rest
  pub left : IsBytes rest

-- a base field other than 5, or one with a displacement, is a base
base_by_mode : (field : ℕ) (d : Displacement) (mode : ℕ) → mod_of_displacement d ≡ mode
    → (mode == 0 && field == 5) ≡ false → MayBeBase field d
base_by_mode field Absent mode m h = λ e. grind (arith, nat_tests)
base_by_mode field (Short n) mode m h = tt
base_by_mode field (Long n) mode m h = tt

-- a base register
take_based-written : (mode rm : ℕ) (bytes : List ℕ) → mode < 3 → rm < 8 → rm ≢ 4 → (mode == 0 && rm == 5) ≡ false
    → IsBytes bytes → Answers (ReadsPlace mode rm bytes) (take_based mode rm bytes)
take_based-written mode rm bytes m r four base ok =
    Answers-bind (ReadsDisplacement mode bytes) _ _ _ (take_displacement-written mode bytes m ok)
    (λ d rest read. Answers-ok _ (Based rm d) rest (record {
      is_place = (r, four, base_by_mode rm d mode read.mode_is base, read.is_displacement);
      mod_is = read.mode_is;
      rm_is = refl;
      kind_is = grind (arith, nat_tests);
      written = read.written;
      left = read.left;
    }))

-- the instruction pointer
take_rip_based-written : (mode rm : ℕ) (bytes : List ℕ) → mode ≡ 0 → rm ≡ 5 → IsBytes bytes
    → Answers (ReadsPlace mode rm bytes) (take_rip_based bytes)
take_rip_based-written mode rm bytes m r ok =
    Answers-bind (ReadsDoubleword bytes) _ _ _ (take_doubleword-written bytes ok)
    (λ n rest read. Answers-ok _ (RipBased n) rest (record {
      is_place = read.is_doubleword;
      mod_is = sym m;
      rm_is = sym r;
      kind_is = grind (arith, nat_tests);
      written = read.written;
      left = read.left;
    }))

-- SIB without a base
take_baseless-written : (mode sib : ℕ) (bytes : List ℕ) → mode ≡ 0 → sib < 256 → sib % 8 ≡ 5 → IsBytes bytes
    → Answers (ReadsPlace mode 4 (sib ∷ bytes)) (take_baseless sib bytes)
take_baseless-written mode sib bytes m s five ok =
    Answers-bind (ReadsDoubleword bytes) _ _ _ (take_doubleword-written bytes ok)
    (λ n rest read. Answers-ok _ (Baseless (sib / 64) ((sib / 8) % 8) n) rest (record {
      is_place = (omega arith, omega arith, read.is_doubleword);
      mod_is = sym m;
      rm_is = refl;
      kind_is = grind (arith, nat_tests);
      written = ap₂ ◌∷◌ (omega arith) read.written;
      left = read.left;
    }))

-- SIB with a base
take_scaled-written : (mode sib : ℕ) (bytes : List ℕ) → mode < 3 → sib < 256 → (mode == 0 && sib % 8 == 5) ≡ false
    → IsBytes bytes → Answers (ReadsPlace mode 4 (sib ∷ bytes)) (take_scaled mode sib bytes)
take_scaled-written mode sib bytes m s base ok =
    Answers-bind (ReadsDisplacement mode bytes) _ _ _ (take_displacement-written mode bytes m ok)
    (λ d rest read. Answers-ok _ (Scaled (sib / 64) ((sib / 8) % 8) (sib % 8) d) rest (record {
      is_place = (
        omega arith,
        omega arith,
        omega arith,
        base_by_mode (sib % 8) d mode read.mode_is base,
        read.is_displacement,
      );
      mod_is = read.mode_is;
      rm_is = refl;
      kind_is = grind (arith, nat_tests);
      written = ap₂ ◌∷◌ (omega arith) read.written;
      left = read.left;
    }))

-- SIB
take_sib-written : (mode rm : ℕ) (bytes : List ℕ) → mode < 3 → rm ≡ 4 → IsBytes bytes
    → Answers (ReadsPlace mode rm bytes) (take_sib mode bytes)
take_sib-written mode rm bytes m r ok =
    Answers-bind (ReadsByte bytes) _ _ _ (take_byte-written bytes ok)
    (λ sib after read. rw (r, read.written)
    (Answers-if _ _ _ _ (λ none. take_baseless-written mode sib after (grind (arith, nat_tests)) read.is_byte
    (grind (arith, nat_tests)) read.left)
    (λ based. take_scaled-written mode sib after m read.is_byte based read.left)))

-- a place in memory
take_memory-written : (mode rm : ℕ) (bytes : List ℕ) → mode < 3 → rm < 8 → IsBytes bytes
    → Answers (ReadsPlace mode rm bytes) (if rm == 4 then take_sib mode bytes
    else if mode == 0 && rm == 5 then take_rip_based bytes
    else take_based mode rm bytes)
take_memory-written mode rm bytes m r ok =
    Answers-if _ _ _ _ (λ four. take_sib-written mode rm bytes m (eqb-true rm 4 four) ok)
    (λ other. Answers-if _ _ _ _ rip_based (λ based. take_based-written mode rm bytes m r (eqb-false rm 4 other) based
    ok))
  where
    rip_based : (mode == 0 && rm == 5) ≡ true → Answers (ReadsPlace mode rm bytes) (take_rip_based bytes)
    rip_based rip = take_rip_based-written mode rm bytes (grind (arith, nat_tests)) (grind (arith, nat_tests)) ok

-- what is read as a place stood first
pub take_place-written : (mode rm : ℕ) (bytes : List ℕ) → mode < 4 → rm < 8 → IsBytes bytes
    → Answers (ReadsPlace mode rm bytes) (take_place mode rm bytes)
take_place-written mode rm bytes m r ok =
    Answers-if _ _ _ _ (λ three. Answers-ok _ (Direct rm) bytes (record {
      is_place = r;
      mod_is = sym (eqb-true mode 3 three);
      rm_is = refl;
      kind_is = ap (λ test. if test then InRegister else InMemory) (sym three);
      written = refl;
      left = ok;
    })) (λ memory. take_memory-written mode rm bytes (omega (arith, m, eqb-false mode 3 memory)) r ok)

-- what is read has a ModRM byte, and with it those are the bytes of the place
pub read_has_modrm : (mode rm : ℕ) (bytes : List ℕ) (p : Place) (rest : List ℕ) → ReadsPlace mode rm bytes p rest
    → (kind_of p ≡ InRegister) ⊎ (kind_of p ≡ InMemory)
read_has_modrm mode rm bytes p rest read = has_modrm p (λ none. by_test _ (sym read.kind_is ∙ none))
  where
    by_test : (test : Bool) → (if test then InRegister else InMemory) ≢ WithoutModRM
    by_test true h = cc
    by_test false h = cc

-- the place that follows a ModRM byte
pub record ReadsModRM (modrm : ℕ) (bytes : List ℕ) (p : Place) (rest : List ℕ) : Type 0 where
  pub is_place : IsPlace p
  pub has_modrm : (kind_of p ≡ InRegister) ⊎ (kind_of p ≡ InMemory)
  pub kind_is : kind_of p ≡ (if modrm / 64 == 3 then InRegister else InMemory)
  pub rm_is : rm_of p ≡ modrm % 8
  pub written : modrm ∷ bytes ≡ place_bytes ((modrm / 8) % 8) p ++ rest
  pub left : IsBytes rest

-- what is read after ModRM stood there
pub modrm-written : (modrm : ℕ) (bytes : List ℕ) → modrm < 256 → IsBytes bytes
    → Answers (ReadsModRM modrm bytes) (take_place (modrm / 64) (modrm % 8) bytes)
modrm-written modrm bytes below ok p rest h =
    let read = take_place-written (modrm / 64) (modrm % 8) bytes (high_field_below modrm below) (low_field_below modrm)
    ok p rest h in
    let has = read_has_modrm (modrm / 64) (modrm % 8) bytes p rest read in
    record {
      is_place = read.is_place;
      has_modrm = has;
      kind_is = read.kind_is;
      rm_is = read.rm_is;
      written = rw (place_bytes_split ((modrm / 8) % 8) p has, read.mod_is, read.rm_is, packed modrm)
          (ap (λ bytes. modrm ∷ bytes) read.written);
      left = read.left;
    }

-- what is written after ModRM is read again
pub modrm-again : (reg : ℕ) (p : Place) (modrm : ℕ) (rest : List ℕ) → reg < 8 → IsPlace p
    → (kind_of p ≡ InRegister) ⊎ (kind_of p ≡ InMemory) → modrm ≡ 64 * mod_of p + 8 * reg + rm_of p
    → take_place (modrm / 64) (modrm % 8) (tail_of p ++ rest) ≡ Ok (p, rest)
modrm-again reg p modrm rest below ok has e =
    rw (
      e,
      high_field (mod_of p) reg (rm_of p) below (rm_of_below p ok),
      low_field (mod_of p) reg (rm_of p) (rm_of_below p ok),
    ) (take_place-again p rest ok has)

-- the step of a doubleword
pub IsReader-take_doubleword : IsReader Exhausts take_doubleword
IsReader-take_doubleword =
    IsReader-bind _ take_byte _ IsReader-take_byte
    (λ a. IsReader-bind _ take_byte _ IsReader-take_byte
    (λ b. IsReader-bind _ take_byte _ IsReader-take_byte
    (λ c. IsReader-bind _ take_byte _ IsReader-take_byte (λ d. IsReader-ok _ _))))

-- the step of a displacement
pub IsReader-take_displacement : (mode : ℕ) → IsReader Exhausts (take_displacement mode)
IsReader-take_displacement mode =
    IsReader-if _ _ _ _ (IsReader-ok _ Absent)
    (IsReader-if _ _ _ _ (IsReader-bind _ take_byte _ IsReader-take_byte (λ n. IsReader-ok _ (Short n)))
    (IsReader-bind _ take_doubleword _ IsReader-take_doubleword (λ n. IsReader-ok _ (Long n))))

-- the step of SIB and what follows it
pub IsReader-take_sib : (mode : ℕ) → IsReader Exhausts (take_sib mode)
IsReader-take_sib mode =
    IsReader-bind _ take_byte _ IsReader-take_byte
    (λ sib. IsReader-if _ _ _ _ (IsReader-bind _ take_doubleword _ IsReader-take_doubleword (λ n. IsReader-ok _ _))
    (IsReader-bind _ (take_displacement mode) _ (IsReader-take_displacement mode) (λ d. IsReader-ok _ _)))

-- the step of all that follows ModRM
pub IsReader-take_place : (mode rm : ℕ) → IsReader Exhausts (take_place mode rm)
IsReader-take_place mode rm =
    IsReader-if _ _ _ _ (IsReader-ok _ _) (IsReader-if _ _ _ _ (IsReader-take_sib mode)
    (IsReader-if _ _ _ _ (IsReader-bind _ take_doubleword _ IsReader-take_doubleword (λ n. IsReader-ok _ _))
    (IsReader-bind _ (take_displacement mode) _ (IsReader-take_displacement mode) (λ d. IsReader-ok _ _))))

-- reading a byte fails only where no byte is left
pub take_byte-fails : (bytes : List ℕ) (error : DecodeError × List ℕ) → take_byte bytes ≡ Err error
    → error ≡ (ExhaustedInput, [])
take_byte-fails = IsReader-take_byte.fails

-- reading a doubleword fails only where no byte is left
pub take_doubleword-fails : (bytes : List ℕ) (error : DecodeError × List ℕ) → take_doubleword bytes ≡ Err error
    → error ≡ (ExhaustedInput, [])
take_doubleword-fails = IsReader-take_doubleword.fails

-- reading a place fails only where no byte is left
pub take_place-fails : (mode rm : ℕ) (bytes : List ℕ) (error : DecodeError × List ℕ)
    → take_place mode rm bytes ≡ Err error → error ≡ (ExhaustedInput, [])
take_place-fails mode rm = (IsReader-take_place mode rm).fails

-- bytes after the one that is read change nothing
pub take_byte-more : (bytes more : List ℕ) (n : ℕ) (rest : List ℕ) → take_byte bytes ≡ Ok (n, rest)
    → take_byte (bytes ++ more) ≡ Ok (n, rest ++ more)
take_byte-more bytes more n rest = IsReader-take_byte.more bytes more (n, rest)

-- bytes after those that are read change nothing
pub take_doubleword-more : (bytes more : List ℕ) (n : ℕ) (rest : List ℕ) → take_doubleword bytes ≡ Ok (n, rest)
    → take_doubleword (bytes ++ more) ≡ Ok (n, rest ++ more)
take_doubleword-more bytes more n rest = IsReader-take_doubleword.more bytes more (n, rest)

-- bytes after those that are read change nothing
pub take_place-more : (mode rm : ℕ) (bytes more : List ℕ) (p : Place) (rest : List ℕ)
    → take_place mode rm bytes ≡ Ok (p, rest) → take_place mode rm (bytes ++ more) ≡ Ok (p, rest ++ more)
take_place-more mode rm bytes more p rest = (IsReader-take_place mode rm).more bytes more (p, rest)

-- lists that are one have one head and one tail
pub same_parts : (a b : ℕ) (rest others : List ℕ) → a ∷ rest ≡ b ∷ others → (a ≡ b) × (rest ≡ others)
same_parts a b rest others h = (cc, cc)

-- the bytes of a place are read as that place
read_modrm : (modrm : ℕ) (bytes : List ℕ) (p : Place) (rest : List ℕ) → modrm < 256 → IsPlace p
    → (kind_of p ≡ InRegister) ⊎ (kind_of p ≡ InMemory) → modrm ∷ bytes ≡ place_bytes ((modrm / 8) % 8) p ++ rest
    → take_place (modrm / 64) (modrm % 8) bytes ≡ Ok (p, rest)
read_modrm modrm bytes p rest below ok has same =
    let reg = (modrm / 8) % 8 in
    let parts = same_parts modrm _ bytes (tail_of p ++ rest)
    (subst (λ others. modrm ∷ bytes ≡ others ++ rest) (place_bytes_split reg p has) same) in
    rw parts.1 (modrm-again reg p modrm rest (omega arith) ok has parts.0)

-- a register or memory has a ModRM byte
with_modrm : (kind : Kind) → (kind ≡ InRegister) ⊎ (kind ≡ InMemory) → kind ≢ WithoutModRM
with_modrm kind has = λ none. grind arith

-- reading and spelling are one
pub reading_is_spelling : ReadingIsSpelling
reading_is_spelling modrm bytes p rest below ok = (
  λ h.
      let read = modrm-written modrm bytes below ok p rest h in
      (read.is_place, with_modrm _ read.has_modrm, read.written),
  (λ h. read_modrm modrm bytes p rest below h.0 (has_modrm p h.1) h.2),
)
