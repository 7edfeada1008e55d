-- Which addresses bytes can name: those whose base and index fit.
use Rattle.std.proofs.Common.{◌≡◌, inr, ℕ, ◌+◌, ◌*◌, ◌<◌, ◌≤◌, Bool, true, false, List, ◌∷◌, length, Option, Some, None}
use Rattle.std.proofs.Common.{FitsSigned, w32, refl, sym, ap, ◌∙◌, subst, arith}
use Rattle.x86_operand.specs.declared.register.RegisterBank.{RegisterBank}
use Rattle.x86_operand.specs.declared.register.RegisterBank.TheVariants.{Q, D, X, Y, Z, RIP}
use Rattle.x86_operand.specs.declared.address.Address.{Address}
use Rattle.x86_operand.specs.declared.address.Index.{Index}
use Rattle.x86_operand.specs.Register.{Register}
use Rattle.x86_operand.specs.Kind.{Kind, InMemory, VectorIndexed, is_vector, plain_kind, memory_kind}
use Rattle.x86_address.specs.Bytes.{Displacement, Absent, Short, Long, IsUnit}
use Rattle.x86_address.specs.Place.{Place, NoPlace, Direct, Based, RipBased, Scaled, Baseless, IsPlace, kind_of}
use Rattle.x86_address.specs.Place.{mod_of_displacement, mod_of, rm_of, tail_of, place_bytes, Base, NoBase, Rip}
use Rattle.x86_address.specs.Place.{Numbered, PlainAddress, At}
use Rattle.x86_address.specs.Shortest.{plain, plain_base, plain_index, base_in, base_register, index_register, shortest_in}
use Rattle.x86_address.specs.Shortest.{x_of, b_of, IsBase, IsIndex, IsSpellableAddress}
use Rattle.x86_address.specs.Spells.{SpellsAddressIn, BankFits, BaseFits, IndexFits, HasModRM}
use Rattle.x86_address.specs.Spells.Lemmas.{scale_of_power}
use Rattle.x86_address.specs.Place.Lemmas.{place_bytes_split, rm_of_below}
use Rattle.x86_address.specs.Shortest.Lemmas.{is_place-shortest, kind_of-shortest, plain-in_banks}
use Rattle.x86_address.proofs.Spelling.{only_spellable, shortest_spells, shortest_is_least}

-- an index that fits is in bank Q
index_again : (vector : Bool) (index : Option Index) → IndexFits vector index
    → index_register Q (plain_index index) ≡ index
index_again vector None fits = refl
index_again vector (Some index) fits = ap
    (λ bank. Some (record { reg = record { bank = bank; num = index.reg.num }; scale = index.scale })) (sym fits.0)

-- with the instruction pointer there is no index
alone : (base : Option Register) (index : Option Index) → BaseFits base index → plain_base base ≡ Rip
    → plain_index index ≡ None
alone None index fits h = cc
alone (Some reg) index fits h = by_bank reg.bank reg.num fits h
  where
    by_bank : (bank : RegisterBank) (num : ℕ) → BankFits bank index → base_in bank num ≡ Rip → plain_index index ≡ None
    by_bank Q num fits h = cc
    by_bank RIP num fits h = ap plain_index fits
    by_bank D num fits h = absurd fits
    by_bank X num fits h = absurd fits
    by_bank Y num fits h = absurd fits
    by_bank Z num fits h = absurd fits

-- an address whose base and index fit is spelled by the bytes of its shortest place
spelled_of_kind : {unit : ℕ} (kind : Kind) (a : Address) → IsUnit unit → InMemory ≡ plain_kind kind → a.base ≡ base_register (plain_base a.base)
    → IsBase (plain_base a.base) → IsIndex (is_vector kind) (plain_index a.index) → FitsSigned w32 a.disp
    → BaseFits a.base a.index → IndexFits (is_vector kind) a.index
    → SpellsAddressIn unit (place_bytes 0 (shortest_in unit (At (plain a)))) kind 0 (x_of (At (plain a)))
    (b_of (At (plain a))) a
spelled_of_kind {unit} kind a is memory bank base index disp base_fits index_fits = record {
  plain_address = plain a;
  spells = shortest_spells unit kind 0 (At (plain a)) is (omega arith) memory
      (record { base = base; index = index; disp = disp; alone = alone a.base a.index base_fits });
  banks = λ i. record { base = bank i; index = sym (index_again (is_vector kind) a.index index_fits) i; disp = a.disp };
}

pub spelled : {unit : ℕ} (vector : Bool) (a : Address) → IsUnit unit → a.base ≡ base_register (plain_base a.base) → IsBase (plain_base a.base)
    → IsIndex vector (plain_index a.index) → FitsSigned w32 a.disp → BaseFits a.base a.index → IndexFits vector a.index
    → SpellsAddressIn unit (place_bytes 0 (shortest_in unit (At (plain a)))) (memory_kind vector) 0 (x_of (At (plain a)))
    (b_of (At (plain a))) a
spelled false a is = spelled_of_kind InMemory a is refl
spelled true a is = spelled_of_kind VectorIndexed a is refl

-- a base that gets its bank fits
base_given : (base : Base) (index : Option (ℕ × ℕ)) → (base ≡ Rip → index ≡ None)
    → BaseFits (base_register base) (index_register Q index)
base_given NoBase index alone = tt
base_given Rip index alone = ap (index_register Q) (alone refl)
base_given (Numbered n) index alone = tt

-- an index in range that gets bank Q fits
index_given : (vector : Bool) (index : Option (ℕ × ℕ)) → IsIndex vector index
    → IndexFits vector (index_register Q index)
index_given vector None ok = ok
index_given vector (Some index) ok = (refl, ok.1, scale_of_power index.1 (ok.2, ok.3, ok.4))

-- an address that bytes spell has a base and an index that fit
spelled_fits_kind : {unit : ℕ} (bytes : List ℕ) (kind : Kind) (reg : ℕ) (x b : Bool) (a : Address) → IsUnit unit
    → SpellsAddressIn unit bytes kind reg x b a → BaseFits a.base a.index × IndexFits (is_vector kind) a.index
spelled_fits_kind {unit} bytes kind reg x b a is s =
    let ok : IsSpellableAddress (is_vector kind) s.plain_address =
    (only_spellable unit bytes kind reg x b (At s.plain_address) is s.spells).1 in
    subst (λ (a : Address). BaseFits a.base a.index × IndexFits (is_vector kind) a.index) (sym s.banks) (
      base_given s.plain_address.base s.plain_address.index ok.alone,
      index_given (is_vector kind) s.plain_address.index ok.index,
    )

pub spelled_fits : {unit : ℕ} (vector : Bool) (bytes : List ℕ) (reg : ℕ) (x b : Bool) (a : Address) → IsUnit unit
    → SpellsAddressIn unit bytes (memory_kind vector) reg x b a → BaseFits a.base a.index × IndexFits vector a.index
spelled_fits false bytes reg x b a is s = spelled_fits_kind bytes InMemory reg x b a is s
spelled_fits true bytes reg x b a is s = spelled_fits_kind bytes VectorIndexed reg x b a is s

-- no bytes that spell it are fewer than those of its shortest place
pub spelled_least : {unit : ℕ} (bytes : List ℕ) (kind : Kind) (reg : ℕ) (x b : Bool) (a : Address) → IsUnit unit
    → SpellsAddressIn unit bytes kind reg x b a → length (place_bytes 0 (shortest_in unit (At (plain a)))) ≤ length bytes
spelled_least {unit} bytes kind reg x b a is s =
    subst (λ (p : PlainAddress). length (place_bytes 0 (shortest_in unit (At p))) ≤ length bytes)
    (sym (ap plain s.banks ∙ plain-in_banks Q s.plain_address))
    (shortest_is_least unit bytes kind reg 0 x b (At s.plain_address) is s.spells)

-- the mod of a displacement is not 3
mod_below : (d : Displacement) → mod_of_displacement d < 3
mod_below Absent = omega arith
mod_below (Short n) = omega arith
mod_below (Long n) = omega arith

-- the mod of a place in memory is not 3
mod_of_memory : (place : Place) → kind_of place ≡ InMemory → mod_of place < 3
mod_of_memory NoPlace kind = cc
mod_of_memory (Direct rm) kind = cc
mod_of_memory (Based rm d) kind = mod_below d
mod_of_memory (RipBased n) kind = omega arith
mod_of_memory (Scaled k i j d) kind = mod_below d
mod_of_memory (Baseless k i n) kind = omega arith

-- ModRM of a place in memory is below C0 hex, with each field reg
pub has_modrm_byte : (place : Place) → IsPlace place → kind_of place ≡ InMemory → HasModRM (place_bytes 0 place) place
has_modrm_byte place ok kind =
    let low = mod_of_memory place kind in
    let rm = rm_of_below place ok in
    record {
      modrm = 64 * mod_of place + rm_of place;
      rest = tail_of place;
      written = place_bytes_split 0 place (inr kind) ∙ ap (λ n. n ∷ tail_of place) (omega arith);
      with_reg = λ reg. place_bytes_split reg place (inr kind) ∙ ap (λ n. n ∷ tail_of place) (omega arith);
      below = λ reg h. omega arith;
    }

-- so is that of the shortest place of an address
pub shortest_modrm : {unit : ℕ} (a : PlainAddress) → IsUnit unit
    → HasModRM (place_bytes 0 (shortest_in unit (At a))) (shortest_in unit (At a))
shortest_modrm {unit} a is =
    has_modrm_byte (shortest_in unit (At a)) (is_place-shortest (At a) is) (kind_of-shortest unit (At a))
