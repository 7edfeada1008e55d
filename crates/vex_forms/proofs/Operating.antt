-- The operand E that the code holds is the one that a place names.
use Rattle.std.proofs.Common.{◌⊎◌, inl, inr, List, Ok, ◌≡◌, refl, sym, arith, ℕ, ◌<◌, ◌+◌, ◌*◌, Bool, true, false}
use Rattle.x86_operand.specs.declared.address.Address.{Address}
use Rattle.x86_operand.specs.Kind.{InMemory}
use Rattle.x86_address.specs.Bytes.{bit}
use Rattle.x86_address.specs.Place.{Place, NoPlace, Direct, Based, RipBased, Scaled, Baseless, kind_of}
use Rattle.x86_address.specs.Reads.{NamesAddress}
use Rattle.vex_forms.specs.declared.operand_e.OperandE.TheVariants.{Absent, Register, Memory}
use Rattle.vex_forms.specs.FormWalk.{place_by}
use Rattle.vex_forms.specs.Reads.{IsOperandE}

-- nothing
pub absent : (vector x b : Bool) → IsOperandE vector x b NoPlace Absent
absent vector x b = record { kind = refl; target = refl; number = λ num e. cc; banks = λ address e. cc }

bit_below : (b : Bool) → bit b < 2
bit_below true = omega arith
bit_below false = omega arith

-- a register
pub in_register : (vector x b : Bool) (rm num : ℕ) → rm < 8 → num ≡ rm + 8 * bit b
    → IsOperandE vector x b (Direct rm) (Register num)
in_register vector x b rm num below is = record {
  kind = refl;
  target = rw is refl;
  number = λ n e.
      let same : num ≡ n = cc in
      omega (arith, bit_below b);
  banks = λ address e. cc;
}

-- the step of an operand that is a register
pub direct_step : (has_address : Bool) (mode rm : ℕ) → (has_address ≡ false) ⊎ (mode ≡ 3) → (bytes : List ℕ)
    → place_by has_address mode rm bytes ≡ Ok (Direct rm, bytes)
direct_step false mode rm h bytes = refl
direct_step true mode rm (inl e) bytes = cc
direct_step true mode rm (inr e) bytes = rw e refl

-- what names an address is in memory
named_in_memory : (place : Place) (vector x b : Bool) (address : Address) → NamesAddress vector x b place address
    → kind_of place ≡ InMemory
named_in_memory NoPlace vector x b address named = let e = named.names in cc
named_in_memory (Direct rm) vector x b address named = let e = named.names in cc
named_in_memory (Based rm d) vector x b address named = refl
named_in_memory (RipBased n) vector x b address named = refl
named_in_memory (Scaled k i j d) vector x b address named = refl
named_in_memory (Baseless k i n) vector x b address named = refl

-- an address
pub in_memory : (vector x b : Bool) (place : Place) (address : Address) → NamesAddress vector x b place address
    → IsOperandE vector x b place (Memory address)
in_memory vector x b place address named = record {
  kind = sym (named_in_memory place vector x b address named);
  target = sym named.names;
  number = λ num e. cc;
  banks = λ other e.
      let same : address ≡ other = cc in
      rw (← same) named.banks;
}
