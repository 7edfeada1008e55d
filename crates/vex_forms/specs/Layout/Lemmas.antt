-- Lemmas on the kinds that a form may have, which no contract cites.
use Rattle.std.specs.Prelude.{◌≡◌, refl, Bool, true, false, not, ◌||◌, List, [], ◌∷◌, if◌then◌else◌}
use Rattle.std.proofs.Common.{inl, inr, sym, subst}
use Rattle.x86_operand.specs.Kind.{Kind, WithoutModRM, InRegister, InMemory, VectorIndexed, is_vector, plain_kind}
use Rattle.x86_operand.specs.Kind.{memory_kind}
use Rattle.vex_rows.specs.Row.{Among, is_register, is_memory, is_memory_of}

-- an address is in memory, whatever its index is
pub is_memory-memory_kind : (vector : Bool) → is_memory (memory_kind vector) ≡ true
is_memory-memory_kind true = refl
is_memory-memory_kind false = refl

pub is_memory_of-memory_kind : (vector : Bool) → is_memory_of vector (memory_kind vector) ≡ true
is_memory_of-memory_kind true = refl
is_memory_of-memory_kind false = refl

pub is_register-memory_kind : (vector : Bool) → is_register (memory_kind vector) ≡ false
is_register-memory_kind true = refl
is_register-memory_kind false = refl

pub is_vector-memory_kind : (vector : Bool) → is_vector (memory_kind vector) ≡ vector
is_vector-memory_kind true = refl
is_vector-memory_kind false = refl

pub plain-memory_kind : (vector : Bool) → plain_kind (memory_kind vector) ≡ InMemory
plain-memory_kind true = refl
plain-memory_kind false = refl

pub is_memory-plain : (kind : Kind) → is_memory (plain_kind kind) ≡ is_memory kind
is_memory-plain WithoutModRM = refl
is_memory-plain InRegister = refl
is_memory-plain InMemory = refl
is_memory-plain VectorIndexed = refl

-- the kind of a form that gathers, where it is in memory as such a form wants it
pub vector_kind : (kind : Kind) → is_memory_of true kind ≡ true → kind ≡ VectorIndexed
vector_kind WithoutModRM h = cc
vector_kind InRegister h = cc
vector_kind InMemory h = cc
vector_kind VectorIndexed h = refl

-- the kinds of a form
abbrev pub kinds : Bool → Bool → List Kind
kinds vector modrm = if modrm then InRegister ∷ memory_kind vector ∷ [] else WithoutModRM ∷ []

memory_again : (vector : Bool) → (if is_memory (memory_kind vector) then memory_kind vector else InRegister)
    ≡ memory_kind vector
memory_again true = refl
memory_again false = refl

-- a kind says whether it is in memory, where the form has it
pub kind-again : (vector modrm : Bool) (kind : Kind) → Among kind (kinds vector modrm)
    → (if modrm then (if is_memory kind then memory_kind vector else InRegister) else WithoutModRM) ≡ kind
kind-again vector true kind (inl e) = subst (λ k. (if is_memory k then memory_kind vector else InRegister) ≡ k) (sym e)
    refl
kind-again vector true kind (inr (inl e)) =
    subst (λ k. (if is_memory k then memory_kind vector else InRegister) ≡ k) (sym e) (memory_again vector)
kind-again vector true kind (inr (inr m)) = absurd m
kind-again vector false kind (inl e) = sym e
kind-again vector false kind (inr m) = absurd m

-- and can be there
pub may_be-again : (vector modrm : Bool) (kind : Kind) → Among kind (kinds vector modrm)
    → (modrm || not (is_memory kind)) ≡ true
may_be-again vector true kind m = refl
may_be-again vector false kind (inl e) = subst (λ k. not (is_memory k) ≡ true) (sym e) refl
may_be-again vector false kind (inr m) = absurd m

-- a kind that can be is one of the form's
pub kind-among : (vector modrm memory : Bool) → (modrm || not memory) ≡ true
    → Among (if modrm then (if memory then memory_kind vector else InRegister) else WithoutModRM) (kinds vector modrm)
kind-among vector true true h = inr (inl refl)
kind-among vector true false h = inl refl
kind-among vector false memory h = inl refl
