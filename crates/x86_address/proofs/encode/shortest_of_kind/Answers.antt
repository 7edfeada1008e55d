use Rattle.std.proofs.Common.{◌≡◌, ℕ, refl, rules, FitsSigned, w32, to_z-of_z}
use Rattle.x86_address.specs.Bytes.{IsUnit}
use Rattle.x86_operand.specs.Kind.{memory_kind}
use Rattle.x86_address.specs.Place.{place_bytes, At}
use Rattle.x86_address.specs.Shortest.{plain, plain_base, base_register, plain_index, shortest_in, x_of, b_of, IsBase, IsIndex}
use Rattle.x86_address.specs.Spells.{SpellsAddressIn, BaseFits, IndexFits}
use Rattle.x86_address.proofs.Encodable.{spelled, spelled_fits, spelled_least, shortest_modrm}
use Rattle.x86_address.proofs.encode.shortest_of_kind.Goals.{then-not-base_fits-via-then-not-base_fits}
use Rattle.x86_address.proofs.encode.shortest_of_kind.Goals.{then-not-base_fits-via-else-not-base_fits+then-not-index_fits}
use Rattle.x86_address.proofs.encode.shortest_of_kind.Goals.{After-address_bytes}
use Rattle.x86_address.proofs.encode.shortest_of_kind.Goals as goal

-- the bytes are those of the shortest place
bytes_are : (c : After-address_bytes) → c.address_bytes.result.items
    ≡ place_bytes 0 (shortest_in c.args.unit (At (plain c.args.address.now)))
unfolding shortest_in
bytes_are c =
    let disp : FitsSigned w32 c.args.address.now.disp = search rules in
    simp to_z-of_z at c.address_bytes.ensures

-- in whatever units the bytes of its shortest place spell the address
spelled_in : (c : After-address_bytes) (other : ℕ) → IsUnit other
    → SpellsAddressIn other (place_bytes 0 (shortest_in other (At (plain c.args.address.now))))
    (memory_kind c.args.vector) 0 (x_of (At (plain c.args.address.now))) (b_of (At (plain c.args.address.now)))
    c.args.address.now
spelled_in c other is =
    let a = c.args.address.now in
    let disp : FitsSigned w32 a.disp = search rules in
    let base : IsBase (plain_base a.base) = search rules in
    let bank : a.base ≡ base_register (plain_base a.base) = search rules in
    let index : IsIndex c.args.vector (plain_index a.index) = search rules in
    let base_fits : BaseFits a.base a.index = search rules in
    let index_fits : IndexFits c.args.vector a.index = search rules in
    spelled c.args.vector a is bank base index disp base_fits index_fits

-- so the bytes spell it
spelled_by : (c : After-address_bytes) → SpellsAddressIn c.args.unit c.address_bytes.result.items
    (memory_kind c.args.vector) 0 c.index_is_upper.result c.base_is_upper.result c.args.address.now
spelled_by c = rw (bytes_are c, c.index_is_upper.ensures, c.base_is_upper.ensures)
    (spelled_in c c.args.unit c.requires)

pub returns-then-not-base_fits-clause-none : goal.returns-then-not-base_fits-clause-none
returns-then-not-base_fits-clause-none c = (
  λ none bytes reg x b s.
      let fits = spelled_fits c.args.vector bytes reg x b c.args.address.now c.requires s in
      elim c.then-not-base_fits.branch [
        | then-not-base_fits-via-then-not-base_fits w ↦ search rules
        | then-not-base_fits-via-else-not-base_fits+then-not-index_fits w ↦ search rules
      ],
  λ none. refl,
)

pub returns-then-not-base_fits-clause-others : goal.returns-then-not-base_fits-clause-others
returns-then-not-base_fits-clause-others c = λ other is. (
  λ none bytes reg x b s.
      let fits = spelled_fits c.args.vector bytes reg x b c.args.address.now is s in
      elim c.then-not-base_fits.branch [
        | then-not-base_fits-via-then-not-base_fits w ↦ search rules
        | then-not-base_fits-via-else-not-base_fits+then-not-index_fits w ↦ search rules
      ],
  λ none. refl,
)

pub returns-clause-bytes : goal.returns-clause-bytes
returns-clause-bytes c = bytes_are c

pub returns-clause-spells : goal.returns-clause-spells
returns-clause-spells c = spelled_by c

pub returns-clause-least : goal.returns-clause-least
returns-clause-least c = λ bytes reg x b s. rw (bytes_are c)
    (spelled_least bytes (memory_kind c.args.vector) reg x b c.args.address.now c.requires s)

pub returns-clause-none : goal.returns-clause-none
returns-clause-none c = (λ none. cc, λ none. absurd (none _ 0 _ _ (spelled_by c)))

pub returns-clause-others : goal.returns-clause-others
returns-clause-others c = λ other is. (λ none. cc, λ none. absurd (none _ 0 _ _ (spelled_in c other is)))

pub returns-clause-modrm : goal.returns-clause-modrm
returns-clause-modrm c = rw (bytes_are c) (shortest_modrm (plain c.args.address.now) c.requires)
