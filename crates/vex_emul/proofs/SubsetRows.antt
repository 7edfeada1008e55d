-- The rows of the eighteen opcodes have the slots that their kinds ask for: a test that is computed over all rows.
use Rattle.std.specs.Prelude.{◌≡◌, refl, ◌↔◌, ℕ, ◌+◌, ◌*◌, ◌<◌, Bool, true, false, not, ◌&&◌, List, [], filter, map}
use Rattle.std.specs.Prelude.{Option, Some, None, IsSome, is_some}
use Rattle.std.specs.List.{list_any}
use Rattle.std.proofs.Common.{sym, ap, subst, ◌∙◌, arith}
use Rattle.x86_operand.specs.declared.register.RegisterBank.{RegisterBank}
use Rattle.x86_operand.specs.declared.register.RegisterBank.TheVariants.{Q}
use Rattle.x86_operand.specs.Kind.{WithoutModRM, InRegister, InMemory, VectorIndexed, plain_kind, is_vector}
use Rattle.x86_operand.specs.Kind as operand
use Rattle.x86_operand.specs.Meaning.{OperandMeaning}
use Rattle.x86_operand.specs.Instruction.{operand_at}
use Rattle.x86_address.specs.Bytes.{bit}
use Rattle.x86_address.specs.Place.{Place, NoPlace, Direct, Based, RipBased, Scaled, Baseless, IsPlace, kind_of, target}
use Rattle.x86_address.specs.Place.{Target}
use Rattle.vex_rows.specs.FormRows.{form_row, gathers}
use Rattle.vex_rows.specs.Groups.{groups}
use Rattle.vex_rows.specs.Steps.{steps}
use Rattle.vex_rows.specs.Table.{table}
use Rattle.vex_rows.specs.Row.{Row, Among, IsRow, rows, choices, exists, has_groups, opcode_of, mark_of}
use Rattle.vex_rows.specs.Row.Lists.{among-filter}
use Rattle.vex_forms.specs.Slots.{slots, index_bank}
use Rattle.vex_forms.specs.Gives.{gives, slot_operand}
use Rattle.vex_forms.specs.Written.{FitsReg}
use Rattle.vex_emul.specs.Subset.{work_of, work_of_kind, IsOfSubset, has_rip}
use Rattle.vex_emul.specs.Subset as subset
use Rattle.vex_emul.specs.Laws.{SubsetExactly}
use Rattle.vex_emul.specs.declared.subset.Kind.{Kind}
use Rattle.vex_emul.proofs.Suiting.{slots_suit, needs_held, IsHeld, Opposite, exactly}

-- whether a bank is that of the general registers of 64 bits
abbrev is_q : RegisterBank → Bool
is_q Q = true
is_q _ = false

-- whether a row has the operand E, where it is needed
abbrev has_e : Bool → operand.Kind → Bool
has_e true WithoutModRM = false
has_e _ _ = true

-- whether a row is one that the kind asks for
abbrev kind_suits : Option Kind → Row → Bool
kind_suits None row = true
kind_suits (Some kind) row = slots_suit kind (slots row) && (is_q (index_bank row) && has_e (needs_held kind) row.kind)

unfoldable row_suits : Row → Bool
row_suits row = kind_suits (subset.kind_of (opcode_of row)) row

unfoldable misfits : List Row → List Row
misfits rows = filter (λ row. not (row_suits row)) rows

none_misfit : misfits rows ≡ []
unfolding misfits row_suits rows choices exists has_groups steps form_row gathers groups table opcode_of slots
    index_bank subset.kind_of
none_misfit = refl

suits : (row : Row) → IsRow row → row_suits row ≡ true
unfolding misfits IsRow
suits row m = by (row_suits row) refl where
  by : (b : Bool) → row_suits row ≡ b → b ≡ true
  by true e = refl
  by false e = absurd (subst (Among row) none_misfit (among-filter (λ row. not (row_suits row)) row rows (ap not e) m))

both : (a b : Bool) → (a && b) ≡ true → (a ≡ true) × (b ≡ true)
both true b h = (refl, h)
both false b h = cc

q_bank : (bank : RegisterBank) → is_q bank ≡ true → bank ≡ Q
q_bank Q h = refl
q_bank _ h = cc

small_reg : (modrm : Bool) (reg : ℕ) → FitsReg modrm reg → reg < 8
small_reg true reg h = h
small_reg false reg h = omega arith

bit_small : (b : Bool) → bit b < 2
bit_small true = omega arith
bit_small false = omega arith

-- what a place of such a row names is held
place_held : (vector : Bool) (place : Place) (x b : Bool) (kind : operand.Kind) → has_e true kind ≡ true
    → kind_of place ≡ plain_kind kind → IsPlace place → IsHeld (target vector place x b)
place_held vector NoPlace x b WithoutModRM has is fits = cc
place_held vector NoPlace x b InRegister has is fits = cc
place_held vector NoPlace x b InMemory has is fits = cc
place_held vector NoPlace x b VectorIndexed has is fits = cc
place_held vector (Direct rm) x b kind has is fits = let k = bit_small b in omega arith
place_held vector (Based rm d) x b kind has is fits = tt
place_held vector (RipBased n) x b kind has is fits = tt
place_held vector (Scaled k i j d) x b kind has is fits = tt
place_held vector (Baseless k i n) x b kind has is fits = tt

-- ---- the law

-- what an instruction of an opcode that isn't one of the eighteen, or of one that is, does by its row
by_kind : (q : List ℕ) (row : Row) (r v reg : ℕ) (e : Target) (imm : ℕ) → reg + 8 * r < 16 → v < 16
    → (kind : Option Kind) → subset.kind_of (opcode_of row) ≡ kind → kind_suits kind row ≡ true
    → (has_e true row.kind ≡ true → IsHeld e)
    → IsSome (work_of q (gives row r v reg e imm)) ↔ IsOfSubset (gives row r v reg e imm)
unfolding work_of gives mark_of
by_kind q row r v reg e imm is_g is_v None is suit held = (
  (λ h. absurd (no_work (sym (ap (λ k. is_some
      (work_of_kind q k (operand_at (operands) 0) (operand_at operands 1) (operand_at operands 2))) is) ∙ h))),
  (λ h. absurd (no_work (sym (ap is_some is) ∙ h.named))),
)
  where
    operands : List OperandMeaning
    operands = map (slot_operand (index_bank row) r v reg e imm) (slots row)

    no_work : false ≡ true → ⊥
    no_work e = cc
by_kind q row r v reg e imm is_g is_v (Some kind) is suit held = (
  (λ h. record { unmarked = refl; named = ap is_some is; without_rip = exact.0 (sym as_kind ∙ h) }),
  (λ h. as_kind ∙ exact.1 h.without_rip),
)
  where
    operands : RegisterBank → List OperandMeaning
    operands bank = map (slot_operand bank r v reg e imm) (slots row)

    parts : (slots_suit kind (slots row) ≡ true) × ((is_q (index_bank row) && has_e (needs_held kind) row.kind) ≡ true)
    parts = both (slots_suit kind (slots row)) (is_q (index_bank row) && has_e (needs_held kind) row.kind) suit

    more : (is_q (index_bank row) ≡ true) × (has_e (needs_held kind) row.kind ≡ true)
    more = both (is_q (index_bank row)) (has_e (needs_held kind) row.kind) parts.1

    bank : index_bank row ≡ Q
    bank = q_bank (index_bank row) more.0

    works_in : RegisterBank → Option Kind → Bool
    works_in bank k = is_some (work_of_kind q k (operand_at (operands bank) 0) (operand_at (operands bank) 1)
        (operand_at (operands bank) 2))

    as_kind : works_in (index_bank row) (subset.kind_of (opcode_of row)) ≡ works_in (index_bank row) (Some kind)
    as_kind = ap (works_in (index_bank row)) is

    exact : Opposite (works_in (index_bank row) (Some kind)) (list_any has_rip (operands (index_bank row)))
    exact =
        subst (λ b. Opposite (works_in b (Some kind)) (list_any has_rip (operands b))) (sym bank)
        (exactly q r v reg e imm is_g is_v kind (slots row) parts.0
        (λ needs. held (subst (λ n. has_e n row.kind ≡ true) needs more.1)))

pub subset_is_exact : SubsetExactly
unfolding row_suits
subset_is_exact bytes m q spells =
    let row = spells.row in
    let parts = spells.by.parts in
    let fits = spells.by.fits in
    let reg = small_reg _ _ fits.reg in
    let r = fits.prefix.r in
    let v = fits.prefix.v in
    subst (λ n. IsSome (work_of q n) ↔ IsOfSubset n) (sym spells.by.means)
    (by_kind q row parts.fields.r parts.fields.v parts.reg
    (target (is_vector row.kind) parts.place parts.fields.x parts.fields.b) parts.imm
    (omega arith) (omega arith) (subset.kind_of (opcode_of row)) refl (suits row spells.is_row)
    (λ has. place_held (is_vector row.kind) parts.place parts.fields.x parts.fields.b row.kind has fits.kind.plain
    fits.place))
