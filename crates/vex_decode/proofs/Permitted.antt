-- Further settings permit no less: every row has a VEX opcode, whose condition is a conjunction of bits.
use Rattle.std.specs.Prelude.{◌≡◌, refl, true, false, not, Bool, ℕ, List, [], ◌∷◌, map, filter}
use Rattle.std.proofs.Common.{ap, ◌∙◌, subst, sym}
use Rattle.x86_opcode.specs.declared.Opcode.{Opcode}
use Rattle.x86_opcode.specs.Vex.{is_vex}
use Rattle.x86_opcode.specs.Vex.Parts.{vex_part, is_vex-vex_part}
use Rattle.x86_settings.specs.Bits.{is_set}
use Rattle.x86_settings.specs.Sets.{all_set}
use Rattle.x86_permit.specs.Permission.{permits}
use Rattle.x86_permit.specs.LeastSettings.{least}
use Rattle.x86_permit.specs.LeastSettings.Lemmas.{permits-least}
use Rattle.vex_rows.specs.Groups.{groups}
use Rattle.vex_rows.specs.FormRows.{form_row, gathers}
use Rattle.vex_rows.specs.Steps.{steps}
use Rattle.vex_rows.specs.Table.{table}
use Rattle.vex_rows.specs.Row.{Row, Among, IsRow, rows, choices, exists, has_groups, mark_of, opcode_of}
use Rattle.vex_rows.specs.Row.Lists.{among-map, among-filter, both-parts, parts-both}
use Rattle.vex_decode.specs.Laws.{AreWithin}

-- the opcodes of rows that are no VEX opcodes
abbrev strays : List Row → List Opcode
strays rows = filter (λ o. not (vex_part o)) (map opcode_of rows)

-- there is none
no_strays : strays rows ≡ []
unfolding rows choices exists has_groups steps form_row gathers groups table opcode_of
no_strays = refl

-- every row has a VEX opcode
pub is_vex-row : (row : Row) → IsRow row → is_vex (opcode_of row) ≡ true
unfolding IsRow
is_vex-row row is_row = is_vex-vex_part (opcode_of row) ∙ by (vex_part (opcode_of row)) refl where
  by : (b : Bool) → vex_part (opcode_of row) ≡ b → b ≡ true
  by true e = refl
  by false e = absurd (subst (Among (opcode_of row)) no_strays
      (among-filter (λ o. not (vex_part o)) (opcode_of row) (map opcode_of rows) (ap not e)
      (among-map opcode_of row rows is_row)))

-- bits that are all set stay so
all_set-more : (settings more : List Bool) → AreWithin settings more → (places : List ℕ)
    → all_set settings places ≡ true → all_set more places ≡ true
all_set-more settings more within [] h = refl
all_set-more settings more within (i ∷ places) h =
    let parts = both-parts (is_set settings i) (all_set settings places) h in
    parts-both (is_set more i) (all_set more places) (within i parts.0)
    (all_set-more settings more within places parts.1)

-- the opcode of a row stays permitted
pub permits-more : (settings more : List Bool) → AreWithin settings more → (row : Row) → IsRow row
    → permits settings (mark_of row) (opcode_of row) ≡ true → permits more (mark_of row) (opcode_of row) ≡ true
unfolding mark_of
permits-more settings more within row is_row h =
    let o = opcode_of row in
    let vex = is_vex-row row is_row in
    permits-least more o vex ∙ all_set-more settings more within (least o) (sym (permits-least settings o vex) ∙ h)
