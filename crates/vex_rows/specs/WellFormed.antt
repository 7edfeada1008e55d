-- What the forms and the table must be for the laws of spellings: tests that are computed.
use Rattle.std.specs.Prelude.{nat_lt, ℕ, Bool, true, false, not, ◌&&◌, ◌||◌, ◌==◌, List, [], ◌∷◌, ◌++◌, map, filter}
use Rattle.std.specs.Prelude.{if◌then◌else◌}
use Rattle.std.specs.List.{list_all, list_any}
use Rattle.vex_rows.specs.declared.entry.Entry.{Entry}
use Rattle.vex_rows.specs.declared.entry.Rule.{Rule}
use Rattle.vex_rows.specs.declared.entry.Rule.TheVariants.{Any, Zero, One}
use Rattle.vex_rows.specs.Rules.{map_number, pp_number}
use Rattle.vex_rows.specs.declared.steps.Check.{Check}
use Rattle.vex_rows.specs.declared.steps.Check.TheVariants.{V0, L0, Reg, Mem, Group, VifMem}
use Rattle.vex_rows.specs.Steps.{FormSteps}

-- whether two rules allow one bit
abbrev pub agree : Rule → Rule → Bool
agree Zero One = false
agree One Zero = false
agree _ _ = true

-- whether two entries have a key in common
abbrev pub share_key : Entry → Entry → Bool
share_key a b =
    a.byte == b.byte && map_number a.map == map_number b.map && pp_number a.pp == pp_number b.pp && agree a.w b.w &&
    agree a.l b.l

-- the pairs of entries that have a key in common
abbrev pub clashes : List Entry → List (Entry × Entry)
clashes [] = []
clashes (entry ∷ entries) = map (λ other. (entry, other)) (filter (share_key entry) entries) ++ clashes entries

-- the place of a rule in table order
abbrev pub rule_number : Rule → ℕ
rule_number Any = 0
rule_number Zero = 1
rule_number One = 2

-- what entries are ordered by: map, implied prefix, byte, W rule and L rule
abbrev pub order_of : Entry → List ℕ
order_of entry = map_number entry.map ∷ pp_number entry.pp ∷ entry.byte ∷ rule_number entry.w ∷ rule_number entry.l ∷ []

-- whether a list of numbers comes before another of its length, by the first number in which they differ
abbrev pub comes_before : List ℕ → List ℕ → Bool
comes_before [] ys = false
comes_before (x ∷ xs) [] = false
comes_before (x ∷ xs) (y ∷ ys) = nat_lt x y || (x == y && comes_before xs ys)

-- the entries that don't come after the entry before them, which is `last` for the first
abbrev pub out_of_order_after : Entry → List Entry → List Entry
out_of_order_after last [] = []
out_of_order_after last (entry ∷ entries) =
    (if comes_before (order_of last) (order_of entry) then [] else entry ∷ []) ++ out_of_order_after entry entries

-- the entries that don't come after the entry before them
abbrev pub out_of_order : List Entry → List Entry
out_of_order [] = []
out_of_order (entry ∷ entries) = out_of_order_after entry entries

-- the entries whose opcode byte is above 255
abbrev pub large_bytes : List Entry → List Entry
large_bytes entries = filter (λ entry. not (nat_lt entry.byte 256)) entries

-- whether a check may stand before ModRM: it looks at prefix fields alone
abbrev pub is_prefix_check : Check → Bool
is_prefix_check V0 = true
is_prefix_check L0 = true
is_prefix_check _ = false

-- whether a check may stand between ModRM and the address: it looks at ModRM alone
abbrev pub is_modrm_check : Check → Bool
is_modrm_check Reg = true
is_modrm_check Mem = true
is_modrm_check Group = true
is_modrm_check _ = false

-- whether a check may stand after the address
abbrev pub is_late_check : Check → Bool
is_late_check Reg = true
is_late_check VifMem = true
is_late_check _ = false

-- whether a check is that of a register
abbrev pub is_register_check : Check → Bool
is_register_check Reg = true
is_register_check _ = false

-- whether a check is that of an address in memory
abbrev pub is_memory_check : Check → Bool
is_memory_check Mem = true
is_memory_check _ = false

-- whether there is no check
abbrev pub is_none : List Check → Bool
is_none [] = true
is_none _ = false

-- whether the steps of a form are in order: checks of prefix fields, then ModRM, checks of ModRM, the address, and late
-- checks; without ModRM nothing of it is checked or read; a form that reads no address checks that the operand is a
-- register
abbrev pub is_orderly : FormSteps → Bool
is_orderly form =
    list_all is_prefix_check form.before_modrm && list_all is_modrm_check form.after_modrm && list_all is_late_check
    form.after_address
    && (if form.modrm then form.address || list_any is_register_check form.after_modrm
    else is_none form.after_modrm && is_none form.after_address && not form.address)

-- whether a form that gathers has ModRM and reads an address, and checks first that one is there
abbrev pub checks_address : Bool → FormSteps → Bool
checks_address vector form =
    if vector then form.modrm && form.address && list_any is_memory_check form.after_modrm else true
