-- What the slots of a row must be for the laws of spellings: tests that are computed.
use Rattle.std.specs.Prelude.{ℕ, ◌+◌, Bool, not, ◌&&◌, ◌||◌, nat_le, List, [], ◌∷◌, if◌then◌else◌, length}
use Rattle.std.specs.List.{list_any, count_by}
use Rattle.vex_rows.specs.declared.form.Form.{Form}
use Rattle.vex_rows.specs.Steps.{steps}
use Rattle.vex_rows.specs.Row.{Row, has_groups}
use Rattle.vex_forms.specs.declared.slot.Slot.{Slot}
use Rattle.vex_forms.specs.Slots.{slots_of, names_g, names_v, names_e, names_imm, demands_v}

-- how many slots read the immediate byte
abbrev pub immediates : List Slot → ℕ
immediates [] = 0
immediates (slot ∷ slots) = (if names_imm slot then 1 else 0) + immediates slots

-- whether the slots of a form fit its steps: at most one reads the immediate byte, and none where there is none; vvvv
-- isn't demanded to be 0 where a slot names it; without ModRM no slot names the field reg
abbrev pub is_sound : Form → Row → Bool
is_sound form row =
    nat_le (immediates (slots_of form row)) (if (steps form).imm then 1 else 0)
    && not (list_any names_v (slots_of form row)
    && (list_any (demands_v row.kind) (steps form).before_modrm || list_any (demands_v row.kind)
    (steps form).after_address))
    && ((steps form).modrm || not (list_any names_g (slots_of form row)))

-- whether no field is named twice: at most one slot each names reg, vvvv and the operand E
abbrev pub is_distinct : List Slot → Bool
is_distinct slots = nat_le (count_by names_g slots) 1 && nat_le (count_by names_v slots) 1 && nat_le
    (count_by names_e slots) 1

-- whether the fields that slots name are free for them: with groups no slot names the field reg, which says the group,
-- and without ModRM no slot names the operand E
abbrev pub is_free : Form → Row → Bool
is_free form row =
    (not (has_groups form) || not (list_any names_g (slots_of form row)))
    && ((steps form).modrm || not (list_any names_e (slots_of form row)))

-- whether a form has at most four slots
abbrev pub has_few : Form → Row → Bool
has_few form row = nat_le (length (slots_of form row)) 4
