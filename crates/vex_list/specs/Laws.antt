-- The laws of the spellings of a meaning.
use Rattle.std.specs.Prelude.{◌≡◌, ℕ, ◌<◌, List, Option, find}
use Rattle.std.specs.List.{list_any}
use Rattle.x86_operand.specs.Meaning.{Meaning}
use Rattle.vex_rows.specs.Row.{Row, IsRow}
use Rattle.vex_forms.specs.Slots.{slots, names_g, v_rule}
use Rattle.vex_decode.specs.Fields.{CanSay}
use Rattle.vex_decode.specs.Spelling.{Syntax, IsSyntax, meant}
use Rattle.vex_list.specs.declared.choices.Choices.{Choices}
use Rattle.vex_list.specs.Order.{is_before, IsListOfAll, IsNext}
use Rattle.vex_list.specs.AllSpellings.{all_spellings}
use Rattle.vex_list.specs.Choices.{IsChoices, FormFits, Allows, r_fixed, x_fixed, b_fixed, v_fixed, lows_of}
use Rattle.vex_list.specs.Choices.{prefix_form, chosen_fields, made, g_number, v_number, e_target, imm_operand}

-- a choice is one of those that the row and the meaning leave open
pub record IsOpen (row : Row) (m : Meaning) (c : Choices) : Type 0 where
  pub fits : IsChoices c
  pub form : CanSay (prefix_form c.form) (chosen_fields row c)
  pub r : Allows (r_fixed (list_any names_g (slots row)) (g_number row m)) c.r
  pub x : Allows (x_fixed (e_target row m)) c.x
  pub b : Allows (b_fixed (e_target row m)) c.b
  pub v : Allows (v_fixed (v_rule row) (v_number row m)) c.vvvv
  pub address : FormFits (e_target row m) c.address
  pub low : c.low < lows_of (imm_operand row m)

-- parts are those that some open choice makes
pub record IsMade (row : Row) (s : Syntax) (m : Meaning) : Type 0 where
  pub choices : Choices
  pub is_open : IsOpen row m choices
  pub is : s ≡ made row m choices

-- none is missing: whatever parts of a row mean a meaning are made by some open choice
abbrev pub NoneMissing : Type 0
NoneMissing = (row : Row) (s : Syntax) (m : Meaning) → IsRow row → IsSyntax row s → m ≡ meant row s → IsMade row s m

-- the spellings of every meaning stand in one list, and so are finitely many
abbrev pub AllAreListed : Type 0
AllAreListed = (m : Meaning) → (all : List (List ℕ)) × IsListOfAll m all

-- that list is the only one, and it is the definition's
abbrev pub ListIsOne : Type 0
ListIsOne = (m : Meaning) (xs ys : List (List ℕ)) → IsListOfAll m xs → IsListOfAll m ys → xs ≡ ys

abbrev pub TheseAreAll : Type 0
TheseAreAll = (m : Meaning) → IsListOfAll m (all_spellings m)

-- the least spelling that comes after a string is the first of that list which does, so that the list is gone through
-- by taking the least after the empty string, and then the least after each
abbrev pub NextIsListed : Type 0
NextIsListed =
    (m : Meaning) (all : List (List ℕ)) → IsListOfAll m all → (previous : List ℕ) (next : Option (List ℕ))
    → IsNext m previous next
    → next ≡ find (is_before previous) all
