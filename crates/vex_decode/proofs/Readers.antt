-- A decode fails on exhausted input only where no byte is left, and more bytes after those that it takes change
-- nothing.
use Rattle.std.specs.Prelude.{◌≡◌, ℕ, ◌/◌, ◌%◌, Bool, List, [], ◌∷◌, Option, Some, None}
use Rattle.std.proofs.Common.{ap}
use Rattle.x86_operand.specs.declared.error.DecodeError.{DecodeError}
use Rattle.x86_operand.specs.declared.error.DecodeError.TheVariants.{ExhaustedInput, InvalidOpcode, Outside}
use Rattle.x86_operand.specs.Kind.{Kind, WithoutModRM}
use Rattle.x86_address.specs.Reading.{take_byte, take_place}
use Rattle.x86_address.specs.Reading.Lemmas.{IsReader, IsReader-ok, IsReader-err, IsReader-bind, IsReader-if}
use Rattle.x86_address.specs.Reading.Lemmas.{IsReader-wider, Exhausts, IsReader-take_byte}
use Rattle.x86_address.specs.Reading.Places.{IsReader-take_place}
use Rattle.vex_rows.specs.declared.entry.Entry.{Entry}
use Rattle.vex_rows.specs.declared.key.Map.{Map}
use Rattle.vex_rows.specs.declared.steps.Check.{Check}
use Rattle.vex_rows.specs.declared.steps.Check.TheVariants.{V0, L0, Reg, Mem, Group, VifMem}
use Rattle.vex_rows.specs.Steps.{FormSteps, steps}
use Rattle.vex_forms.specs.Fields.{Fields}
use Rattle.vex_decode.specs.Fields.{PrefixForm, C4, C5}
use Rattle.vex_forms.specs.FormWalk.{passes, refusal, check_all, kind_by, take_imm, place_by, walk_modrm, walk_alone}
use Rattle.vex_forms.specs.FormWalk.{walk_form}
use Rattle.vex_decode.specs.Walk.{map_of, fields_of_two, fields_of_three, fields_by_map, read_fields, form_of}
use Rattle.vex_decode.specs.Walk.{read_prefix, key_of, entry_of, found, walk}

-- where the input is exhausted, nothing is left
abbrev pub ExhaustsAll : DecodeError × List ℕ → Type 0
ExhaustsAll error = error.0 ≡ ExhaustedInput → error.1 ≡ []

exhausts_all : (error : DecodeError × List ℕ) → Exhausts error → ExhaustsAll error
exhausts_all error h e = ap (λ x. x.1) h

byte : IsReader ExhaustsAll take_byte
byte = IsReader-wider Exhausts ExhaustsAll take_byte exhausts_all IsReader-take_byte

-- the readers of a prefix
IsReader-fields_by_map : (map : Option Map) (p q : ℕ) → IsReader ExhaustsAll (fields_by_map map p q)
IsReader-fields_by_map None p q = IsReader-err ExhaustsAll InvalidOpcode (λ bytes e. cc)
IsReader-fields_by_map (Some map) p q = IsReader-ok ExhaustsAll (fields_of_three map p q)

IsReader-read_fields : (form : PrefixForm) → IsReader ExhaustsAll (read_fields form)
IsReader-read_fields C5 = IsReader-bind _ take_byte _ byte (λ p. IsReader-ok _ (fields_of_two p))
IsReader-read_fields C4 = IsReader-bind _ take_byte _ byte
    (λ p. IsReader-bind _ take_byte _ byte (λ q. IsReader-fields_by_map (map_of (p % 32)) p q))

IsReader-form_of : (first : ℕ) → IsReader ExhaustsAll (form_of first)
IsReader-form_of first = IsReader-if _ _ _ _ (IsReader-ok _ C5)
    (IsReader-if _ _ _ _ (IsReader-ok _ C4) (IsReader-err _ Outside (λ bytes e. cc)))

pub IsReader-read_prefix : IsReader ExhaustsAll read_prefix
IsReader-read_prefix =
    IsReader-bind _ take_byte _ byte (λ first. IsReader-bind _ (form_of first) _ (IsReader-form_of first)
    (λ form. IsReader-bind _ (read_fields form) _ (IsReader-read_fields form)
    (λ fields. IsReader-ok _ (form, fields))))

-- the look-up of the entry takes nothing
IsReader-found : (entry : Option Entry) → IsReader ExhaustsAll (found entry)
IsReader-found None = IsReader-err _ InvalidOpcode (λ bytes e. cc)
IsReader-found (Some entry) = IsReader-ok _ entry

-- a check's error is not that the input is exhausted
refusal_other : (c : Check) → refusal c ≡ ExhaustedInput → ⊥
refusal_other V0 e = cc
refusal_other L0 e = cc
refusal_other Reg e = cc
refusal_other Mem e = cc
refusal_other Group e = cc
refusal_other VifMem e = cc

IsReader-check_all : (entry : Entry) (f : Fields) (kind : Kind) (reg : ℕ) (cs : List Check)
    → IsReader ExhaustsAll (check_all entry f kind reg cs)
IsReader-check_all entry f kind reg [] = IsReader-ok _ tt
IsReader-check_all entry f kind reg (c ∷ cs) =
    IsReader-if _ (passes entry f kind reg c) _ _ (IsReader-check_all entry f kind reg cs)
    (IsReader-err _ (refusal c) (λ bytes e. absurd (refusal_other c e)))

IsReader-take_imm : (has : Bool) → IsReader ExhaustsAll (take_imm has)
IsReader-take_imm has = IsReader-if _ has _ _ byte (IsReader-ok _ 0)

IsReader-place_by : (address : Bool) (mode rm : ℕ) → IsReader ExhaustsAll (place_by address mode rm)
IsReader-place_by address mode rm = IsReader-if _ address _ _
    (IsReader-wider Exhausts ExhaustsAll (take_place mode rm) exhausts_all (IsReader-take_place mode rm))
    (IsReader-ok _ _)

IsReader-walk_modrm : (entry : Entry) (f : Fields) (form : FormSteps) → IsReader ExhaustsAll (walk_modrm entry f form)
IsReader-walk_modrm entry f form =
    let checks = λ (modrm : ℕ) (cs : List Check). IsReader-check_all entry f (kind_by entry modrm) ((modrm / 8) % 8) cs
    in
    IsReader-bind _ take_byte _ byte (λ modrm.
    IsReader-bind _ (check_all entry f (kind_by entry modrm) ((modrm / 8) % 8) form.after_modrm) _
    (checks modrm form.after_modrm) (λ second.
    IsReader-bind _ (place_by form.address (modrm / 64) (modrm % 8)) _
    (IsReader-place_by form.address (modrm / 64) (modrm % 8)) (λ place.
    IsReader-bind _ (check_all entry f (kind_by entry modrm) ((modrm / 8) % 8) form.after_address) _
    (checks modrm form.after_address) (λ third.
    IsReader-bind _ (take_imm form.imm) _ (IsReader-take_imm form.imm) (λ imm. IsReader-ok _ _)))))

IsReader-walk_alone : (form : FormSteps) → IsReader ExhaustsAll (walk_alone form)
IsReader-walk_alone form = IsReader-bind _ (take_imm form.imm) _ (IsReader-take_imm form.imm) (λ imm. IsReader-ok _ _)

-- the steps of a form
pub IsReader-walk_form : (entry : Entry) (f : Fields) → IsReader ExhaustsAll (walk_form entry f)
unfolding walk_form
IsReader-walk_form entry f =
    IsReader-bind _ (check_all entry f WithoutModRM 0 (steps entry.form).before_modrm) _
    (IsReader-check_all entry f WithoutModRM 0 (steps entry.form).before_modrm) (λ first.
    IsReader-if _ (steps entry.form).modrm _ _ (IsReader-walk_modrm entry f (steps entry.form))
    (IsReader-walk_alone (steps entry.form)))

-- all steps but for the settings
pub IsReader-walk : IsReader ExhaustsAll walk
unfolding walk
IsReader-walk =
    IsReader-bind _ read_prefix _ IsReader-read_prefix (λ prefix.
    IsReader-bind _ take_byte _ byte (λ opcode.
    IsReader-bind _ (found (entry_of (key_of prefix.1 opcode))) _ (IsReader-found (entry_of (key_of prefix.1 opcode)))
    (λ entry.
    IsReader-bind _ (walk_form entry prefix.1) _ (IsReader-walk_form entry prefix.1) (λ operands. IsReader-ok _ _))))
