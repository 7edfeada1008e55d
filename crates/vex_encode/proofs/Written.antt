-- What is put together and written for a row that can give a meaning is its standard spelling.
use Rattle.std.specs.Prelude.{◌≡◌, refl, ℕ, ◌/◌, ◌%◌, ◌<◌, ◌++◌, ◌∷◌, Bool, true, false, ◌==◌, Option, Some, None}
use Rattle.std.specs.Prelude.{unwrap_or, if◌then◌else◌}
use Rattle.std.specs.Option.{ForSome}
use Rattle.std.proofs.Common.{zero, suc, arith, ap, ap₂, sym, ◌∙◌, subst}
use Rattle.x86_operand.specs.Kind.{Kind, WithoutModRM, InRegister, memory_kind}
use Rattle.x86_operand.specs.Meaning.{Meaning}
use Rattle.x86_address.specs.Bytes.{bit}
use Rattle.x86_address.specs.Place.{Place, NoPlace, Direct, Based, RipBased, Scaled, Baseless, place_bytes, tail_of}
use Rattle.x86_address.specs.Shortest.{shortest, x_of, b_of}
use Rattle.x86_address.specs.declared.encode.AddressBytes.{AddressBytes}
use Rattle.vex_rows.specs.declared.key.Prefix.{Prefix}
use Rattle.vex_rows.specs.declared.entry.Entry.{Entry}
use Rattle.vex_rows.specs.Row.{Row, has_groups, has_imm, is_memory}
use Rattle.vex_rows.specs.FormRows.{gathers}
use Rattle.vex_rows.specs.Steps.{steps}
use Rattle.vex_forms.specs.declared.operand_fields.OperandFields.{OperandFields}
use Rattle.vex_forms.specs.declared.choice.Choice.{Choice}
use Rattle.vex_forms.specs.Slots.{slots, index_bank}
use Rattle.vex_forms.specs.Layout.{chosen, row_for}
use Rattle.vex_forms.specs.Fields.{fields_of}
use Rattle.vex_forms.specs.Operands.{target_seen}
use Rattle.vex_decode.specs.Fields.{prefix_bytes, shortest_form}
use Rattle.vex_decode.specs.Spelling.{bytes_of, imm_bytes}
use Rattle.vex_encode.specs.Standard.{reg_for, candidate}
use Rattle.vex_encode.specs.Assembly.{HasNumbers, IsPlaced, with_reg, g_of, operand_at_e}
use Rattle.vex_encode.specs.Conditions.{CanGive}
use Rattle.vex_encode.proofs.Entries.{with_e}
use Rattle.vex_encode.proofs.Fitting.{placed}

bit_again : (n : ℕ) → n < 2 → bit (n == 1) ≡ n
bit_again zero h = refl
bit_again (suc zero) h = refl
bit_again (suc (suc n)) h = absurd (omega arith)

l_seen : (l : Bool) → bit l ≡ (if l then 1 else 0)
l_seen true = refl
l_seen false = refl

reg_made : (group : Option ℕ) (g : ℕ) → unwrap_or group (g % 8) ≡ reg_for group g
reg_made None g = refl
reg_made (Some group) g = refl

-- the field reg is added to the first byte
reg_added : (reg : ℕ) (place : Place) → with_reg reg (place_bytes 0 place) ≡ place_bytes reg place
reg_added reg NoPlace = refl
reg_added reg (Direct rm) = ap (λ n. n ∷ tail_of (Direct rm)) (omega arith)
reg_added reg (Based rm d) = ap (λ n. n ∷ tail_of (Based rm d)) (omega arith)
reg_added reg (RipBased n) = ap (λ k. k ∷ tail_of (RipBased n)) (omega arith)
reg_added reg (Scaled k i j d) = ap (λ n. n ∷ tail_of (Scaled k i j d)) (omega arith)
reg_added reg (Baseless k i n) = ap (λ m. m ∷ tail_of (Baseless k i n)) (omega arith)

-- a row in memory has a ModRM byte
memory_modrm : (vector modrm memory : Bool)
    → is_memory (if modrm then (if memory then memory_kind vector else InRegister) else WithoutModRM) ≡ true
    → modrm ≡ true
memory_modrm vector true memory h = refl
memory_modrm vector false memory h = cc

group_small : (has : Bool) (group n : ℕ) → group < 8 → (if has then Some group else None) ≡ Some n → n < 8
group_small true group n h e = let same : group ≡ n = cc in omega (arith, same)
group_small false group n h e = cc

-- a group is a value of three bits
pub chosen_group : (choice : Choice) (entry : Entry) (w l memory : Bool) (group : ℕ)
    → chosen choice ≡ row_for entry w l memory group → group < 8 → ForSome choice.group (λ group. group < 8)
chosen_group choice entry w l memory group is small = λ n e.
    group_small (has_groups entry.form) group n small (sym (ap (λ (row : Row). row.group) is) ∙ e)

module _ (choice : Choice) where
  -- the operand E is an address that fits
  pub chosen_placed : (kind : Kind) (m : Meaning) → (chosen choice).kind ≡ kind → CanGive (chosen choice) m
      → IsPlaced kind (index_bank (chosen choice)) (operand_at_e (chosen choice) m)
  unfolding slots
  chosen_placed kind m k gives =
      let row = chosen choice in
      subst (λ kind. IsPlaced kind (index_bank row) (operand_at_e row m)) k
      (placed row.kind _ (slots row) m.operands gives.operands
      (λ memory. with_e row.entry.form row
      (memory_modrm (gathers choice.entry.form) (steps choice.entry.form).modrm choice.memory memory)))

  module _ (m : Meaning) (numbers : OperandFields) (place : AddressBytes) (has : HasNumbers (chosen choice) m numbers)
      (bytes : place.bytes.items ≡ place_bytes 0 (shortest (target_seen numbers.e)))
      (x : place.x ≡ x_of (target_seen numbers.e)) (b : place.b ≡ b_of (target_seen numbers.e)) where
    abbrev pub prefix : Prefix
    prefix = record {
      map = choice.entry.map;
      pp = choice.entry.pp;
      w = choice.w;
      l = choice.l;
      r = numbers.r;
      x =
          place.x;
      b = place.b;
      vvvv = numbers.vvvv;
    }

    fields_made : fields_of prefix ≡ (candidate (chosen choice) m).fields
    unfolding candidate
    fields_made =
        let g = g_of (chosen choice) m in
        let r : bit numbers.r ≡ (g / 8) % 2 = ap bit has.r ∙ bit_again ((g / 8) % 2) (omega arith) in
        let x_is = x ∙ has.e.x in
        let b_is = b ∙ has.e.b in
        let l : bit choice.l ≡ (if choice.l then 1 else 0) = l_seen choice.l in
        λ i. record {
          map = choice.entry.map;
          pp = choice.entry.pp;
          w = choice.w;
          l = l i;
          r = r i;
          x = x_is i;
          b =
              b_is i;
          v = has.vvvv i;
        }

    reg_is : numbers.reg ≡ (candidate (chosen choice) m).reg
    unfolding candidate
    reg_is = has.reg ∙ reg_made (chosen choice).group _

    place_is : place.bytes.items ≡ place_bytes 0 (candidate (chosen choice) m).place
    unfolding candidate
    place_is = bytes ∙ ap (place_bytes 0) has.e.place

    imm_is : numbers.imm ≡ (candidate (chosen choice) m).imm
    unfolding candidate
    imm_is = has.imm

    form_is : (candidate (chosen choice) m).form ≡ shortest_form (candidate (chosen choice) m).fields
    unfolding candidate
    form_is = refl

    pub written : (imm : Bool) → imm ≡ has_imm (chosen choice)
        → prefix_bytes (shortest_form (fields_of prefix)) (fields_of prefix) ++ choice.entry.byte
        ∷ (with_reg numbers.reg place.bytes.items ++ imm_bytes imm numbers.imm)
        ≡ bytes_of (chosen choice) (candidate (chosen choice) m)
    written imm has_it =
        let front : prefix_bytes (shortest_form (fields_of prefix)) (fields_of prefix)
        ≡ prefix_bytes (candidate (chosen choice) m).form (candidate (chosen choice) m).fields =
        ap (λ f. prefix_bytes (shortest_form f) f) fields_made
        ∙ ap (λ form. prefix_bytes form (candidate (chosen choice) m).fields) (sym form_is) in
        let place_and_reg : with_reg numbers.reg place.bytes.items
        ≡ place_bytes (candidate (chosen choice) m).reg (candidate (chosen choice) m).place =
        ap₂ with_reg reg_is place_is ∙ reg_added _ (candidate (chosen choice) m).place in
        λ i. front i ++ choice.entry.byte ∷ (place_and_reg i ++ imm_bytes (has_it i) (imm_is i))
