-- The test of VEX opcodes, by the list and by the parts.
use Rattle.std.proofs.Common.{◌≡◌, ◌↔◌, Bool, true, IsTrue, Contains, sym, ◌∙◌}
use Rattle.std.specs.Cmp.{IsEquivalence}
use Rattle.std.proofs.lemmas.Cmp.{nat_eq_equiv}
use Rattle.std.proofs.lemmas.Map.Views.{list_any-from_Contains, Contains-from_any}
use Rattle.x86_opcode.specs.declared.Opcode.{Opcode}
use Rattle.x86_opcode.specs.Number.{opcode_number, same_opcode}
use Rattle.x86_opcode.specs.Vex.{is_vex, vex_opcodes}
use Rattle.x86_opcode.specs.Number.Lemmas.{same_opcode_equal}
use Rattle.x86_opcode.specs.Vex.Parts.{vex_part, is_vex-vex_part}

-- the test of opcodes is an equivalence
pub same_opcode_equivalence : IsEquivalence same_opcode
unfolding same_opcode
same_opcode_equivalence = record {
  refl = λ x. nat_eq_equiv.refl (opcode_number x);
  symm = λ x y. nat_eq_equiv.symm (opcode_number x) (opcode_number y);
  congr = λ x y z. nat_eq_equiv.congr (opcode_number x) (opcode_number y) (opcode_number z);
}

-- an opcode that passes the test is in the list
pub is_vex_listed : (o : Opcode) → is_vex o ≡ true → Contains vex_opcodes o
unfolding is_vex
is_vex_listed o e = Contains-from_any same_opcode_equal o vex_opcodes e

-- an opcode of the list passes the test
pub listed_is_vex : (o : Opcode) → Contains vex_opcodes o → is_vex o ≡ true
unfolding is_vex
listed_is_vex o h = list_any-from_Contains same_opcode_equivalence o vex_opcodes h

-- what the parts say is what the list says
pub vex_part_tells : (o : Opcode) (answer : Bool) → answer ≡ vex_part o → IsTrue answer ↔ Contains vex_opcodes o
vex_part_tells o answer e =
    let same : answer ≡ is_vex o = e ∙ sym (is_vex-vex_part o) in
    (λ h. is_vex_listed o (sym same ∙ h), λ h. same ∙ listed_is_vex o h)
