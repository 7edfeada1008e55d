-- Each part is what the row and the meaning say.
use Rattle.std.specs.List.{list_any}
use Rattle.std.proofs.Common.{◌≡◌, refl, ap, ap₂, ◌∙◌}
use Rattle.x86_operand.specs.Meaning.{number_of}
use Rattle.vex_forms.specs.Layout.{row_for}
use Rattle.vex_forms.specs.Slots.{slots, names_g}
use Rattle.vex_encode.specs.Standard.{operand_of_kind, imm_of, target_of, reg_for}
use Rattle.vex_list.specs.declared.operands.SlotKind.TheVariants as of_kind
use Rattle.vex_list.specs.Choices.{names, kind_by, lows_of, r_fixed, x_fixed, b_fixed, v_fixed, g_number, v_number}
use Rattle.vex_list.proofs.RowParts.{bit_if, reg_unwrapped, kind_plain}
use Rattle.vex_list.proofs.parts.parts_of.Goals as goal

pub returns : goal.returns
returns c = λ group is.
    let entry = c.args.entry.now in
    let row = row_for entry c.args.w c.args.l c.args.memory group in
    let m = c.args.instruction.now.meaning in
    let slots_are : c.as_slice-slots.result.now ≡ slots row = c.as_slice-slots.ensures.value ∙ is.slots in
    let g_is : c.number-g.result ≡ g_number row m =
    c.number-g.ensures ∙ ap number_of
    (c.operand_of.ensures ∙ ap (λ s. operand_of_kind (names of_kind.G) s m.operands) slots_are) in
    let v_is : c.number-v.result ≡ v_number row m =
    c.number-v.ensures ∙ ap number_of
    (c.operand_of-2.ensures ∙ ap (λ s. operand_of_kind (names of_kind.V) s m.operands) slots_are) in
    let kind_is = ap (λ modrm. kind_by modrm c.args.memory) is.has_modrm ∙ kind_plain entry.form c.args.memory in
    let e_is = c.operand_e-e.ensures ∙ ap₂ target_of kind_is
    (c.operand_of-3.ensures ∙ ap (λ s. operand_of_kind (names of_kind.E) s m.operands) slots_are) in
    let imm_is = c.operand_of-4.ensures ∙ ap (λ s. operand_of_kind (names of_kind.Immediate) s m.operands) slots_are in
    record {
      map = refl;
      pp = refl;
      w = refl;
      l = bit_if c.args.l;
      byte = refl;
      reg = c.unwrap_or.ensures ∙ reg_unwrapped c.args.layout.now.group c.number-g.result
          ∙ ap₂ reg_for is.group g_is;
      target = e_is;
      has_imm = is.has_imm;
      imm = c.immediates_of-imm.ensures.least ∙ ap imm_of imm_is;
      lows = c.immediates_of-imm.ensures.count ∙ ap lows_of imm_is;
      r = c.fixed_r.ensures ∙ ap₂ (λ s g. r_fixed (list_any names_g s) g) slots_are g_is;
      x = c.fixed_x-x.ensures ∙ ap x_fixed e_is;
      b = c.fixed_b-b.ensures ∙ ap b_fixed e_is;
      v = c.fixed_vvvv.ensures.value ∙ ap₂ v_fixed is.vvvv v_is;
    }
