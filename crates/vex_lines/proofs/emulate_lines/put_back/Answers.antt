use Rattle.std.proofs.Common.{◌≡◌, ◌∙◌, ◌*◌, ap, arith, length, sym}
use Rattle.vex_emul.specs.Machine.{State}
use Rattle.vex_lines.proofs.EmulateLinesLemmas.{length-counting, started, started-all, started-more, started-none}
use Rattle.vex_lines.proofs.emulate_lines.put_back.Goals as goal

pub copy_from_slice-requires : goal.copy_from_slice-requires
copy_from_slice-requires c =
    ap length c.memory_mut.ensures.is ∙ ap (λ (s : State). length s.memory) c.reset.ensures ∙ c.requires
    ∙ sym (ap length c.part.ensures ∙ length-counting 0 1024)

pub copy_from_slice-requires-in-loop-i : goal.copy_from_slice-requires-in-loop-i
copy_from_slice-requires-in-loop-i c =
    sym (ap length c.start_vector.ensures ∙ length-counting (16 * c.loop-i.i) 32)

pub loop-i-init : goal.loop-i-init
loop-i-init c =
    started-none c.reset.new.self c.args.machine.now.memory c.copy_from_slice.new.self c.reset.ensures
    (c.copy_from_slice.ensures.after ∙ c.part.ensures)

pub loop-i-preserved : goal.loop-i-preserved
loop-i-preserved c =
    started-more c.loop-i.i c.loop-i.machine c.set_vector.new.self c.set_q.new.self _ c.from.result c.loop-i.invariant
    (c.copy_from_slice-in-loop-i.ensures.after ∙ c.start_vector.ensures) c.from.ensures c.set_vector.ensures
    c.set_q.ensures

pub returns : goal.returns
returns c =
    let ended : c.loop-i.i ≡ 16 = omega (arith, c.loop-i-test.false, c.loop-i.auto.i-end) in
    c.loop-i.invariant ∙ ap started ended ∙ started-all
