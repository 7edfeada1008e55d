use Rattle.std.proofs.Common.{◌≡◌, ◌≢◌, arith}
use Rattle.vex_decode.proofs.Recording.{made_fails, noting_silent, noting_seen, noting_fails, noting_value}
use Rattle.vex_decode.proofs.Recording.{noting_refused}
use Rattle.x86_operand.specs.declared.error.DecodeError.TheVariants.{Outside}
use Rattle.vex_decode.specs.Fields.{C4, C5}
use Rattle.vex_decode.specs.Walk.{form_of}
use Rattle.vex_decode.specs.NotedWalk.{noted_rest}
use Rattle.vex_decode.proofs.NotesTaken.{form_two, form_three, form_other}
use Rattle.vex_decode.proofs.reading.read_instruction.Goals as goal

pub returns-in_err-first : goal.returns-in_err-first
returns-in_err-first g c = noting_fails _ _ (made_fails _ c.from_residual.result _ c.from_residual.ensures)
    (noting_silent _ c.in_err-first.ensures)

pub returns-then-first : goal.returns-then-first
returns-then-first g c =
    let is : c.in_ok-first.first ≡ 0xC5 = omega arith in
    noting_seen _ _ (noting_silent _ c.in_ok-first.ensures)
    (noting_value (form_of c.in_ok-first.first) C5 noted_rest _ (λ bytes. form_two c.in_ok-first.first bytes is)
    c.read_after_two.ensures)

pub returns-then-first-2 : goal.returns-then-first-2
returns-then-first-2 g c =
    let is : c.in_ok-first.first ≡ 0xC4 = omega arith in
    noting_seen _ _ (noting_silent _ c.in_ok-first.ensures)
    (noting_value (form_of c.in_ok-first.first) C4 noted_rest _ (λ bytes. form_three c.in_ok-first.first bytes is)
    c.read_after_three.ensures)

pub returns-else-first-2 : goal.returns-else-first-2
returns-else-first-2 g c =
    let two : c.in_ok-first.first ≢ 0xC5 = omega arith in
    let three : c.in_ok-first.first ≢ 0xC4 = omega arith in
    noting_seen _ _ (noting_silent _ c.in_ok-first.ensures)
    (noting_refused (form_of c.in_ok-first.first) Outside noted_rest (λ e. cc)
    (λ bytes. form_other c.in_ok-first.first bytes two three))
