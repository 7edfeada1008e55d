use Rattle.std.proofs.Common.{◌≡◌, ◌≤◌, length, length-take, arith}
use Rattle.std.proofs.lemmas.List.{length-take-le}
use Rattle.vex_lines.specs.Report.{MayLackMemory}
use Rattle.vex_lines.proofs.ReportLemmas.{SameForLong-report}
use Rattle.vex_lines.proofs.FeedLemmas.{Fed-stopped-handed_on}
use Rattle.vex_lines.proofs.RunLemmas.{Going-first, Going-handed_on, Going-step, Gave-read, Gave-none, Ran-read_fault}
use Rattle.vex_lines.proofs.RunLemmas.{Ran-done, Ran-finish_stopped, Ran-too_long, Ran-feed_stopped, Ran-flush_fault}
use Rattle.vex_lines.proofs.input.answer_input.Goals as goal

pub loop-buffer-init : goal.loop-buffer-init
loop-buffer-init g c = rw c.new-line.ensures (Going-first _ _)

pub returns-in-Err : goal.returns-in-Err
returns-in-Err g c =
    let failed = c.in-Err.ensures in
    Ran-flush_fault _ _ _ _ _ _ c.loop-buffer.invariant (SameForLong-report _ c.requires) _ _ failed.keeps failed.cause

pub returns-in-Err-read : goal.returns-in-Err-read
returns-in-Err-read g c =
    let going = Going-handed_on _ _ _ _ _ _ _ c.loop-buffer.invariant c.flush.ensures.keeps c.in_default.ensures.quiet
    in
    let read = c.in-Err-read.ensures in
    Ran-read_fault _ _ _ _ _ _ going (SameForLong-report _ c.requires) _ _ _ read.keeps read.keeps_number read.cause

pub returns-in-Ok-finish : goal.returns-in-Ok-finish
returns-in-Ok-finish g c =
    let going = Going-handed_on _ _ _ _ _ _ _ c.loop-buffer.invariant c.flush.ensures.keeps c.in_default.ensures.quiet
    in
    let read = c.in-Ok-eq0.ensures in
    let none = c.in-Ok-eq0.field-0-test in
    let written = c.in-Ok-finish.ensures in
    Ran-done _ _ _ _ _ _ going (SameForLong-report _ c.requires) _ _ _
    (Gave-none _ _ _ _ _ c.read.new.into none read.takes read.counts read.quiet)
    (read.end cc) written.appends written.quiet

pub returns-in-Err-finish : goal.returns-in-Err-finish
returns-in-Err-finish g c =
    let going = Going-handed_on _ _ _ _ _ _ _ c.loop-buffer.invariant c.flush.ensures.keeps c.in_default.ensures.quiet
    in
    let read = c.in-Ok-eq0.ensures in
    let none = c.in-Ok-eq0.field-0-test in
    rw c.status.ensures
    (Ran-finish_stopped _ _ _ _ _ _ going (SameForLong-report _ c.requires) _ _ _ _
    (Gave-none _ _ _ _ _ c.read.new.into none read.takes read.counts read.quiet)
    c.in-Err-finish.ensures)

pub returns-in-Ok : goal.returns-in-Ok
returns-in-Ok g c =
    let going = Going-handed_on _ _ _ _ _ _ _ c.loop-buffer.invariant c.flush.ensures.keeps c.in_default.ensures.quiet
    in
    let read = c.in-Ok.ensures in
    let n = c.in-Ok.field-0 in
    let same = c.read.auto.into in
    let asked = length-take c.wanted.result c.loop-buffer.buffer in
    let fits : n ≤ length c.read.new.into = omega arith in
    let one : n ≡ 1 = omega (arith, c.wanted.ensures.at_limit c.if-room-eq0.true) in
    Ran-too_long _ _ _ _ _ _ going (SameForLong-report _ c.requires) _ _
    (Gave-read _ _ _ _ _ c.read.new.into fits read.takes read.counts read.quiet)
    c.if-room-eq0.true (rw (length-take-le n c.read.new.into fits) one)

pub returns-in-Err-feed : goal.returns-in-Err-feed
returns-in-Err-feed g c =
    let going = Going-handed_on _ _ _ _ _ _ _ c.loop-buffer.invariant c.flush.ensures.keeps c.in_default.ensures.quiet
    in
    let read = c.in-Ok.ensures in
    let n = c.in-Ok.field-0 in
    let same = c.read.auto.into in
    let asked = length-take c.wanted.result c.loop-buffer.buffer in
    let fits : n ≤ length c.read.new.into = omega arith in
    let within : n ≤ c.loop-buffer.room = omega (arith, c.wanted.ensures.to_limit (omega arith)) in
    rw c.status-in-Err-feed.ensures
    (Ran-feed_stopped _ _ _ _ _ _ going (SameForLong-report _ c.requires) _ _ _ _ _
    (Gave-read _ _ _ _ _ c.read.new.into fits read.takes read.counts read.quiet)
    (rw (length-take-le n c.read.new.into fits) within)
    (Fed-stopped-handed_on _ _ _ _ _ _ _ _ _ _ _ _ c.in-Err-feed.ensures.written c.stopped.ensures.keeps
    c.stopped.ensures.cause))

pub loop-buffer-preserved : goal.loop-buffer-preserved
loop-buffer-preserved g c =
    let going = Going-handed_on _ _ _ _ _ _ _ c.loop-buffer.invariant c.flush.ensures.keeps c.in_default.ensures.quiet
    in
    let read = c.in-Ok.ensures in
    let n = c.in-Ok.field-0 in
    let same = c.read.auto.into in
    let asked = length-take c.wanted.result c.loop-buffer.buffer in
    let fits : n ≤ length c.read.new.into = omega arith in
    let len = length-take-le n c.read.new.into fits in
    let within : n ≤ c.loop-buffer.room = omega (arith, c.wanted.ensures.to_limit (omega arith)) in
    let fed = c.in_default-feed.ensures in
    rw len at
    (Going-step _ _ (MayLackMemory c.args.command.now) _ _ _ going _ _ _ _ _
    (Gave-read _ _ _ _ _ c.read.new.into fits read.takes read.counts read.quiet)
    (omega arith) (rw len within) fed.kept fed.written.appends fed.written.quiet)
