use Rattle.std.proofs.Common.{◌+◌, [], None, refl}
use Rattle.std.proofs.lemmas.List.{take_rest}
use Rattle.std.proofs.lemmas.Result.{err_from_is_err_and}
use Rattle.memchr.specs.Find.{IsFirstByte, is_byte}
use Rattle.vex_lines.proofs.EndsLemmas.{Answers-all}
use Rattle.vex_lines.proofs.FeedLemmas.{EndsAt-found, Fed-none, FedUpTo-line, FedUpTo-rest, FedUpTo-stopped}
use Rattle.vex_lines.proofs.FeedLemmas.{NoEnd-not_found}
use Rattle.vex_lines.proofs.line_buffer.feed.Goals as goal

pub loop-at-init : goal.loop-at-init
loop-at-init g c = record { front = []; split = refl; fed = Fed-none _ _ _ }

pub returns-in_err-end_line-clause-written : goal.returns-in_err-end_line-clause-written
returns-in_err-end_line-clause-written g c =
    let stopped = err_from_is_err_and c.from_residual.result c.from_residual.ensures.1 in
    rw (stopped.1, stopped.2)
    (FedUpTo-stopped _ _ _ _ _ _ _ c.loop-at.invariant _ _ _ _ _ (EndsAt-found _ _ c.in-Some.ensures)
    c.in_err-end_line.ensures.written)

pub loop-at-preserved : goal.loop-at-preserved
loop-at-preserved g c =
    let ended = c.in_ok-end_line.ensures in
    rw (take_rest c.loop-at.rest.now (c.in-Some.at + 1))
    (FedUpTo-line _ _ _ _ _ _ _ c.loop-at.invariant _ _ _ (EndsAt-found _ _ c.in-Some.ensures) ended.kept
    ended.written.appends ended.written.quiet)

pub returns-clause-kept : goal.returns-clause-kept
returns-clause-kept g c =
    let none : IsFirstByte (is_byte 10) c.loop-at.rest.now None = rw c.in_default.is at c.memchr.ensures in
    let fed = FedUpTo-rest _ _ _ _ _ _ _ c.loop-at.invariant _ (NoEnd-not_found _ none) c.append.ensures in
    fed.kept

pub returns-clause-written : goal.returns-clause-written
returns-clause-written g c =
    let none : IsFirstByte (is_byte 10) c.loop-at.rest.now None = rw c.in_default.is at c.memchr.ensures in
    let fed = FedUpTo-rest _ _ _ _ _ _ _ c.loop-at.invariant _ (NoEnd-not_found _ none) c.append.ensures in
    Answers-all _ _ _ _ _ _ _ _ refl fed.written fed.quiet
