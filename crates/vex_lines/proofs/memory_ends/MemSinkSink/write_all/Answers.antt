use Rattle.std.proofs.Common.{ap, ◌∙◌, ◌++◌, take}
use Rattle.vex_lines.specs.MemoryEnds.{MemSinkView}
use Rattle.vex_lines.specs.Ends.Lemmas.{AppendsFront-take, AppendsFront-none}
use Rattle.vex_lines.proofs.memory_ends.MemSinkSink.write_all.Goals as goal
use Rattle.vex_lines.proofs.memory_ends.MemSinkSink.write_all.Goals.{else-not-contains-via-then-not-contains+else-append-piece}
use Rattle.vex_lines.proofs.memory_ends.MemSinkSink.write_all.Goals.{else-not-contains-via-else-not-contains}

pub returns-clause-front : goal.returns-clause-front
returns-clause-front c =
    let closed = c.self-2.view_is in
    let opened = c.self.view_is in
    elim c.else-not-contains.branch [
      | else-not-contains-via-then-not-contains+else-append-piece w ↦
          let appended = w.append.ensures.after in
          AppendsFront-take _ _ _ w.append.result
          (ap (λ (s : MemSinkView). s.written) (closed ∙ w.self-is ∙ appended)
          ∙ ap (λ (s : MemSinkView). s.written ++ take w.append.result c.args.piece.now) opened)
      | else-not-contains-via-else-not-contains w ↦
          AppendsFront-none _ _ _ (ap (λ (s : MemSinkView). s.written) (closed ∙ w.self-is)
          ∙ ap (λ (s : MemSinkView). s.written) opened)
    ]
