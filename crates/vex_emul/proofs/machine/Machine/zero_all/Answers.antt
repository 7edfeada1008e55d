use Rattle.std.proofs.Common.{◌≡◌, ◌∙◌, ap, replicate}
use Rattle.vex_emul.specs.Machine.{State}
use Rattle.vex_emul.proofs.InPlace.{all-same}
use Rattle.vex_emul.proofs.machine.Machine.zero_all.Goals as goal

pub returns : goal.returns
returns c =
    let all : c.clear_all.new.vectors ≡ replicate 16 (replicate 32 0) =
    c.clear_all.ensures ∙ all-same (replicate 32 0) c.self.inside.vectors
    ∙ ap (λ n. replicate n (replicate 32 0)) c.self.told.0 in
    rw all (ap (λ (s : State). record s { vectors = replicate 16 (replicate 32 0) }) c.self.view_is)
