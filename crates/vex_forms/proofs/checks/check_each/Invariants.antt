-- The checks so far have passed, so that all checks give what those from here on give.
use Rattle.std.proofs.Common.{◌≡◌, ℕ, List, drop}
use Rattle.vex_forms.specs.Fields.{fields_of}
use Rattle.vex_forms.specs.FormWalk.{check_all}
use Rattle.vex_forms.specs.Reads.{kind_seen}
use Rattle.vex_forms.proofs.checks.check_each.Given as goal

abbrev pub invariant-loop-check : goal.invariant-loop-check
invariant-loop-check l =
    (bytes : List ℕ) → check_all l.entry (fields_of l.prefix) (kind_seen l.kind) l.reg l.checks bytes
    ≡ check_all l.entry (fields_of l.prefix) (kind_seen l.kind) l.reg (drop l.check-index l.checks) bytes
