use Rattle.std.proofs.Common.{◌≤◌}
use Rattle.vex_calls.specs.Settings.{settings_of}
use Rattle.vex_c.specs.Decoding.{AnswersBlocked}
use Rattle.vex_c.proofs.Filled.{filled}
use Rattle.vex_c.proofs.Decoded.{begun, ends}
use Rattle.vex_c.proofs.decoding.vex_decode.Goals as goal

pub returns-clause-begun : goal.returns-clause-begun
returns-clause-begun c =
    begun (settings_of c.args.settings.now) c.args.bytes.now c.first.result _ _ _ c.first.ensures.holds
    c.first.ensures.blocked c.put.ensures

pub returns-clause-holds : goal.returns-clause-holds
returns-clause-holds c =
    (ends (settings_of c.args.settings.now) c.args.bytes.now c.first.result _ _ _ c.first.ensures.holds
    c.first.ensures.blocked c.put.ensures).holds

pub returns-clause-most : goal.returns-clause-most
returns-clause-most c =
    (filled (λ flat. flat.length ≤ 11) (AnswersBlocked (settings_of c.args.settings.now) c.args.bytes.now)
    c.first.result _ _ _ c.first.ensures.most c.first.ensures.blocked c.put.ensures).holds

pub returns-clause-refused : goal.returns-clause-refused
returns-clause-refused c =
    (ends (settings_of c.args.settings.now) c.args.bytes.now c.first.result _ _ _ c.first.ensures.holds
    c.first.ensures.blocked c.put.ensures).refused

pub returns-clause-kept : goal.returns-clause-kept
returns-clause-kept c =
    (ends (settings_of c.args.settings.now) c.args.bytes.now c.first.result _ _ _ c.first.ensures.holds
    c.first.ensures.blocked c.put.ensures).kept
