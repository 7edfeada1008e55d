use Rattle.std.proofs.Common.{◌≡◌, ◌∙◌, ◌++◌, ap, arith, length, subst}
use Rattle.std.specs.Prelude.{codes}
use Rattle.vex_lines.specs.LeastLines.{profiles_line}
use Rattle.vex_lines.proofs.LeastLinesLemmas.{Gathered, before-room, gathered-line, gathered-none, gathered-room}
use Rattle.vex_lines.proofs.LeastLinesLemmas.{gathered-step}
use Rattle.vex_lines.proofs.least_lines.write_profiles.Goals as goal

pub loop-name-init : goal.loop-name-init
loop-name-init g c = gathered-none _ _ _ (c.push_str.ensures.bytes ∙ ap (λ t. t ++ codes "profiles") c.clear.ensures)

pub push_accepting-requires : goal.push_accepting-requires
push_accepting-requires g c =
    before-room c.args.needs.now.least c.names-list.result.now c.loop-name.name-index _ c.loop-name.text.bytes
    c.names-list.ensures c.loop-name-test.true c.loop-name.invariant

pub loop-name-preserved : goal.loop-name-preserved
loop-name-preserved g c =
    gathered-step c.args.needs.now.least c.names-list.result.now c.loop-name.name-index _ c.loop-name.text.bytes
    c.push_accepting.new.text.bytes
    c.names-list.ensures c.loop-name-test.true c.loop-name.invariant c.push_accepting.ensures.written
    c.push_accepting.ensures.short

pub push_dash-requires : goal.push_dash-requires
push_dash-requires g c =
    let room =
    gathered-room c.args.needs.now.least c.names-list.result.now c.loop-name.name-index c.loop-name.text.bytes
    c.loop-name.invariant in
    omega (arith, room)

pub push_str-requires-2 : goal.push_str-requires-2
push_str-requires-2 g c =
    let room =
    gathered-room c.args.needs.now.least c.names-list.result.now c.loop-name.name-index c.loop-name.text.bytes
    c.loop-name.invariant in
    (omega arith, omega (arith, room, c.push_dash.ensures.short))

pub returns : goal.returns
returns g c =
    let wanted = c.args.needs.now.least in
    let names = c.names-list.result.now in
    let ended : c.loop-name.name-index ≡ length names =
    omega (arith, c.loop-name-test.false, c.loop-name.auto.name-index-end) in
    let gathered = subst (λ i. Gathered wanted names i c.loop-name.text.bytes) ended c.loop-name.invariant in
    let piece : c.as_bytes.result.now ≡ profiles_line wanted =
    c.as_bytes.ensures.value ∙ c.as_str.ensures.value ∙ c.push_str-2.ensures.bytes
    ∙ ap (λ t. t ++ codes "\n") c.push_dash.ensures.written
    ∙ gathered-line wanted names c.loop-name.text.bytes c.names-list.ensures gathered in
    let written = rw piece at c.write_all.ensures in
    record { appends = written.appends; quiet = written.quiet; front = written.front; cause = written.cause }
