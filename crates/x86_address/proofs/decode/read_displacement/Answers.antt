use Rattle.std.proofs.Common.{◌≢◌, arith, ne_eqb}
use Rattle.std.proofs.lemmas.Int.{ints}
use Rattle.x86_address.specs.Bytes.{Long}
use Rattle.x86_address.specs.Follows.Lemmas.{follows_seen, follows_map, follows_ok, follows_false}
use Rattle.x86_address.proofs.decode.read_displacement.Goals as goal

pub returns-in_ok-read_byte-in-1 : goal.returns-in_ok-read_byte-in-1
returns-in_ok-read_byte-in-1 g c = rw c.in-1.is
    (follows_seen _ _ c.in_ok-read_byte-in-1.ensures (follows_ok (omega (arith, ints))))

pub returns-in_default : goal.returns-in_default
returns-in_default g c =
    let some : c.args.mode ≢ 0 = omega arith in
    let more : c.args.mode ≢ 1 = omega arith in
    follows_false _ _ _ (ne_eqb c.args.mode 0 some)
    (follows_false _ _ _ (ne_eqb c.args.mode 1 more)
    (follows_map Long c.read_doubleword.result (λ n disp so. so) c.read_doubleword.ensures))
